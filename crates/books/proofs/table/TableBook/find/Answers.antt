use Rattle.texts.specs.Shown.{shown}
use Rattle.registers.specs.Registers.{rows_in_use}
use Rattle.books.proofs.Lookups.{text_long, find_cases}
use Rattle.books.proofs.table.TableBook.find.Goals as goal

pub returns-in_err-key : goal.returns-in_err-key
returns-in_err-key c = rw c.from_residual.ensures (text_long (rows_in_use c.args.self.now.groups) c.args.name.now c.in_err-key.ensures)

pub returns : goal.returns
returns c = find_cases (rows_in_use c.args.self.now.groups) (shown c.in_ok-key.key) c.args.name.now c.find.result c.in_ok-key.ensures.1 c.find.ensures
