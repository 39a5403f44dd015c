use Rattle.std.proofs.Common.{sym, ◌∙◌}
use Rattle.std.proofs.lemmas.Option.{MatchOption-at_some, MatchOption-at_none}
use Rattle.std.proofs.lemmas.Result.{err_from_is_err_and}
use Rattle.texts.specs.Shown.{shown}
use Rattle.registers.specs.Registers.{rows_in_use}
use Rattle.books.proofs.Lookups.{text_long}
use Rattle.books.proofs.Changing.{removes_removed, no_text, ok_or_err}
use Rattle.books.proofs.table.TableBook.remove.Goals as goal

pub returns-in_err-key-clause-table : goal.returns-in_err-key-clause-table
returns-in_err-key-clause-table c =
    let p = err_from_is_err_and c.from_residual.result c.from_residual.ensures.1 in
    let none = ok_or_err c.copy_of.result c.at-lacking.result c.in_err-key.field-0.0 c.in_err-key.ensures.value in
    rw (p.1, p.2, none.1) (c.at-lacking.ensures, text_long (rows_in_use c.args.self.now.groups) c.args.name.now (MatchOption-at_none _ _ none.0 c.copy_of.ensures))

pub returns-in_err-ok_or-clause-table : goal.returns-in_err-ok_or-clause-table
returns-in_err-ok_or-clause-table c =
    let p = err_from_is_err_and c.from_residual-in_err-ok_or.result c.from_residual-in_err-ok_or.ensures.1 in
    let none = ok_or_err c.remove.result c.at-lacking.result c.in_err-ok_or.field-0.0 c.in_err-ok_or.ensures.value in
    let held = MatchOption-at_some _ _ c.in_ok-key.key c.in_ok-key.ensures.ok_part c.copy_of.ensures in
    rw (p.1, p.2, none.1) (c.at-lacking.ensures, no_text c.args.self.now.groups (shown c.in_ok-key.key) c.args.name.now held.1 (sym c.remove.ensures.table.answered ∙ none.0))

pub returns-clause-table : goal.returns-clause-table
returns-clause-table c =
    let held = MatchOption-at_some _ _ c.in_ok-key.key c.in_ok-key.ensures.ok_part c.copy_of.ensures in
    removes_removed c.args.self.now.groups c.remove.new.self (shown c.in_ok-key.key) c.args.name.now c.in_ok-ok_or.field-0 held.1 (rw (← c.in_ok-ok_or.ensures.ok_part) c.remove.ensures.table)
