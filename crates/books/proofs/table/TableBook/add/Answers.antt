use Rattle.std.proofs.Common.{◌≡◌, rules, ◌∙◌}
use Rattle.std.proofs.lemmas.Result.{err_from_is_err_and}
use Rattle.faults.specs.declared.kind.Kind.TheVariants.{NoRowFree}
use Rattle.names.specs.Faults.{fault}
use Rattle.registers.specs.Registers.{rows_in_use}
use Rattle.books.specs.Changes.{bad_name, long_text, no_row}
use Rattle.books.proofs.Changing.{puts_added, no_text, table_length, map_err_keeps}
use Rattle.books.proofs.table.TableBook.add.Goals as goal

pub returns-in_err-name-clause-table : goal.returns-in_err-name-clause-table
returns-in_err-name-clause-table c =
    let p = err_from_is_err_and c.from_residual.result c.from_residual.ensures.1 in
    rw (p.1, p.2) (bad_name c.in_err-name.ensures.told)

pub returns-in_err-text-clause-table : goal.returns-in_err-text-clause-table
returns-in_err-text-clause-table c =
    let p = err_from_is_err_and c.from_residual-in_err-text.result c.from_residual-in_err-text.ensures.1 in
    let over = c.in_err-text.ensures in
    rw (p.1, p.2, over.1) (long_text c.in_ok-name.ensures.1.lawful over.0)

pub returns-clause-table : goal.returns-clause-table
returns-clause-table c =
    let book = c.args.self.now in
    let named = c.in_ok-name.ensures in
    let held = c.in_ok-text.ensures in
    map_err_keeps c.put.result c.map_err.result c.map_err.ensures.cases c.put.ensures.table
    (λ put. puts_added book.groups c.put.new.self _ c.args.name.now c.args.text.now named.0 held.1 put)
    (λ full f made refused.
    let is : f ≡ fault NoRowFree 0 = search rules in
    rw is (no_row named.1.lawful held.0 (no_text book.groups _ c.args.name.now named.0 refused.fresh) (table_length (rows_in_use book.groups) ∙ refused.full ∙ book.rows)))
