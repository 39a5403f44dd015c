use Rattle.std.proofs.Common.{ℕ, List, sym, subst}
use Rattle.std.proofs.lemmas.Result.{err_from_is_err_and}
use Rattle.faults.specs.declared.fault.Fault.{Fault}
use Rattle.faults.specs.Answers.{Refused}
use Rattle.names.proofs.Leaving.{accepted, refused}
use Rattle.lists.specs.Texts.{LawfulList}
use Rattle.lists.specs.Faults.{ListFault, long, slip}
use Rattle.lists.proofs.UniqueSpelling.{unique_tree}
use Rattle.lists.proofs.OneFault.{one_fault, no_fault}
use Rattle.lists.proofs.list.AccessListLawfulText.new.Goals as goal

refuses : (text : List ℕ) (f : Fault) → ListFault text f → Refused (LawfulList text) (ListFault text) f
refuses text f = refused (LawfulList text) (ListFault text) (one_fault text) (no_fault text) f

pub returns-in_err-held : goal.returns-in_err-held
returns-in_err-held c =
    let text = c.args.text.now in
    let p = err_from_is_err_and c.from_residual.result c.from_residual.ensures.1 in
    let (many, is) = c.in_err-held.ensures in
    record { answer = rw (p.1, p.2) (refuses text _ (subst (ListFault text) (sym is) (long many))); reading = unique_tree text }

pub returns-in_err-check_list : goal.returns-in_err-check_list
returns-in_err-check_list c =
    let text = c.args.text.now in
    let p = err_from_is_err_and c.from_residual-in_err-check_list.result c.from_residual-in_err-check_list.ensures.1 in
    let held = c.in_ok-held.ensures in
    record { answer = rw (p.1, p.2) (refuses text _ (slip held.0 c.in_err-check_list.ensures)); reading = unique_tree text }

pub returns : goal.returns
returns c =
    let text = c.args.text.now in
    let held = c.in_ok-held.ensures in
    record { answer = (held.1, accepted (LawfulList text) (ListFault text) (one_fault text) (no_fault text) (record { form = c.in_ok-check_list.ensures; short = held.0 })); reading = unique_tree text }
