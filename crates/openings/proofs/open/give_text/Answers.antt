use Rattle.std.proofs.Common.{◌≡◌, ◌+◌, length, take, is_some, Some, rules, sym, ap, ◌∙◌}
use Rattle.std.proofs.lemmas.Result.{err_from_is_err_and}
use Rattle.faults.specs.declared.kind.Kind.TheVariants.{TextTooLong}
use Rattle.lists.specs.Faults.{long}
use Rattle.books.specs.Tables.{text_of}
use Rattle.openings.specs.Opening.{Meaning}
use Rattle.openings.specs.Opened.{fault_in}
use Rattle.openings.specs.Views.{name_of}
use Rattle.openings.specs.Membership.{Agrees}
use Rattle.openings.specs.OpeningState.{met, given}
use Rattle.openings.proofs.Copying.{copied_long, copied_front}
use Rattle.openings.proofs.Outcomes.{err_source, ok_source}
use Rattle.openings.proofs.Collecting.{has_text, text_fault}
use Rattle.openings.proofs.States.{given_count, progress_of, due_at, one_more}
use Rattle.openings.proofs.open.give_text.Goals as goal

pub returns-in_err-len-clause-answer : goal.returns-in_err-len-clause-answer
returns-in_err-len-clause-answer g c due through =
    let p = err_from_is_err_and c.from_residual.result c.from_residual.ensures.1 in
    let M : Meaning = text_of (g.B.Book.table c.args.book.now) in
    let o = c.args.opening.now in
    let at = due_at o _ due in
    let G = progress_of o M through in
    let (text, has) = has_text G at.below in
    let there : M c.as_bytes.result.now ≡ Some text = ap M (c.as_bytes.ensures ∙ sym at.is) ∙ has in
    let source = err_source _ _ c.copy_text.result c.in_err-len.ensures.cases in
    let over = copied_long text _ there (sym source.1.0 ∙ c.copy_text.ensures.answer) in
    let post = source.1.1 in
    let is : c.in_err-len.field-0.0 ≡ fault_in (length (given o) + 1) TextTooLong 512 = search rules in
    rw (p.1, p.2, is ∙ ap (λ n. fault_in (n + 1) TextTooLong 512) (given_count o)) (text_fault G at.below has (long over))

pub returns-clause-answer : goal.returns-clause-answer
returns-clause-answer g c due through =
    let M : Meaning = text_of (g.B.Book.table c.args.book.now) in
    let o = c.args.opening.now in
    let at = due_at o _ due in
    let (text, has) = has_text (progress_of o M through) at.below in
    let there : M c.as_bytes.result.now ≡ Some text = ap M (c.as_bytes.ensures ∙ sym at.is) ∙ has in
    let read = ok_source _ _ c.copy_text.result c.in_ok-len.ensures.cases in
    let front = copied_front text _ there (sym read ∙ c.copy_text.ensures.answer) in
    let agree : Agrees (met o) (λ h. is_some (text_of (g.B.Book.table c.of.result.book.now) h)) M = λ h unknown. ap (λ b. is_some (text_of (g.B.Book.table b) h)) c.of.ensures in
    c.give.ensures.answer M (name_of c.args.name.now) due (sym (ap M c.as_bytes.ensures) ∙ there ∙ ap Some (sym front ∙ ap (take c.in_ok-len.len) (sym c.copy_text.ensures.buffer))) through agree

pub returns-clause-change : goal.returns-clause-change
returns-clause-change g c due = one_more (λ h. is_some (text_of (g.B.Book.table c.of.result.book.now) h)) (take c.in_ok-len.len c.copy_text.new.buffer) c.args.opening.now c.give.new.self c.give.result c.give.ensures.change due
