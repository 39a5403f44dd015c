use Rattle.std.proofs.Common.{rules, refl, ◌∙◌, subst, arith}
use Rattle.std.proofs.lemmas.Result.{err_from_is_err_and}
use Rattle.books.specs.Tables.{text_of}
use Rattle.openings.specs.Opening.{Meaning}
use Rattle.openings.specs.Opened.{OpenFault}
use Rattle.openings.specs.Views.{name_of}
use Rattle.openings.specs.OpeningState.{Due}
use Rattle.openings.specs.Answers.{Answered}
use Rattle.openings.proofs.Concluding.{refused}
use Rattle.openings.proofs.States.{met_few}
use Rattle.openings.proofs.open.read_groups.Goals as goal

pub loop-name-init : goal.loop-name-init
loop-name-init g c = (λ through. through, refl)

pub loop-name-smaller : goal.loop-name-smaller
loop-name-smaller g c =
    let due : Due c.loop-name.opening (name_of c.in-Some.field-0.now) = search rules in
    omega (arith, (c.in_ok-give_text.ensures.change due).1, due.below, met_few c.loop-name.opening)

pub loop-name-preserved : goal.loop-name-preserved
loop-name-preserved g c =
    let due : Due c.loop-name.opening (name_of c.in-Some.field-0.now) = search rules in
    (λ through. c.in_ok-give_text.ensures.answer due (c.loop-name.invariant.0 through), (c.in_ok-give_text.ensures.change due).0 ∙ c.loop-name.invariant.1)

pub returns-in_err-give_text : goal.returns-in_err-give_text
returns-in_err-give_text g c through =
    let p = err_from_is_err_and c.from_residual.result c.from_residual.ensures.1 in
    let due : Due c.loop-name.opening (name_of c.in-Some.field-0.now) = search rules in
    rw (p.1, p.2) (subst (λ t. OpenFault (text_of (g.B.Book.table c.args.book.now)) t c.in_err-give_text.field-0.0) c.loop-name.invariant.1 (c.in_err-give_text.ensures.answer due (c.loop-name.invariant.0 through)))

pub returns : goal.returns
returns g c through = record {
  of_list = c.loop-name.invariant.1;
  none_due = c.in_default.ensures.due;
  through = c.loop-name.invariant.0 through;
}
