use Rattle.std.proofs.Common.{◌≡◌, ◌∙◌, ap, length, ◌≤◌, refl, sym, subst, arith}
use Rattle.std.proofs.lemmas.Result.{err_from_is_err_and}
use Rattle.books.specs.Tables.{text_of}
use Rattle.openings.specs.Opened.{OpenFault}
use Rattle.openings.specs.OpeningState.{listed, met, given, Due}
use Rattle.openings.proofs.Outcomes.{some_there}
use Rattle.openings.proofs.States.{given_count, own_given, lacks_due, all_read}
use Rattle.openings.proofs.opening.Opening.leads.Goals as goal

pub unwrap-requires : goal.unwrap-requires
unwrap-requires c =
    let self = c.args.self.now in
    let name = c.as_bytes.result.now in
    let due : Due self name = subst (Due self) (sym c.as_bytes.ensures) c.in-Some.ensures.due in
    some_there (OpenFault (text_of (given self)) (listed self)) c.lacking.result (c.lacking.ensures (text_of (given self)) due (own_given self) (lacks_due self name due))

pub returns-in-Some-clause-lacking : goal.returns-in-Some-clause-lacking
returns-in-Some-clause-lacking c meaning name due texts lacks =
    let self = c.args.self.now in
    let is : name ≡ c.as_bytes.result.now = sym due.is ∙ c.in-Some.ensures.due.is ∙ sym c.as_bytes.ensures in
    rw c.unwrap.ensures at (c.lacking.ensures meaning (subst (Due self) is due) texts (ap meaning (sym is) ∙ lacks))

pub returns-in_err-check_circles-clause-circle : goal.returns-in_err-check_circles-clause-circle
returns-in_err-check_circles-clause-circle c meaning le through =
    let p = err_from_is_err_and c.from_residual.result c.from_residual.ensures.1 in
    let self = c.args.self.now in
    let full : length (met self) ≤ self.links.len = omega (arith, le, given_count self) in
    rw (p.1, p.2) (c.in_err-check_circles.ensures meaning (listed self) (all_read self full meaning through) c.closed-leads.ensures.links)

pub returns-clause-ends : goal.returns-clause-ends
returns-clause-ends c = record {
  none_due = c.in_default.ensures.due;
  count = c.closed-leads.ensures.count;
  closes = c.closed-leads.ensures.links;
  no_circle = λ M progress. c.in_ok-check_circles.ensures M (listed c.args.self.now) progress c.closed-leads.ensures.links;
}
