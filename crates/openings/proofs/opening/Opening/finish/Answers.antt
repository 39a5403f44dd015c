use Rattle.std.proofs.Common.{refl}
use Rattle.std.proofs.lemmas.Result.{err_from_is_err_and}
use Rattle.openings.proofs.Concluding.{refused}
use Rattle.openings.proofs.Ending.{whole, counted, ordered, opened}
use Rattle.openings.proofs.opening.Opening.finish.Goals as goal

pub returns-in_err-leads-clause-all_given : goal.returns-in_err-leads-clause-all_given
returns-in_err-leads-clause-all_given c meaning le through =
    let p = err_from_is_err_and c.from_residual.result c.from_residual.ensures.1 in
    rw (p.1, p.2) (refused (c.in_err-leads.ensures.circle meaning le through))

pub returns-in_err-leads-clause-lacking : goal.returns-in_err-leads-clause-lacking
returns-in_err-leads-clause-lacking c meaning name due texts lacks =
    let p = err_from_is_err_and c.from_residual.result c.from_residual.ensures.1 in
    rw (p.1, p.2) (c.in_err-leads.ensures.lacking meaning name due texts lacks)

pub returns-clause-lacking : goal.returns-clause-lacking
returns-clause-lacking c meaning name due texts lacks = c.in_ok-leads.ensures.lacking meaning name due texts lacks

pub invariant_of-result : goal.invariant_of-result
invariant_of-result c =
    let o = c.args.self.now in
    let ends = c.in_ok-leads.ensures.ends in
    record { room = o.room; whole = whole o ends; counted = counted o ends; ordered = ordered o ends }

pub returns-clause-all_given : goal.returns-clause-all_given
returns-clause-all_given c meaning le through = opened c.args.self.now c.in_ok-leads.ensures.ends _ refl refl meaning through
