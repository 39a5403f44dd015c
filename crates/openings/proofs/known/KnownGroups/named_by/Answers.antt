use Rattle.std.proofs.Common.{subst}
use Rattle.std.proofs.lemmas.Result.{err_from_is_err_and}
use Rattle.openings.specs.MetReferences.{AllMet, HaltsIn}
use Rattle.openings.specs.Membership.{having}
use Rattle.openings.specs.KnownNames.{known}
use Rattle.openings.proofs.known.KnownGroups.named_by.Goals as goal

pub returns-in_err-meet_all : goal.returns-in_err-meet_all
returns-in_err-meet_all g c =
    let p = err_from_is_err_and c.from_residual.result c.from_residual.ensures.1 in
    let has = g.M.Membership.has c.args.members.now in
    rw (p.1, p.2) (λ rs refers. subst (λ gs. HaltsIn (having has) gs rs c.in_err-meet_all.field-0.0) c.new-names.ensures (c.in_err-meet_all.ensures rs refers))

pub returns : goal.returns
returns g c =
    let has = g.M.Membership.has c.args.members.now in
    (c.in_ok-meet_all.field-0.digits, λ rs refers. subst (λ gs. AllMet (having has) gs rs (known c.meet_all.new.self) c.in_ok-meet_all.field-0.digits) c.new-names.ensures (c.in_ok-meet_all.ensures rs refers))
