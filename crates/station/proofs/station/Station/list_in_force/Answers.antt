use Rattle.std.proofs.Common.{Err, Ok, inr, ap, sym, ◌∙◌, refl, subst}
use Rattle.texts.specs.Shown.{shown}
use Rattle.station.specs.Answers.{Lent}
use Rattle.station.proofs.Forces.{force_after}
use Rattle.station.proofs.station.Station.list_in_force.Goals as goal

pub returns-in-None : goal.returns-in-None
returns-in-None c past h =
    let is = sym (force_after past c.args.self.now (shown c.in_ok-path.path.text) c.args.path.now h c.in_ok-path.ensures.0) ∙ c.in-None.ensures in
    inr (c.in_ok-path.ensures.1.faultless, subst (λ o. Lent o (Err c.at.result)) (sym is) (ap Err c.at.ensures))

pub returns-in-Some : goal.returns-in-Some
returns-in-Some c past h =
    let is = sym (force_after past c.args.self.now (shown c.in_ok-path.path.text) c.args.path.now h c.in_ok-path.ensures.0) ∙ c.in-Some.ensures in
    inr (c.in_ok-path.ensures.1.faultless, subst (λ o. Lent o (Ok c.in-Some.list)) (sym is) refl)
