use mathlib.Core.HLevel.{⊥_prop}
use mathlib.Core.Logic.{∥∥₁_map, ∥∥₁_elim}
use Rattle.std.proofs.Common.{sym, ◌∙◌, rules}
use Rattle.std.proofs.iter.Next.{firm}
use Rattle.lists.proofs.Stepping.{stepped, passed, passes_some}
use Rattle.lists.proofs.walk.ListTokensIterator.next.Goals as goal

pub returns-in_err-next-clause-steps : goal.returns-in_err-next-clause-steps
returns-in_err-next-clause-steps c =
    let self = c.args.self.now in
    absurd (∥∥₁_elim self.readable ⊥_prop (λ row. passes_some self.text.now self.at c.next_token.result _ row c.next_token.ensures.0 (sym c.in_err-next.was ∙ c.ok.ensures.value)))

-- `end` says where the reader stands, and `search` that the walk stands there too
pub invariant_of-self : goal.invariant_of-self
invariant_of-self c =
    let self = c.args.self.now in
    let (found, end) = passed self.text.now self.at c.next_token.result c.in_ok-next.next _ c.next_token.ensures.0 (sym c.in_ok-next.was ∙ c.ok.ensures.value) in
    let step = stepped self.text.now self.at c.in_ok-next.next in
    record { readable = ∥∥₁_map self.readable (step _ found (search rules)).on; within = (step _ found (search rules)).inside }

pub returns : goal.returns
returns c =
    let self = c.args.self.now in
    let (found, end) = passed self.text.now self.at c.next_token.result c.in_ok-next.next _ c.next_token.ensures.0 (sym c.in_ok-next.was ∙ c.ok.ensures.value) in
    let step = stepped self.text.now self.at c.in_ok-next.next in
    record { steps = (step _ found (search rules)).walks; goes = firm (step _ found (search rules)).falls (λ h. search rules) }
