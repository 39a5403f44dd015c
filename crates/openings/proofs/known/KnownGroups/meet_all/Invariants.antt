use Rattle.std.proofs.Common.{◌≡◌, ℕ, List}
use Rattle.texts.specs.Shown.{shown}
use Rattle.lists.specs.Trees.{Sign}
use Rattle.lists.specs.Placed.{Placed}
use Rattle.openings.specs.Membership.{having}
use Rattle.openings.specs.KnownNames.{known}
use Rattle.openings.specs.MetReferences.{AllMet}
use Rattle.openings.proofs.Walking.{Passing}
use Rattle.openings.proofs.known.KnownGroups.meet_all.Given as goal

-- the references up to the place where the walk stands have been met
abbrev pub invariant-loop-lexeme : goal.invariant-loop-lexeme
invariant-loop-lexeme g l =
    (goal.iterator-loop-lexeme g).can_next l.lexeme-iterator
    × (goal.iterator-loop-lexeme g).is_finite l.lexeme-iterator
    × (l.lexeme-iterator.text.now ≡ shown l.list.text)
    × ((ps : List (ℕ × Sign)) → Placed (shown l.list.text) 0 ps → Passing (shown l.list.text) (λ rs. AllMet (having (g.M.Membership.has l.members)) (known l.initial.self) rs (known l.self) l.named.digits) ps l.lexeme-iterator.at)
