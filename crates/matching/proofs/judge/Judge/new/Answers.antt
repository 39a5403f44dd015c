use Rattle.std.proofs.Common.{◌≡◌, ℕ, zero, suc, get_or, None, Option, refl, sym, ◌∙◌}
use Rattle.std.proofs.Math.ListN.{replicate}
use Rattle.runs.specs.declared.relation.Runs.{Runs}
use Rattle.matching.proofs.judge.Judge.new.Goals as goal

-- a row of nothing holds nothing
nothing : (n k : ℕ) → get_or {A = Option Runs} (replicate n None) k None ≡ None
nothing zero k = refl
nothing (suc n) zero = refl
nothing (suc n) (suc k) = nothing n k

pub returns-clause-none : goal.returns-clause-none
returns-clause-none g c k (runs, is) = let both = sym (nothing 32 k) ∙ is in cc
