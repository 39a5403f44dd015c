use Rattle.std.proofs.Common.{◌≡◌, ℕ, ◌≤◌, Bool, take, Some}
use Rattle.names.specs.Words.{count_of}
use Rattle.names.specs.Joints.{TellsJoints}
use Rattle.names.proofs.Chains.{reads}
use Rattle.names.proofs.joint.check_joined.Given as goal

abbrev pub invariant-loop-i : goal.invariant-loop-i
invariant-loop-i g l =
    ((joint : ℕ → Bool) → TellsJoints g.F.Fn l.joins joint → (reads joint (take l.i l.text) ≡ Some l.letters) × (l.count ≡ count_of joint (take l.i l.text)))
    × (l.count ≤ l.i)
