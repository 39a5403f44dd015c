-- What making a value of a text answers: a value that shows the text, which is lawful; or the one fault of an unlawful
-- text.
use Rattle.std.specs.Prelude.{◌≡◌, ℕ, List, Result, MatchResult}
use Rattle.faults.specs.declared.fault.Fault.{Fault}
use Rattle.faults.specs.Answers.{Accepted, Refused}

abbrev pub Checked : {T : Type 0} → (T → List ℕ) → (List ℕ → Type 0) → (List ℕ → Fault → Type 0) → List ℕ → Result T Fault → Type 0
Checked shows lawful faulty text result =
    MatchResult result (λ x. (shows x ≡ text) × Accepted (lawful text) (faulty text)) (λ f. Refused (lawful text) (faulty text) f)
