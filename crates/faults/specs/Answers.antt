-- What a check answers: its text is lawful and has no fault, or it is unlawful and has one fault alone.
use Rattle.std.specs.Prelude.{◌≡◌}
use Rattle.faults.specs.declared.fault.Fault.{Fault}

pub record Accepted (Lawful : Type 0) (Told : Fault → Type 0) : Type 0 where
  pub lawful : Lawful
  pub faultless : (f : Fault) → Told f → ⊥

pub record Refused (Lawful : Type 0) (Told : Fault → Type 0) (f : Fault) : Type 0 where
  pub told : Told f
  pub only : (g : Fault) → Told g → g ≡ f
  pub unlawful : Lawful → ⊥
