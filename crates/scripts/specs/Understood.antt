-- What reading answers: what is lawful, or that nothing is.
use Rattle.std.specs.Prelude.{Option, MatchOption, Result, MatchResult}
use Rattle.scripts.specs.declared.not_understood.NotUnderstood.{NotUnderstood}

-- what is lawful, or none where nothing is
abbrev pub Told : {T : Type 0} → (T → Type 0) → Option T → Type 0
Told {T} Lawful answer = MatchOption answer ((told : T) → Lawful told → ⊥) Lawful

-- what is lawful, or `NotUnderstood` where nothing is
abbrev pub Understood : {T : Type 0} → (T → Type 0) → Result T NotUnderstood → Type 0
Understood {T} Lawful answer = MatchResult answer Lawful (λ refused. (told : T) → Lawful told → ⊥)
