-- What a call returned whose error was then turned into another.
use Rattle.std.proofs.Common.{◌≡◌, ℕ, Some, None, Option, MatchOption, Ok, Err, Result, refl, ap, MatchResult, arith}
use Rattle.std.proofs.lemmas.Grind.{common_steps}
use Rattle.std.specs.Option.{IsSome}

module _ {X D : Type 0} where
  -- the error that it was turned from
  pub err_source : (E : Type 0) {P : D → Type 0} (f : E) (r : Result X D) → MatchResult r (λ x. ◌≡◌ {A = Result X E} (Err f) (Ok x)) P → (e : D) × ((r ≡ Err e) × P e)
  err_source E f (Ok x) h = let z : ◌≡◌ {A = ℕ} 0 1 = cc in absurd (omega arith)
  err_source E f (Err e) h = (e, (refl, h))

  -- a value stays
  pub ok_source : (E : Type 0) (x : X) (r : Result X D) → MatchResult r (λ y. ◌≡◌ {A = Result X E} (Ok x) (Ok y)) (λ e. ⊥) → r ≡ Ok x
  ok_source E x (Ok y) h = let same : y ≡ x = cc in ap Ok same
  ok_source E x (Err e) h = absurd h

-- an answer that cannot be none is some
pub some_there : {X : Type 0} (P : X → Type 0) (r : Option X) → MatchOption r ⊥ P → IsSome r
some_there P None h = absurd h
some_there P (Some x) h = grind (arith, common_steps)
