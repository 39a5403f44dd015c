-- What holds of each element of a list.
use Rattle.std.proofs.Common.{◌≡◌, Bool, true, List, [], ◌∷◌, ◌++◌}
use Rattle.std.proofs.lemmas.Bool.{and_parts}
use Rattle.std.specs.List.{AllByRecursion, list_all}

module _ {X : Type 0} (P : X → Type 0) where
  -- of those of two joined lists
  pub every_front : (xs ys : List X) → AllByRecursion P (xs ++ ys) → AllByRecursion P xs
  every_front [] ys h = tt
  every_front (x ∷ xs) ys h = (h.0, every_front xs ys h.1)

  pub every_back : (xs ys : List X) → AllByRecursion P (xs ++ ys) → AllByRecursion P ys
  every_back [] ys h = h
  every_back (x ∷ xs) ys h = every_back xs ys h.1

  -- of those that pass a test
  pub every_passed : (test : X → Bool) → ((x : X) → test x ≡ true → P x) → (xs : List X) → list_all test xs ≡ true → AllByRecursion P xs
  every_passed test f [] e = tt
  every_passed test f (x ∷ xs) e = let h = and_parts (test x) (list_all test xs) e in (f x h.0, every_passed test f xs h.1)
