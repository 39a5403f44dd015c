-- What is among texts, and texts that get shorter.
use Rattle.std.proofs.Common.{◌≡◌, ◌⊎◌, ℕ, ◌<◌, List, [], ◌∷◌, ◌++◌, map, length, refl, ap, arith, ⊎_elim, inl, inr}

abbrev pub In : List ℕ → List (List ℕ) → Type 0
In x [] = ⊥
In x (y ∷ ys) = (x ≡ y) ⊎ In x ys

pub in_left : (x : List ℕ) (xs ys : List (List ℕ)) → In x xs → In x (xs ++ ys)
in_left x [] ys h = absurd h
in_left x (z ∷ xs) ys h = ⊎_elim (λ e. inl e) (λ k. inr (in_left x xs ys k)) h

pub in_right : (x : List ℕ) (xs ys : List (List ℕ)) → In x ys → In x (xs ++ ys)
in_right x [] ys h = h
in_right x (z ∷ xs) ys h = inr (in_right x xs ys h)

pub in_either : (x : List ℕ) (xs ys : List (List ℕ)) → In x (xs ++ ys) → In x xs ⊎ In x ys
in_either x [] ys h = inr h
in_either x (z ∷ xs) ys h = ⊎_elim (λ e. inl (inl e)) (λ k. ⊎_elim (λ i. inl (inr i)) (λ i. inr i) (in_either x xs ys k)) h

module _ (b : ℕ) where
  abbrev pub longer : List (List ℕ) → List (List ℕ)
  longer xs = map (λ front. b ∷ front) xs

  pub in_longer : (x : List ℕ) (xs : List (List ℕ)) → In x xs → In (b ∷ x) (longer xs)
  in_longer x [] h = absurd h
  in_longer x (z ∷ xs) h = ⊎_elim (λ e. inl (ap (λ t. b ∷ t) e)) (λ k. inr (in_longer x xs k)) h

  pub longer_in : (x : List ℕ) (xs : List (List ℕ)) → In x (longer xs) → (y : List ℕ) × (In y xs × (x ≡ b ∷ y))
  longer_in x [] h = absurd h
  longer_in x (z ∷ xs) h =
      ⊎_elim
      (λ e. (z, (inl refl, e)))
      (λ k. let w = longer_in x xs k in (w.0, (inr w.1.0, w.1.1)))
      h

-- each text is longer than all behind it
abbrev pub Falling : List (List ℕ) → Type 0
Falling [] = Unit {0}
Falling (x ∷ xs) = ((y : List ℕ) → In y xs → length y < length x) × Falling xs

pub longer_falling : (b : ℕ) (xs : List (List ℕ)) → Falling xs → Falling (longer b xs)
longer_falling b [] h = tt
longer_falling b (x ∷ xs) h = (
  λ y k. let w = longer_in b y xs k in let lt : length w.0 < length x = h.0 w.0 w.1.0 in let e = ap length w.1.1 in omega (arith, lt, e),
  longer_falling b xs h.1,
)

pub falling_both : (xs ys : List (List ℕ)) → Falling xs → Falling ys → ((x y : List ℕ) → In x xs → In y ys → length y < length x) → Falling (xs ++ ys)
falling_both [] ys h k f = k
falling_both (x ∷ xs) ys h k f = (
  λ y i. ⊎_elim (λ j. h.0 y j) (λ j. f x y (inl refl) j) (in_either y xs ys i),
  falling_both xs ys h.1 k (λ z y i j. f z y (inr i) j),
)
