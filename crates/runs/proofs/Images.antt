-- The image of a set of starts, found one start after another.
use Rattle.std.proofs.Common.{◌≡◌, ℕ, ◌≢◌, ◌⊎◌, ◌↔◌, subst, inl, inr, ⊎_elim}
use Rattle.std.proofs.lemmas.Bool.{cases_eq}
use Rattle.positions.specs.Places.{Has}
use Rattle.positions.proofs.Digits.{has_or_not}
use Rattle.runs.specs.Relations.{Image}

module _ (Run : ℕ → ℕ → Type 0) where
  -- the image is the ends that are found, and the image of the starts that are left
  abbrev pub Found : ℕ → ℕ → ℕ → Type 0
  Found starts ends left = (j : ℕ) → Image Run starts j ↔ (Has ends j ⊎ Image Run left j)

  module _ (starts ends left f others more : ℕ) (found : Found starts ends left) (here : Has left f) (but : (i : ℕ) → Has others i ↔ (Has left i × (i ≢ f))) (adds : (j : ℕ) → Has more j ↔ (Has ends j ⊎ Run f j)) where
    -- the ends of one start are added
    pub found_more : Found starts more others
    found_more j = (
      λ w. ⊎_elim (λ h. inl ((adds j).1 (inl h))) (λ s. ⊎_elim (λ (e : s.0 ≡ f). inl ((adds j).1 (inr (subst (λ m. Run m j) e s.2)))) (λ ne. inr (s.0, (but s.0).1 (s.1, ne), s.2)) (cases_eq s.0 f)) ((found j).0 w),
      λ v. (found j).1 (⊎_elim (λ h. ⊎_elim (λ o. inl o) (λ a. inr (f, here, a)) ((adds j).0 h)) (λ s. inr (s.0, ((but s.0).0 s.1).0, s.2)) v),
    )

    -- they need no look of their own where a run after such a run is a run
    pub found_skip : (row late : ℕ) → ((j : ℕ) → Has row j ↔ Run f j) → ((i : ℕ) → Has late i ↔ (Has others i × (Has row i → ⊥))) → ((k j : ℕ) → Run f k → Run k j → Run f j) → Found starts more late
    found_skip row late is skips closed j = (
      λ s. ⊎_elim (λ h. inl h) (λ t. ⊎_elim (λ y. inl ((adds j).1 (inr (closed t.0 j ((is t.0).0 y) t.2)))) (λ n. inr (t.0, (skips t.0).1 (t.1, n), t.2)) (has_or_not row t.0)) ((found_more j).0 s),
      λ v. (found_more j).1 (⊎_elim (λ h. inl h) (λ t. inr (t.0, ((skips t.0).0 t.1).0, t.2)) v),
    )
