-- Going through the places of a set, one after another from the least on, and keeping those of a kind.
use Rattle.std.proofs.Common.{◌≡◌, ℕ, ◌≢◌, ◌↔◌, sym, subst, inl, inr, ⊎_elim}
use Rattle.std.proofs.lemmas.Bool.{cases_eq}
use Rattle.positions.specs.Places.{Has, Split}
use Rattle.name_parts.proofs.Noting.{Inserted}

module _ (Kind : ℕ → Type 0) (all : ℕ) where
  -- the places of the kind, but for those that are left
  pub record Found (left places : ℕ) : Type 0 where
    pub among : (i : ℕ) → Has left i → Has all i
    pub found : (i : ℕ) → Has places i ↔ ((Has all i × Kind i) × (Has left i → ⊥))

  module _ (left places : ℕ) (was : Found left places) where
    pub found_all : ((i : ℕ) → Has left i → ⊥) → (i : ℕ) → Has places i ↔ (Has all i × Kind i)
    found_all none i = (λ h. ((was.found i).0 h).0, λ w. (was.found i).1 (w, none i))

    module _ (first rest : ℕ) (split : Split left first rest) where
      rest_among : (i : ℕ) → Has rest i → Has all i
      rest_among i h = was.among i ((split.others i).0 h).0

      -- another place is left if it was
      still_left : (i : ℕ) → i ≢ first → (Has rest i → ⊥) → Has left i → ⊥
      still_left i ne gone h = gone ((split.others i).1 (h, ne))

      pub found_hit : (places' : ℕ) → Kind first → Inserted places first places' → Found rest places'
      found_hit places' is more = record {
        among = rest_among;
        found = λ i. (
          λ h. ⊎_elim
              (λ old. let w = (was.found i).0 old in (w.0, λ r. w.1 ((split.others i).0 r).0))
              (λ new. ((subst (Has all) (sym new.0) (was.among first split.first.here), subst Kind (sym new.0) is), λ r. ((split.others i).0 r).1 new.0))
              ((more i).0 h),
          λ w. ⊎_elim
              (λ (e : i ≡ first). (more i).1 (inr (e, split.below)))
              (λ (ne : i ≢ first). (more i).1 (inl ((was.found i).1 (w.0, still_left i ne w.1))))
              (cases_eq i first),
        );
      }

      pub found_miss : (Kind first → ⊥) → Found rest places
      found_miss other = record {
        among = rest_among;
        found = λ i. (
          λ h. let w = (was.found i).0 h in (w.0, λ r. w.1 ((split.others i).0 r).0),
          λ w. ⊎_elim
              (λ (e : i ≡ first). absurd (other (subst Kind e w.0.1)))
              (λ (ne : i ≢ first). (was.found i).1 (w.0, still_left i ne w.1))
              (cases_eq i first),
        );
      }
