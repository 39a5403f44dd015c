-- Names among others: what becomes of them when one more is put at the end.
use Rattle.std.proofs.Common.{◌≡◌, ℕ, zero, suc, ◌⊎◌, List, [], ◌∷◌, ◌++◌, length, sym, ◌∙◌, inl, inr, ⊎_elim, arith, ◌<◌, get_or, refl}
use Rattle.std.proofs.lemmas.List.{length_push, get_or_push, get_or_append_left}
use Rattle.std.proofs.lemmas.Bool.{cases_lt}
use Rattle.std.proofs.lemmas.Grind.{common_steps}
use Rattle.openings.specs.Opening.{Name, Numbered, Known, Distinct}

-- the name at a number has that number
pub numbered_at : {gs : List Name} (k : ℕ) → k < length gs → Numbered gs (get_or gs k []) k
numbered_at k lt = record { below = lt; is = refl }

-- a name is known that is known among all but the first
pub known_more : {gs : List Name} {g h : Name} → Known gs g → Known (h ∷ gs) g
known_more k = (suc k.0, record { below = omega (arith, k.1.below); is = k.1.is })

-- a name that is known is the first, or is known among the others
pub known_cases : {gs : List Name} {g h : Name} → Known (h ∷ gs) g → (h ≡ g) ⊎ Known gs g
known_cases {gs} {g} {h} k = by_number k.0 k.1
  where
    by_number : (k : ℕ) → Numbered (h ∷ gs) g k → (h ≡ g) ⊎ Known gs g
    by_number zero n = inl n.is
    by_number (suc k) n = inr (k, record { below = omega (arith, n.below); is = n.is })

module _ (gs : List Name) (h : Name) where
  -- a name keeps its number
  pub push_keeps : {g : Name} {k : ℕ} → Numbered gs g k → Numbered (gs ++ (h ∷ [])) g k
  push_keeps {k = k} n = record { below = grind (arith, common_steps, n.below); is = grind (arith, common_steps, n.below, n.is) }

  -- the one that is put at the end is known
  pub push_known : Known (gs ++ (h ∷ [])) h
  push_known = (length gs, record { below = omega (arith, length_push gs h); is = get_or_push gs h [] (length gs) (omega arith) })

  -- a number is one from before, or that of the end
  push_number : {g : Name} {k : ℕ} → Numbered (gs ++ (h ∷ [])) g k → Numbered gs g k ⊎ ((k ≡ length gs) × (h ≡ g))
  push_number {k = k} n =
      ⊎_elim
      (λ lt. inl (record { below = lt; is = sym (get_or_append_left gs _ [] k lt) ∙ n.is }))
      (λ le. let e : k ≡ length gs = omega (arith, length_push gs h, n.below) in inr (e, sym (get_or_push gs h [] k (sym e)) ∙ n.is))
      (cases_lt k (length gs))

  -- a name that is known was so before, or is the one at the end
  pub push_source : {g : Name} → Known (gs ++ (h ∷ [])) g → Known gs g ⊎ (h ≡ g)
  push_source n = ⊎_elim (λ m. inl (n.0, m)) (λ e. inr e.1) (push_number n.1)

  -- distinct names stay so, if one is put there that is not known
  pub push_distinct : (Known gs h → ⊥) → Distinct gs → Distinct (gs ++ (h ∷ []))
  push_distinct new apart g j k m n =
      ⊎_elim
      (λ a. ⊎_elim (λ b. apart g j k a b) (λ b. absurd (new (j, record { below = a.below; is = a.is ∙ sym b.1 }))) (push_number n))
      (λ a. ⊎_elim (λ b. absurd (new (k, record { below = b.below; is = b.is ∙ sym a.1 }))) (λ b. a.0 ∙ sym b.0) (push_number n))
      (push_number m)
