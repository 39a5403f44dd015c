-- A text leaves a language at one place at most, and only if it is none of its texts.
use Rattle.std.proofs.Common.{◌≡◌, ℕ, ◌+◌, ◌<◌, List, ◌++◌, length, take, drop, sym, ap, ◌∙◌, subst, ⊎_elim, append_assoc, arith, take-append-drop}
use Rattle.std.proofs.lemmas.List.{take-take}
use Rattle.std.proofs.lemmas.Bool.{cases_order}
use Rattle.faults.specs.declared.fault.Fault.{Fault}
use Rattle.faults.specs.Answers.{Accepted, Refused}
use Rattle.names.specs.Language.{Begins, Stuck}

module _ (L : List ℕ → Type 0) where
  -- what begins with a beginning begins so too
  pub begins_front : (s t : List ℕ) (k : ℕ) → Begins L (s ++ t) → Begins L (take k s)
  begins_front s t k (rest, l) =
      let split : (s ++ t) ++ rest ≡ take k s ++ (drop k s ++ (t ++ rest)) = append_assoc s t rest ∙ ap (λ u. u ++ (t ++ rest)) (sym (take-append-drop k s)) ∙ append_assoc (take k s) (drop k s) (t ++ rest) in
      (drop k s ++ (t ++ rest), subst L split l)

  pub stuck_out : (text rest : List ℕ) (p : ℕ) → Stuck L text p → p < length text → Begins L (text ++ rest) → ⊥
  stuck_out text rest p s lt b = s.beyond lt (begins_front text rest (p + 1) b)

  pub stuck_unique : (text : List ℕ) (p q : ℕ) → Stuck L text p → Stuck L text q → p ≡ q
  stuck_unique text p q s t =
      ⊎_elim (λ e. e) (⊎_elim (λ lt. absurd (earlier p q s t lt)) (λ lt. absurd (earlier q p t s lt))) (cases_order p q)
    where
      earlier : (i j : ℕ) → Stuck L text i → Stuck L text j → i < j → ⊥
      earlier i j a b lt =
          let front : take (i + 1) (take j text) ≡ take (i + 1) text = take-take (i + 1) j text (omega arith) in
          let rest = b.before.0 in
          let split : take j text ++ rest ≡ take (i + 1) text ++ (drop (i + 1) (take j text) ++ rest) = ap (λ u. u ++ rest) (sym (take-append-drop (i + 1) (take j text)) ∙ ap (λ u. u ++ drop (i + 1) (take j text)) front) ∙ append_assoc (take (i + 1) text) (drop (i + 1) (take j text)) rest in
          a.beyond (omega (arith, b.within)) (drop (i + 1) (take j text) ++ rest, subst L split b.before.1)

-- a check answers as its faults do: at most one for a text, and none for a lawful one
module _ (Lawful : Type 0) (Told : Fault → Type 0) (one : (f g : Fault) → Told f → Told g → f ≡ g) (none : (f : Fault) → Told f → Lawful → ⊥) where
  pub accepted : Lawful → Accepted Lawful Told
  accepted l = record { lawful = l; faultless = λ f t. none f t l }

  pub refused : (f : Fault) → Told f → Refused Lawful Told f
  refused f t = record { told = t; only = λ g u. one g f u t; unlawful = none f t }
