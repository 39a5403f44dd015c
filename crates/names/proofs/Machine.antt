-- A machine that reads a text byte by byte and stops at the first that cannot go on.
use Rattle.std.proofs.Common.{◌≡◌, ℕ, ◌+◌, ◌<◌, List, [], ◌∷◌, ◌++◌, length, get_or, take, Some, None, Option, sym, refl, ap, ◌∙◌, arith}
use Rattle.std.proofs.lemmas.List.{take_more, take_all}
use Rattle.names.specs.Language.{Begins, Stuck}
use Rattle.names.specs.Machine.{next, run}

module _ {S : Type 0} (step : S → ℕ → Option S) where
  pub run_append : (o : Option S) (s t : List ℕ) → run step o (s ++ t) ≡ run step (run step o s) t
  run_append o [] t = refl
  run_append o (b ∷ s) t = run_append (next step o b) s t

  pub run_none : (t : List ℕ) → run step None t ≡ None
  run_none [] = refl
  run_none (b ∷ t) = run_none t

  pub never : {s : S} (t : List ℕ) → run step None t ≡ Some s → ⊥
  never {s} t e = let z : ◌≡◌ {A = Option S} None (Some s) = sym (run_none t) ∙ e in let y : ◌≡◌ {A = ℕ} 0 1 = cc in omega arith

  -- one byte more
  pub run_more : (o : Option S) (text : List ℕ) (i : ℕ) → i < length text → run step o (take (i + 1) text) ≡ next step (run step o (take i text)) (get_or text i 0)
  run_more o text i lt = ap (run step o) (take_more text i 0 lt) ∙ run_append o (take i text) (get_or text i 0 ∷ [])

  -- what a machine that accepts every text of a language, and goes on only where one goes on, tells of it
  module _ (start : S) (L : List ℕ → Type 0) (accepts : (t : List ℕ) → L t → (s : S) × (run step (Some start) t ≡ Some s)) (viable : (t : List ℕ) (s : S) → run step (Some start) t ≡ Some s → Begins L t) where
    pub blocked : (text : List ℕ) (i : ℕ) (s : S) → i < length text → run step (Some start) (take i text) ≡ Some s → step s (get_or text i 0) ≡ None → Stuck L text i
    blocked text i s lt here no_step = record {
      within = omega arith;
      before = viable (take i text) s here;
      beyond = λ _ more.
          let a = accepts _ more.1 in
          let stop : run step (Some start) (take (i + 1) text) ≡ None = run_more (Some start) text i lt ∙ ap (λ o. next step o (get_or text i 0)) here ∙ no_step in
          never more.0 (ap (λ o. run step o more.0) (sym stop) ∙ sym (run_append (Some start) (take (i + 1) text) more.0) ∙ a.1);
      short = λ e. absurd (omega arith);
    }

    pub ended : (text : List ℕ) (s : S) → run step (Some start) text ≡ Some s → (L text → ⊥) → Stuck L text (length text)
    ended text s here out = record {
      within = omega arith;
      before = viable (take (length text) text) s (ap (run step (Some start)) (take_all (length text) text (omega arith)) ∙ here);
      beyond = λ lt. absurd (omega arith);
      short = λ _. out;
    }
