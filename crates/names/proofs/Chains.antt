-- Words joined by single bytes of some kind, and the machine that reads them.
use Rattle.std.proofs.Common.{◌≡◌, ℕ, ◌+◌, ◌<◌, ◌≤◌, Bool, true, false, cond, not, eqb, ltb, List, [], ◌∷◌, ◌++◌, length, Some, None, Option, sym, refl, ap, ◌∙◌, subst, ⊎_elim, append_assoc, append-nil, arith, ltb-true, le-ltb, lt-ltb, ne_eqb}
use Rattle.std.proofs.slice.Lists.{all_by_recursion_push}
use Rattle.std.proofs.lemmas.List.{length_push}
use Rattle.std.proofs.lemmas.Bool.{cond-true, cond-false, cond_both, cases_lt}
use Rattle.names.specs.Language.{Begins}
use Rattle.names.specs.Words.{word_byte, WordBytes, Joined, lone, linked}
use Rattle.names.specs.Faults.{due_after, word_due}
use Rattle.names.specs.Machine.{next, run}
use Rattle.names.proofs.Machine.{run_append, never}

-- the machine's state is how many bytes the word that is being read has: 0 where one is due
abbrev pub step : (ℕ → Bool) → ℕ → ℕ → Option ℕ
step joins k b = cond (word_byte b) (cond (ltb k 32) (Some (k + 1)) None) (cond (joins b) (cond (ltb 0 k) (Some 0) None) None)

abbrev pub reads : (ℕ → Bool) → List ℕ → Option ℕ
reads joins t = run (step joins) (Some 0) t

letter : word_byte 97 ≡ true
unfolding word_byte
letter = refl

module _ (joins : ℕ → Bool) where
  -- a byte of a word, where the word has room for it
  pub step_word : (k b : ℕ) → word_byte b ≡ true → k < 32 → step joins k b ≡ Some (k + 1)
  step_word k b is lt = cond-true _ _ _ is ∙ cond-true _ _ _ (lt-ltb k 32 lt)

  pub step_full : (k b : ℕ) → word_byte b ≡ true → 32 ≤ k → step joins k b ≡ None
  step_full k b is le = cond-true _ _ _ is ∙ cond-false _ _ _ (le-ltb k 32 le)

  -- a byte that joins, after a word
  pub step_join : (k b : ℕ) → word_byte b ≡ false → joins b ≡ true → 0 < k → step joins k b ≡ Some 0
  step_join k b out is lt = cond-false _ _ _ out ∙ cond-true _ _ _ is ∙ cond-true _ _ _ (lt-ltb 0 k lt)

  pub step_due : (k b : ℕ) → word_byte b ≡ false → k ≡ 0 → step joins k b ≡ None
  step_due k b out is = cond-false _ _ _ out ∙ cond_both (joins b) _ _ (λ o. o ≡ None) (λ _. cond-false _ _ _ (le-ltb 0 k (omega arith))) (λ _. refl)

  pub step_other : (k b : ℕ) → word_byte b ≡ false → joins b ≡ false → step joins k b ≡ None
  step_other k b out no_join = cond-false _ _ _ out ∙ cond-false _ _ _ no_join

  -- a word is read whole
  run_word : (w : List ℕ) (k : ℕ) → WordBytes w → k + length w ≤ 32 → run (step joins) (Some k) w ≡ Some (k + length w)
  run_word [] k bs le = ap Some (omega arith)
  run_word (b ∷ w) k bs le = ap (λ o. run (step joins) o w) (step_word k b bs.0 (omega arith)) ∙ run_word w (k + 1) bs.1 (omega arith) ∙ ap Some (omega arith)

  module _ (apart : (b : ℕ) → joins b ≡ true → word_byte b ≡ false) where
    -- every chain is read to its end
    pub chain_reads : {t : List ℕ} → Joined joins t → (k : ℕ) × (0 < k) × (reads joins t ≡ Some k)
    chain_reads (lone {w = w} h) = (length w, h.some, run_word w 0 h.bytes (omega (arith, h.few)) ∙ ap Some (omega arith))
    chain_reads (linked {w = w} {t = t} {m = m} h is c) =
        let r = chain_reads c in
        let word : reads joins w ≡ Some (length w) = run_word w 0 h.bytes (omega (arith, h.few)) ∙ ap Some (omega arith) in
        let mark : step joins (length w) m ≡ Some 0 = step_join (length w) m (apart m is) is h.some in
        (r.0, r.1, run_append (step joins) (Some 0) w (m ∷ t) ∙ ap (λ o. run (step joins) o (m ∷ t)) word ∙ ap (λ o. run (step joins) o t) mark ∙ r.2)

    pub accepts : (t : List ℕ) → Joined joins t → (k : ℕ) × (reads joins t ≡ Some k)
    accepts t c = let r = chain_reads c in (r.0, r.2)

  -- what is read to the end of a word is a chain; w is the word that is being read
  chain_from : (s w : List ℕ) (k j : ℕ) → WordBytes w → length w ≡ k → k ≤ 32 → 0 < j → run (step joins) (Some k) s ≡ Some j → Joined joins (w ++ s)
  chain_from [] w k j bs e le lt h =
      let same : k ≡ j = cc in
      subst (Joined joins) (sym (append-nil w)) (lone (record { some = omega arith; few = omega arith; bytes = bs }))
  chain_from (b ∷ s) w k j bs e le lt h =
      let P : Option ℕ → Type 0 = λ o. run (step joins) o s ≡ Some j → Joined joins (w ++ (b ∷ s)) in
      let stop : P None = λ r. absurd (never (step joins) s r) in
      cond_both (word_byte b) _ _ P
      (λ isw. cond_both (ltb k 32) _ _ P
      (λ room r. subst (Joined joins) (append_assoc w (b ∷ []) s) (chain_from s (w ++ (b ∷ [])) (k + 1) j (all_by_recursion_push (λ c. word_byte c ≡ true) w b bs isw) (length_push w b ∙ ap (λ n. n + 1) e) (omega (arith, ltb-true k 32 room)) lt r))
      (λ _. stop))
      (λ out. cond_both (joins b) _ _ P
      (λ is. cond_both (ltb 0 k) _ _ P
      (λ some r. linked (record { some = omega (arith, ltb-true 0 k some); few = omega arith; bytes = bs }) is (chain_from s [] 0 j tt refl (omega arith) lt r))
      (λ _. stop))
      (λ _. stop))
      h

  pub chain_of : (s : List ℕ) (j : ℕ) → 0 < j → reads joins s ≡ Some j → Joined joins s
  chain_of s j lt h = chain_from s [] 0 j tt refl (omega arith) lt h

  -- what is read so far begins some chain
  pub begins : (s : List ℕ) (k : ℕ) → reads joins s ≡ Some k → Begins (Joined joins) s
  begins s k h =
      ⊎_elim
      (λ some. ([], subst (Joined joins) (sym (append-nil s)) (chain_of s k some h)))
      (λ due. let none : k ≡ 0 = omega arith in (97 ∷ [], chain_of (s ++ (97 ∷ [])) 1 (omega arith) (run_append (step joins) (Some 0) s (97 ∷ []) ∙ ap (λ o. next (step joins) o 97) (h ∙ ap Some none) ∙ step_word 0 97 letter (omega arith))))
      (cases_lt 0 k)

  pub chain_append : {s t : List ℕ} {m : ℕ} → Joined joins s → joins m ≡ true → Joined joins t → Joined joins (s ++ (m ∷ t))
  chain_append (lone h) is c = linked h is c
  chain_append {t = u} {m = n} (linked {w = w} {t = t} {m = m} h at c) is d = subst (Joined joins) (sym (append_assoc w (m ∷ t) (n ∷ u))) (linked h at (chain_append c is d))

  -- a word is due where the machine has read none of one
  due_from : (s : List ℕ) (k j : ℕ) → run (step joins) (Some k) s ≡ Some j → due_after (eqb k 0) s ≡ eqb j 0
  due_from [] k j h = let same : k ≡ j = cc in ap (λ n. eqb n 0) same
  due_from (b ∷ s) k j h =
      let P : Option ℕ → Type 0 = λ o. run (step joins) o s ≡ Some j → due_after (not (word_byte b)) s ≡ eqb j 0 in
      let stop : P None = λ r. absurd (never (step joins) s r) in
      cond_both (word_byte b) _ _ P
      (λ isw. cond_both (ltb k 32) _ _ P
      (λ room r. ap (λ v. due_after v s) (ap not isw ∙ sym (ne_eqb (k + 1) 0 (λ e. omega arith))) ∙ due_from s (k + 1) j r)
      (λ _. stop))
      (λ out. cond_both (joins b) _ _ P
      (λ is. cond_both (ltb 0 k) _ _ P
      (λ some r. ap (λ v. due_after v s) (ap not out) ∙ due_from s 0 j r)
      (λ _. stop))
      (λ _. stop))
      h

  pub due : (s : List ℕ) (k : ℕ) → reads joins s ≡ Some k → word_due s ≡ eqb k 0
  due s k h = due_from s 0 k h
