-- The tokens that the reader hands out, with the blanks between them, are the text again.
use Rattle.std.proofs.Common.{◌≡◌, ℕ, zero, suc, ◌+◌, ◌-◌, ◌<◌, ◌≤◌, Bool, true, false, List, [], ◌∷◌, ◌++◌, length, take, drop, sym, refl, ap, ◌∙◌, subst, append-nil, arith, length-append, length-drop}
use lib.ListN.{length-replicate}
use Rattle.std.proofs.lemmas.List.{drop_all, drop-drop, take_at, drop_at}
use Rattle.std.specs.List.{AllByRecursion}
use Rattle.names.specs.Words.{word_byte}
use Rattle.lists.specs.Trees.{Sign}
use Rattle.lists.specs.Bytes.{blanks, part, Past, Run}
use Rattle.lists.specs.Tokens.{Shows, shows_word, shows_mark, shows_group, Spells, ends, next}
use Rattle.lists.specs.Lexemes.{Gap, is_blank, Handed, all, first}
use Rattle.lists.proofs.Machine.{apart, blank_out, sign_apart}
use Rattle.lists.proofs.Segments.{drop_part}
use Rattle.lists.proofs.Lexing.{gap_blanks}

-- bytes of a kind that blanks are not of do not begin with a blank
pub unblank : (p : ℕ → Bool) → p 32 ≡ false → (w more : List ℕ) → 0 < length w → AllByRecursion (λ b. p b ≡ true) w → Past is_blank (w ++ more)
unblank p other [] more some bs = absurd (omega arith)
unblank p other (b ∷ w) more some bs = apart p b 32 bs.0 other

module _ (text : List ℕ) where
  pub handed_spells : {at : ℕ} {ss : List Sign} → Handed text at ss → Spells (drop at text) ss
  handed_spells (all {at = at} g) =
      let n = length text in
      subst (λ t. Spells t []) (sym (drop_part text at n g.forward ∙ (λ i. gap_blanks text at n g i ++ drop_all n text (omega arith) i) ∙ append-nil (blanks (n - at)))) (ends (n - at))
  handed_spells (first {at = at} {place = p} {end = e} {s = s} {ss = ss} t h) =
      subst (λ u. Spells u (s ∷ ss)) (sym (drop_part text at p t.gap.forward ∙ (λ i. gap_blanks text at p t.gap i ++ drop_part text p e (omega (arith, t.some)) i)))
      (next (p - at) t.shows (handed_spells h))

  every_blank : (n : ℕ) → AllByRecursion (λ b. is_blank b ≡ true) (blanks n)
  every_blank zero = tt
  every_blank (suc n) = (refl, every_blank n)

  -- bytes of a kind are a run, where none follows
  pub run_at : (p : ℕ → Bool) (at : ℕ) (u rest : List ℕ) → at ≤ length text → drop at text ≡ u ++ rest → AllByRecursion (λ b. p b ≡ true) u → Past p rest → Run p text at (at + length u)
  run_at p at u rest le e bytes past =
      let size : length text - at ≡ length u + length rest = sym (length-drop at text) ∙ ap length e ∙ length-append u rest in
      let here : at + length u - at ≡ length u = omega arith in
      record {
        forward = omega arith;
        within = omega (arith, size);
        bytes = subst (AllByRecursion (λ b. p b ≡ true)) (sym (ap (λ k. take k (drop at text)) here ∙ ap (take (length u)) e ∙ take_at u rest (length u) refl)) bytes;
        past = subst (Past p) (sym (sym (drop-drop (length u) at text) ∙ ap (drop (length u)) e ∙ drop_at u rest (length u) refl)) past;
      }

  -- blanks are a gap, where none follows
  pub gap_at : (at n : ℕ) (rest : List ℕ) → at ≤ length text → drop at text ≡ blanks n ++ rest → Past is_blank rest → Gap text at (at + n)
  gap_at at n rest le e past = subst (λ k. Gap text at (at + k)) (length-replicate {A = ℕ} n 32) (run_at is_blank at (blanks n) rest le e (every_blank n) past)

  -- what shows a sign has a byte, and does not begin with a blank
  shows_some : {u rest : List ℕ} {s : Sign} → Shows u rest s → (0 < length u) × ((more : List ℕ) → Past is_blank (u ++ more))
  shows_some (shows_word {w = w} h p) = (h.some, λ more. unblank word_byte blank_out w more h.some h.bytes)
  shows_some (shows_mark {b = b} {s = s} is) = (omega arith, λ more. (sign_apart b s is).0)
  shows_some (shows_group x y h) = (omega arith, λ more. refl)

  pub spells_handed : {t : List ℕ} {ss : List Sign} → Spells t ss → (at : ℕ) → at ≤ length text → drop at text ≡ t → Handed text at ss
  spells_handed (ends n) at le e =
      let g = gap_at at n [] le (e ∙ sym (append-nil (blanks n))) tt in
      let whole : at + n ≡ length text = omega (arith, ap length e, length-drop at text, length-replicate {A = ℕ} n 32) in
      all (subst (Gap text at) whole g)
  spells_handed (next {bytes = u} {rest = rest} {s = s} n sh sp) at le e =
      let m = shows_some sh in
      let g = gap_at at n (u ++ rest) le e (m.1 rest) in
      let p = at + n in
      let k = p + length u in
      let there : drop p text ≡ u ++ rest = sym (drop-drop n at text) ∙ ap (drop n) e ∙ drop_at (blanks n) (u ++ rest) n (length-replicate {A = ℕ} n 32) in
      let size : length text - p ≡ length u + length rest = sym (length-drop p text) ∙ ap length there ∙ length-append u rest in
      let more : drop k text ≡ rest = sym (drop-drop (length u) p text) ∙ ap (drop (length u)) there ∙ drop_at u rest (length u) refl in
      let width : k - p ≡ length u = omega arith in
      let shown : part text p k ≡ u = ap (λ j. take j (drop p text)) width ∙ ap (take (length u)) there ∙ take_at u rest (length u) refl in
      let inside : k ≤ length text = omega (arith, size, m.0) in
      first (record { gap = g; some = omega (arith, m.0); within = inside; shows = subst (λ r. Shows (part text p k) r s) (sym more) (subst (λ v. Shows v rest s) (sym shown) sh) })
      (spells_handed sp k inside more)
