-- Runs of words joined by dots are the partial names.
use Rattle.std.proofs.Common.{◌≡◌, ℕ, zero, suc, ◌+◌, ◌-◌, ◌<◌, ◌≤◌, ◌↔◌, List, [], ◌∷◌, length, get_or, take, drop, sym, refl, ap, ◌∙◌, subst, ⊎_elim, arith}
use Rattle.std.proofs.lemmas.List.{drop_more}
use Rattle.std.proofs.lemmas.Bool.{cases_lt}
use Rattle.names.specs.Words.{Word}
use Rattle.names.specs.Names.{Part, word, dot, bytes_of, Partial, single, dotted}
use Rattle.names.proofs.Places.{NoWord, Alternates, last, next}
use Rattle.positions.specs.Places.{Has}
use Rattle.runs.specs.Relations.{Reach, done, further}
use Rattle.std.specs.List.{slice_range}
use Rattle.name_parts.specs.Slices.{Spans, PartAt}
use Rattle.name_parts.specs.Outlines.{WordAt}
use Rattle.name_parts.specs.Dotted.{DotWord, DottedWords}
use Rattle.name_parts.proofs.Standing.{part_here}

-- each word of a name is lawful
pub lawful_word : {ps : List Part} → Alternates ps → (w : List ℕ) (i : ℕ) → PartAt ps (word w) i → Word w
lawful_word (last h) w zero a = subst Word (ap bytes_of a.is) h
lawful_word (last h) w (suc i) a = absurd (omega (arith, a.inside))
lawful_word (next b h is rest) w zero a = subst Word (ap bytes_of a.is) h
lawful_word (next b h is rest) w (suc zero) a = absurd (subst NoWord a.is is.2)
lawful_word (next b h is rest) w (suc (suc i)) a = lawful_word rest w i (record { inside = omega (arith, a.inside); is = a.is })

module _ (ps : List Part) where
  -- the parts from a place on: the part there, and those from the next place on
  pub slice_cons : (p : Part) (i j : ℕ) → PartAt ps p i → i < j → slice_range ps i j ≡ p ∷ slice_range ps (i + 1) j
  slice_cons p i j here lt =
      let n : j - i ≡ suc (j - (i + 1)) = omega arith in
      ap (λ k. take k (drop i ps)) n ∙ ap (take (suc (j - (i + 1)))) (drop_more ps i p here.inside) ∙ ap (λ q. q ∷ slice_range ps (i + 1) j) here.is

  pub slice_none : (i j : ℕ) → j ≤ i → slice_range ps i j ≡ []
  slice_none i j le = let n : j - i ≡ 0 = omega arith in ap (λ k. take k (drop i ps)) n

  -- a run that is not empty
  module _ (p : Part) (qs : List Part) (i j : ℕ) (within : j ≤ length ps) (e : slice_range ps i j ≡ p ∷ qs) where
    pub cons_forward : i < j
    cons_forward = ⊎_elim (λ lt. lt) (λ le. absurd (omega (arith, ap length (sym e ∙ slice_none i j le)))) (cases_lt i j)

    parted : slice_range ps i j ≡ get_or ps i p ∷ slice_range ps (i + 1) j
    parted = slice_cons (get_or ps i p) i j (part_here ps i p (omega (arith, cons_forward))) cons_forward

    pub cons_part : PartAt ps p i
    cons_part = record { inside = omega (arith, cons_forward); is = ap (λ l. get_or l 0 p) (sym parted ∙ e) }

    pub cons_rest : slice_range ps (i + 1) j ≡ qs
    cons_rest = ap (drop 1) (sym parted ∙ e)

  module _ (lawful : (w : List ℕ) (i : ℕ) → PartAt ps (word w) i → Word w) (few : length ps ≤ 63) (count words dots : ℕ) (all : count ≡ length ps + 1) (see-words : (i : ℕ) → Has words i ↔ WordAt ps i) (see-dots : (i : ℕ) → Has dots i ↔ PartAt ps dot i) where
    abbrev Next : ℕ → ℕ → Type 0
    Next = DotWord count words dots

    -- a word, and any number of times a dot and a word
    joins : (i m j : ℕ) → m ≡ i + 1 → WordAt ps i → Reach Next m j → Spans ps Partial i j
    joins i m j behind here (done e) = record {
      forward = omega arith;
      within = omega (arith, here.1.inside);
      run = subst Partial (sym (slice_cons (word here.0) i j here.1 (omega arith) ∙ ap (λ qs. word here.0 ∷ qs) (slice_none (i + 1) j (omega arith)))) (single (lawful here.0 i here.1));
    }
    joins i m j behind here (further k (l, k-is, k-few, (d, l-is, l-few, (m-in, d-is), has-dot), Has-word) r) =
        let rest = joins l k j k-is ((see-words l).0 Has-word) r in
        let mark : PartAt ps dot (i + 1) = subst (PartAt ps dot) (omega arith) ((see-dots d).0 has-dot) in
        let next : l ≡ i + 1 + 1 = omega arith in
        record {
          forward = omega (arith, rest.forward);
          within = rest.within;
          run = subst Partial (sym (slice_cons (word here.0) i j here.1 (omega (arith, rest.forward)) ∙ ap (λ qs. word here.0 ∷ qs) (slice_cons dot (i + 1) j mark (omega (arith, rest.forward)) ∙ ap (λ k. dot ∷ slice_range ps k j) (sym next)))) (dotted (lawful here.0 i here.1) rest.run);
        }

    parts : {qs : List Part} → Partial qs → (i j : ℕ) → j ≤ length ps → slice_range ps i j ≡ qs → WordAt ps i × (i < j) × Reach Next (i + 1) j
    parts (single {w = w} h) i j within e =
        let lt = cons_forward (word w) [] i j within e in
        let le : j ≤ i + 1 = ⊎_elim (λ more. absurd (omega (arith, ap length (sym (slice_cons (get_or ps (i + 1) dot) (i + 1) j (part_here ps (i + 1) dot (omega arith)) more) ∙ cons_rest (word w) [] i j within e)))) (λ le. le) (cases_lt (i + 1) j) in
        ((w, cons_part (word w) [] i j within e), lt, done (omega arith))
    parts (dotted {w = w} {ps = qs} h p) i j within e =
        let e' = cons_rest (word w) (dot ∷ qs) i j within e in
        let rest = parts p (i + 1 + 1) j within (cons_rest dot qs (i + 1) j within e') in
        let mark = cons_part dot qs (i + 1) j within e' in
        ((w, cons_part (word w) (dot ∷ qs) i j within e), omega (arith, rest.1), further (i + 1 + 1 + 1) (i + 1 + 1, refl, omega (arith, rest.1), (i + 1, refl, omega (arith, rest.1), (omega (arith, mark.inside), refl), (see-dots (i + 1)).1 mark), (see-words (i + 1 + 1)).1 rest.0) rest.2)

    pub dotted_spans : (i j : ℕ) → DottedWords count words dots i j ↔ Spans ps Partial i j
    dotted_spans i j = (
      λ (m, (k, m-is, m-few, (i-in, k-is), Has-word), (m-in, r)). joins i m j (omega arith) (subst (WordAt ps) k-is ((see-words k).0 Has-word)) r,
      λ s.
          let p = parts s.run i j s.within refl in
          (i + 1, (i, refl, omega (arith, s.within, p.1), (omega (arith, s.within, p.1), refl), (see-words i).1 p.0), (omega (arith, s.within, p.1), p.2)),
    )
