-- From which place to which place each form of a list derives the parts.
use Rattle.std.proofs.Common.{◌≡◌, ℕ, ◌+◌, ◌≤◌, ◌⊎◌, ◌↔◌, List, [], ◌∷◌, length, sym, refl, ap, ◌∙◌, subst, inl, inr, ⊎_elim, arith}
use mathlib.Core.Logic.Iff
use Rattle.names.specs.Names.{Part, word, dot, at, plus, Partial}
use Rattle.lists.specs.Trees
use Rattle.lists.specs.Trees.{Atom, any, Item, plain, bracket, starred, named, Seq, one, then, Alts, only, or, Tree, empty, list}
use Rattle.runs.specs.Relations.{Composed, Reach, done, further}
use Rattle.std.specs.List.{slice_range}
use Rattle.name_parts.specs.Tables.{SameWordAt}
use Rattle.name_parts.specs.Slices.{Spans, PartAt}
use Rattle.derivations.specs.Derives.{AtomDerives, a_word, a_dot, an_at, a_plus, a_partial}
use Rattle.derivations.specs.Derives.{ItemDerives, by_atom, by_bracket, no_runs, more_runs, by_group, SeqDerives, by_item, by_items}
use Rattle.derivations.specs.Derives.{AltsDerives, by_only, by_earlier, by_last, TreeDerives, by_list}
use Rattle.name_parts.proofs.Joining.{slice_none}
use Rattle.matching.proofs.Slicing.{slice_length, slice_all, SpansRow, span_at, span_map, span_iff, span_cut, span_join, span_part}

-- all the parts are such a run
pub span_whole : {ps : List Part} {D : List Part → Type 0} → Spans ps D 0 (length ps) ↔ D ps
span_whole {ps} {D} = (λ h. subst D (slice_all ps) h.run, λ d. record { forward = omega arith; within = omega arith; run = subst D (sym (slice_all ps)) d })

module _ {Same : List ℕ → List ℕ → Type 0} {ps : List Part} {i j : ℕ} where
  -- a word derives one part that is the same word
  pub span_atom_word : {w : List ℕ} → Spans ps (AtomDerives Same (Trees.word w)) i j ↔ ((j ≡ i + 1) × SameWordAt Same ps w i)
  span_atom_word {w} = (
    λ h.
        let (v, is, same) = lone (slice_range ps i j) h.run in
        let (next, part) = span_part.0 (span_at h is) in
        (next, (v, part, same)),
    λ t. span_map (λ qs is. subst (AtomDerives Same (Trees.word w)) (sym is) (a_word t.1.2)) (span_part.1 (t.0, t.1.1)),
  )
    where
      lone : (qs : List Part) → AtomDerives Same (Trees.word w) qs → (v : List ℕ) × (qs ≡ word v ∷ []) × Same w v
      lone qs (a_word {v = v} same) = (v, refl, same)

  -- a mark derives one part, the mark
  span_mark : {a : Atom} {p : Part} → AtomDerives Same a (p ∷ []) → ((qs : List Part) → AtomDerives Same a qs → qs ≡ p ∷ []) → Spans ps (AtomDerives Same a) i j ↔ ((j ≡ i + 1) × PartAt ps p i)
  span_mark {a} d lone = Iff.trans (span_iff lone (λ qs is. subst (AtomDerives Same a) (sym is) d)) span_part

  pub span_atom_dot : Spans ps (AtomDerives Same Trees.dot) i j ↔ ((j ≡ i + 1) × PartAt ps dot i)
  span_atom_dot = span_mark a_dot lone
    where
      lone : (qs : List Part) → AtomDerives Same Trees.dot qs → qs ≡ dot ∷ []
      lone qs a_dot = refl

  pub span_atom_at : Spans ps (AtomDerives Same Trees.at) i j ↔ ((j ≡ i + 1) × PartAt ps at i)
  span_atom_at = span_mark an_at lone
    where
      lone : (qs : List Part) → AtomDerives Same Trees.at qs → qs ≡ at ∷ []
      lone qs an_at = refl

  pub span_atom_plus : Spans ps (AtomDerives Same Trees.plus) i j ↔ ((j ≡ i + 1) × PartAt ps plus i)
  span_atom_plus = span_mark a_plus lone
    where
      lone : (qs : List Part) → AtomDerives Same Trees.plus qs → qs ≡ plus ∷ []
      lone qs a_plus = refl

  -- `!` derives a partial name
  pub span_atom_any : Spans ps (AtomDerives Same any) i j ↔ Spans ps Partial i j
  span_atom_any = span_iff inside (λ qs. a_partial)
    where
      inside : (qs : List Part) → AtomDerives Same any qs → Partial qs
      inside qs (a_partial d) = d

  module _ {Group : List ℕ → Tree → Type 0} where
    -- a plain item derives what its atom derives
    pub span_plain : {a : Atom} → Spans ps (ItemDerives Same Group (plain a)) i j ↔ Spans ps (AtomDerives Same a) i j
    span_plain {a} = span_iff inside (λ qs. by_atom)
      where
        inside : (qs : List Part) → ItemDerives Same Group (plain a) qs → AtomDerives Same a qs
        inside qs (by_atom d) = d

    -- a bracket derives what its inside derives
    pub span_bracket : {l : Alts} → Spans ps (ItemDerives Same Group (bracket l)) i j ↔ Spans ps (AltsDerives Same Group l) i j
    span_bracket {l} = span_iff inside (λ qs. by_bracket)
      where
        inside : (qs : List Part) → ItemDerives Same Group (bracket l) qs → AltsDerives Same Group l qs
        inside qs (by_bracket d) = d

    -- a starred item derives any number of runs of the item
    pub span_star : {x : Item} → Spans ps (ItemDerives Same Group (starred x)) i j ↔ ((i ≤ length ps) × Reach (Spans ps (ItemDerives Same Group x)) i j)
    span_star {x} = (
      λ h. (omega (arith, h.forward, h.within), cut i j (slice_range ps i j) (span_at h refl) h.run),
      λ t. join i j t.0 t.1,
    )
      where
        cut : (k n : ℕ) (qs : List Part) → SpansRow ps qs k n → ItemDerives Same Group (starred x) qs → Reach (Spans ps (ItemDerives Same Group x)) k n
        cut k n qs h no_runs = done (omega (arith, h.forward, sym (slice_length ps k n h.within) ∙ ap length h.run))
        cut k n qs h (more_runs {ps = fs} {qs = rs} d e) = let (m, a, b) = span_cut fs rs h d refl in further m a (cut m n rs b e)

        join : (k n : ℕ) → k ≤ length ps → Reach (Spans ps (ItemDerives Same Group x)) k n → Spans ps (ItemDerives Same Group (starred x)) k n
        join k n le (done e) = record { forward = omega arith; within = omega arith; run = subst (ItemDerives Same Group (starred x)) (sym (slice_none ps k n (omega arith))) no_runs }
        join k n le (further m a r) = span_join (λ qs rs. more_runs) a (join m n a.within r)

    -- a group's name that stands for one tree derives what the tree derives
    pub span_named : {g : List ℕ} {t : Tree} → Group g t → ((t' : Tree) → Group g t' → t' ≡ t) → Spans ps (ItemDerives Same Group (named g)) i j ↔ Spans ps (TreeDerives Same Group t) i j
    span_named {g} {t} is unique = span_iff inside (λ qs. by_group is)
      where
        inside : (qs : List Part) → ItemDerives Same Group (named g) qs → TreeDerives Same Group t qs
        inside qs (by_group {t = t'} has d) = subst (λ u. TreeDerives Same Group u qs) (unique t' has) d

    -- a Seq derives a run of its items but the last, and then one of the last
    pub span_one : {x : Item} → Spans ps (SeqDerives Same Group (one x)) i j ↔ Spans ps (ItemDerives Same Group x) i j
    span_one {x} = span_iff inside (λ qs. by_item)
      where
        inside : (qs : List Part) → SeqDerives Same Group (one x) qs → ItemDerives Same Group x qs
        inside qs (by_item d) = d

    pub span_then : {s : Seq} {x : Item} → Spans ps (SeqDerives Same Group (then s x)) i j ↔ Composed (Spans ps (SeqDerives Same Group s)) (Spans ps (ItemDerives Same Group x)) i j
    span_then {s} {x} = (λ h. cut (slice_range ps i j) (span_at h refl) h.run, λ c. span_join (λ qs rs. by_items) c.1 c.2)
      where
        cut : (qs : List Part) → SpansRow ps qs i j → SeqDerives Same Group (then s x) qs → Composed (Spans ps (SeqDerives Same Group s)) (Spans ps (ItemDerives Same Group x)) i j
        cut qs h (by_items {ps = fs} {qs = rs} d e) = span_cut fs rs h d e

    -- a List derives what one of its Seqs derives
    pub span_only : {s : Seq} → Spans ps (AltsDerives Same Group (only s)) i j ↔ Spans ps (SeqDerives Same Group s) i j
    span_only {s} = span_iff inside (λ qs. by_only)
      where
        inside : (qs : List Part) → AltsDerives Same Group (only s) qs → SeqDerives Same Group s qs
        inside qs (by_only d) = d

    pub span_or : {l : Alts} {s : Seq} → Spans ps (AltsDerives Same Group (or l s)) i j ↔ (Spans ps (AltsDerives Same Group l) i j ⊎ Spans ps (SeqDerives Same Group s) i j)
    span_or {l} {s} = (
      λ h. ⊎_elim (λ d. inl (span_at h d)) (λ d. inr (span_at h d)) (either (slice_range ps i j) h.run),
      ⊎_elim (span_map λ qs. by_earlier) (span_map λ qs. by_last),
    )
      where
        either : (qs : List Part) → AltsDerives Same Group (or l s) qs → AltsDerives Same Group l qs ⊎ SeqDerives Same Group s qs
        either qs (by_earlier d) = inl d
        either qs (by_last d) = inr d

    -- a text with items derives what its List derives, and one without items derives no run
    pub span_list : {l : Alts} → Spans ps (TreeDerives Same Group (list l)) i j ↔ Spans ps (AltsDerives Same Group l) i j
    span_list {l} = span_iff inside (λ qs. by_list)
      where
        inside : (qs : List Part) → TreeDerives Same Group (list l) qs → AltsDerives Same Group l qs
        inside qs (by_list d) = d

    pub span_empty : Spans ps (TreeDerives Same Group empty) i j → ⊥
    span_empty h = none (slice_range ps i j) h.run
      where
        none : (qs : List Part) → TreeDerives Same Group empty qs → ⊥
        none qs d = elim d [ ]
