-- What a reading holds when a part of a list has been read, and how each sign changes it.
use Rattle.std.proofs.Common.{◌≡◌, ℕ, ◌+◌, ◌<◌, ◌↔◌, List, length, Some, None, Option, sym, refl, ap, ◌∙◌, subst, inl, inr, ⊎_elim, arith}
use mathlib.Core.Logic.Iff
use Rattle.names.specs.Names.{Part}
use Rattle.lists.specs.Trees.{Item, starred, Seq, one, then, Alts, only, or, Tree, empty, list}
use Rattle.lists.proofs.Build.{Level, fresh, barred, full, put, star_seq, star_alts}
use Rattle.runs.specs.declared.relation.Runs.{Runs}
use Rattle.runs.specs.Relations.{Identity, Composed}
use Rattle.runs.specs.Runs.{Ends}
use Rattle.runs.proofs.Reaching.{reach_map}
use Rattle.name_parts.specs.Slices.{Spans}
use Rattle.derivations.specs.Derives.{ItemDerives, SeqDerives, AltsDerives, TreeDerives}
use Rattle.matching.specs.declared.step.Step.{Step}
use Rattle.matching.specs.declared.reading.Reading.{Reading}
use Rattle.matching.specs.Steps.{StepEnds, Repeats}
use Rattle.matching.specs.Readings.{Begins, Joined, Pushed, LastRepeats, Repeated, Ended, Finished, Barred}
use Rattle.matching.specs.Judging.{Means, StepMeans}
use Rattle.matching.proofs.Spanning.{span_star, span_one, span_then, span_only, span_or, span_list, span_empty}

-- the last item of a sequence
abbrev pub final : Seq → Item
final (one x) = x
final (then s x) = x

module _ (Same : List ℕ → List ℕ → Type 0) (ps : List Part) (Group : List ℕ → Tree → Type 0) where
  -- what the items before the last one derive
  abbrev pub Before : Seq → ℕ → ℕ → Type 0
  Before (one x) i j = j ≡ i
  Before (then s x) i j = Spans ps (SeqDerives Same Group s) i j

  -- what the alternatives that are done derive
  abbrev pub Past : Level → ℕ → ℕ → Type 0
  Past fresh i j = ⊥
  Past (barred l) i j = Spans ps (AltsDerives Same Group l) i j
  Past (full (only s)) i j = ⊥
  Past (full (or l s)) i j = Spans ps (AltsDerives Same Group l) i j

  -- what the sequence being read derives, but for its last item
  abbrev pub Going : Level → ℕ → ℕ → Type 0
  Going fresh i j = j ≡ i
  Going (barred l) i j = j ≡ i
  Going (full (only s)) i j = Before s i j
  Going (full (or l s)) i j = Before s i j

  -- the last item is held as a step
  abbrev pub Final : Seq → Option Step → Type 0
  Final s o = (step : Step) × ((o ≡ Some step) × StepMeans ps (ItemDerives Same Group (final s)) step)

  abbrev pub Last : Level → Option Step → Type 0
  Last fresh o = o ≡ None
  Last (barred l) o = o ≡ None
  Last (full (only s)) o = Final s o
  Last (full (or l s)) o = Final s o

  -- the reading holds what has been read
  pub record Holds (starts : ℕ) (reading : Reading) (u : Level) : Type 0 where
    pub first : reading.starts.count ≡ starts
    pub past : (i j : ℕ) → Ends reading.done i j ↔ ((i < starts) × Past u i j)
    pub going : (i j : ℕ) → Ends reading.seq i j ↔ ((i < starts) × Going u i j)
    pub last : Last u reading.last

  -- the sequence with its last item
  with_final : (n : ℕ) (runs : Runs) (s : Seq) (step : Step) → ((i j : ℕ) → Ends runs i j ↔ ((i < n) × Before s i j)) → StepMeans ps (ItemDerives Same Group (final s)) step → (i j : ℕ) → Composed (Ends runs) (StepEnds step) i j ↔ ((i < n) × Spans ps (SeqDerives Same Group s) i j)
  with_final n runs (one x) step seq means i j = (
    λ c.
        let (m, a, b) = c in
        let (lt, e) = (seq i m).0 a in
        (lt, span_one.1 (subst (λ k. Spans ps (ItemDerives Same Group x) k j) e ((means.ends m j).0 b))),
    λ h. (i, (seq i i).1 (h.0, refl), (means.ends i j).1 (span_one.0 h.1)),
  )
  with_final n runs (then s x) step seq means i j = (
    λ c.
        let (m, a, b) = c in
        let (lt, front) = (seq i m).0 a in
        (lt, span_then.1 (m, front, (means.ends m j).0 b)),
    λ h. let (m, a, b) = span_then.0 h.1 in (m, (seq i m).1 (h.0, a), (means.ends m j).1 b),
  )

  -- nothing has been read
  pub holds_none : (n : ℕ) (reading : Reading) → Begins n reading → Holds n reading fresh
  holds_none n reading b = record {
    first = b.first;
    past = λ i j. (λ e. absurd (b.done i j e), λ h. absurd h.1);
    going = b.seq;
    last = b.last;
  }

  -- one item more
  module _ (n : ℕ) (before after : Reading) (step : Step) (p : Pushed before step after) where
    put_final : (s : Seq) → ((i j : ℕ) → Ends before.seq i j ↔ ((i < n) × Before s i j)) → Final s before.last → (i j : ℕ) → Ends after.seq i j ↔ ((i < n) × Spans ps (SeqDerives Same Group s) i j)
    put_final s seq (last, (e, means)) i j = Iff.trans (subst (λ o. Ends after.seq i j ↔ Joined before.seq o i j) e (p.seq i j)) (with_final n before.seq s last seq means i j)

    put_first : before.last ≡ None → ((i j : ℕ) → Ends before.seq i j ↔ ((i < n) × (j ≡ i))) → (i j : ℕ) → Ends after.seq i j ↔ ((i < n) × (j ≡ i))
    put_first e seq i j = Iff.trans (subst (λ o. Ends after.seq i j ↔ Joined before.seq o i j) e (p.seq i j)) (seq i j)

    -- what the next level holds, from what it adds to the one before
    put_holds : (u v : Level) → Holds n before u → ((i j : ℕ) → Past u i j ≡ Past v i j) → ((i j : ℕ) → Ends after.seq i j ↔ ((i < n) × Going v i j)) → Last v after.last → Holds n after v
    put_holds u v h same going last = record {
      first = ap (λ s. s.count) p.first ∙ h.first;
      past = λ i j. subst (λ D. Ends after.done i j ↔ ((i < n) × D)) (same i j) (subst (λ d. Ends d i j ↔ ((i < n) × Past u i j)) (sym p.done) (h.past i j));
      going = going;
      last = last;
    }

    pub holds_put : (u : Level) (x : Item) → Holds n before u → StepMeans ps (ItemDerives Same Group x) step → Holds n after (put u x)
    holds_put fresh x h means = put_holds fresh (put fresh x) h (λ i j. refl) (put_first h.last h.going) (step, (p.last, means))
    holds_put (barred l) x h means = put_holds (barred l) (put (barred l) x) h (λ i j. refl) (put_first h.last h.going) (step, (p.last, means))
    holds_put (full (only s)) x h means = put_holds (full (only s)) (put (full (only s)) x) h (λ i j. refl) (put_final s h.going h.last) (step, (p.last, means))
    holds_put (full (or l s)) x h means = put_holds (full (or l s)) (put (full (or l s)) x) h (λ i j. refl) (put_final s h.going h.last) (step, (p.last, means))

  -- an item any number of times
  star_means : (x : Item) (step repeated : Step) → StepMeans ps (ItemDerives Same Group x) step → Repeats step repeated (length ps + 1) → StepMeans ps (ItemDerives Same Group (starred x)) repeated
  star_means x step repeated means r = record {
    counted = r.counted;
    ends = λ i j. (
      λ e. let (lt, way) = (r.ends i j).0 e in span_star.1 (omega arith, reach_map (λ k m s. (means.ends k m).0 s.1) way),
      λ s. let (le, way) = span_star.0 s in (r.ends i j).1 (omega arith, reach_map (λ k m t. (omega (arith, t.forward, t.within), (means.ends k m).1 t)) way),
    );
  }

  star_final : (s : Seq) (o o' : Option Step) → Final s o → LastRepeats o o' (length ps + 1) → Final (star_seq s) o'
  star_final (one x) o o' (step, (e, means)) r =
      let (repeated, (is, again)) = subst (λ k. LastRepeats k o' (length ps + 1)) e r in (repeated, (is, star_means x step repeated means (again means.counted)))
  star_final (then s x) o o' (step, (e, means)) r =
      let (repeated, (is, again)) = subst (λ k. LastRepeats k o' (length ps + 1)) e r in (repeated, (is, star_means x step repeated means (again means.counted)))

  star_before : (s : Seq) (i j : ℕ) → Before s i j ≡ Before (star_seq s) i j
  star_before (one x) i j = refl
  star_before (then s x) i j = refl

  -- a star after the last item
  module _ (n : ℕ) (before after : Reading) (r : Repeated before (length ps + 1) after) where
    star_holds : (u v : Level) → Holds n before u → ((i j : ℕ) → Past u i j ≡ Past v i j) → ((i j : ℕ) → Going u i j ≡ Going v i j) → Last v after.last → Holds n after v
    star_holds u v h past going last = record {
      first = ap (λ s. s.count) r.first ∙ h.first;
      past = λ i j. subst (λ D. Ends after.done i j ↔ ((i < n) × D)) (past i j) (subst (λ d. Ends d i j ↔ ((i < n) × Past u i j)) (sym r.done) (h.past i j));
      going = λ i j. subst (λ D. Ends after.seq i j ↔ ((i < n) × D)) (going i j) (subst (λ d. Ends d i j ↔ ((i < n) × Going u i j)) (sym r.seq) (h.going i j));
      last = last;
    }

    pub holds_star : (a : Alts) → Holds n before (full a) → Holds n after (full (star_alts a))
    holds_star (only s) h = star_holds (full (only s)) (full (only (star_seq s))) h (λ i j. refl) (star_before s) (star_final s before.last after.last h.last r.last)
    holds_star (or l s) h = star_holds (full (or l s)) (full (or l (star_seq s))) h (λ i j. refl) (star_before s) (star_final s before.last after.last h.last r.last)

  -- the alternatives with the one that ends
  module _ (n : ℕ) (reading : Reading) (runs : Runs) (f : Finished reading runs) where
    ended_final : (s : Seq) → ((i j : ℕ) → Ends reading.seq i j ↔ ((i < n) × Before s i j)) → Final s reading.last → (i j : ℕ) → Ended reading.seq reading.last i j ↔ ((i < n) × Spans ps (SeqDerives Same Group s) i j)
    ended_final s seq (step, (e, means)) i j = subst (λ o. Ended reading.seq o i j ↔ ((i < n) × Spans ps (SeqDerives Same Group s) i j)) (sym e) (with_final n reading.seq s step seq means i j)

    ended_full : (a : Alts) → Holds n reading (full a) → (i j : ℕ) → Ends runs i j ↔ ((i < n) × Spans ps (AltsDerives Same Group a) i j)
    ended_full (only s) h i j =
        let last = ended_final s h.going h.last i j in (
          λ e. ⊎_elim (λ d. absurd ((h.past i j).0 d).1) (λ t. let (lt, sp) = last.0 t.1 in (lt, span_only.1 sp)) ((f.ends i j).0 e),
          λ t. (f.ends i j).1 (inr (omega (arith, t.0, h.first), last.1 (t.0, span_only.0 t.1))),
        )
    ended_full (or l s) h i j =
        let last = ended_final s h.going h.last i j in (
          λ e. ⊎_elim (λ d. let (lt, sp) = (h.past i j).0 d in (lt, span_or.1 (inl sp))) (λ t. let (lt, sp) = last.0 t.1 in (lt, span_or.1 (inr sp))) ((f.ends i j).0 e),
          λ t. (f.ends i j).1 (⊎_elim (λ sp. inl ((h.past i j).1 (t.0, sp))) (λ sp. inr (omega (arith, t.0, h.first), last.1 (t.0, sp))) (span_or.0 t.1)),
        )

    -- nothing has been read, and no run is done
    ended_fresh : Holds n reading fresh → (i j : ℕ) → Ends runs i j → ⊥
    ended_fresh h i j e = ⊎_elim (λ d. ((h.past i j).0 d).1) (λ t. subst (λ o. Ended reading.seq o i j → ⊥) (sym h.last) (λ x. x) t.1) ((f.ends i j).0 e)

    -- all has been read
    pub holds_list : (a : Alts) → Holds n reading (full a) → Means ps (TreeDerives Same Group (list a)) n runs
    holds_list a h = record {
      counted = f.counted ∙ h.first;
      ends = λ i j. let ends = ended_full a h i j in (λ e. let (lt, sp) = ends.0 e in (lt, span_list.1 sp), λ t. ends.1 (t.0, span_list.0 t.1));
    }

    pub holds_empty : Holds n reading fresh → Means ps (TreeDerives Same Group empty) n runs
    holds_empty h = record { counted = f.counted ∙ h.first; ends = λ i j. (λ e. absurd (ended_fresh h i j e), λ t. absurd (span_empty t.1)) }

  -- a bar after a sequence
  pub holds_bar : (n : ℕ) (before after : Reading) (a : Alts) → Barred before after → Holds n before (full a) → Holds n after (barred a)
  holds_bar n before after a b h = record {
    first = ap (λ s. s.count) b.first ∙ h.first;
    past = ended_full n before after.done b.done a h;
    going = subst (λ k. (i j : ℕ) → Ends after.seq i j ↔ Identity k i j) h.first b.seq;
    last = b.last;
  }
