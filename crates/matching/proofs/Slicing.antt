-- Runs of the parts of a name, cut and joined.
use Rattle.std.proofs.Common.{◌≡◌, ℕ, ◌+◌, ◌-◌, ◌<◌, ◌≤◌, ◌↔◌, List, [], ◌∷◌, ◌++◌, length, get_or, take, drop, sym, ap, ◌∙◌, subst, arith, length-append, length-drop, length-take, take_all, drop-cons, take-take, drop-drop, take-add}
use lib.Seq.{take-append_seam, drop-append_seam}
use Rattle.names.specs.Names.{Part}
use Rattle.runs.specs.Relations.{Composed}
use Rattle.std.specs.List.{slice_range}
use Rattle.name_parts.specs.Slices.{Spans, PartAt}

-- how many parts a slice has
pub slice_length : (ps : List Part) (i j : ℕ) → j ≤ length ps → length (slice_range ps i j) ≡ j - i
slice_length ps i j le = simp (length-take, length-drop) (omega arith)

-- all the parts
pub slice_all : (ps : List Part) → slice_range ps 0 (length ps) ≡ ps
slice_all ps = take_all (length ps - 0) ps (omega arith)

-- one part
pub slice_one : (ps : List Part) (p : Part) (i j : ℕ) → j ≡ i + 1 → i < length ps → slice_range ps i j ≡ get_or ps i p ∷ []
slice_one ps p i j e lt = let one : j - i ≡ 1 = omega arith in rw (one, drop-cons ps i p lt)

-- slices that meet are one slice
pub slice_join : (ps : List Part) (i m j : ℕ) → i ≤ m → m ≤ j → slice_range ps i m ++ slice_range ps m j ≡ slice_range ps i j
slice_join ps i m j le ge =
    let sum : j - i ≡ (m - i) + (j - m) = omega arith in
    let met : i + (m - i) ≡ m = omega arith in
    rw (sum, take-add (m - i) (j - m) (drop i ps), drop-drop (m - i) i ps, met)

-- a slice of two rows is cut where the first row ends
pub record Cut (ps : List Part) (i m j : ℕ) (qs rs : List Part) : Type 0 where
  pub forward : i ≤ m
  pub within : m ≤ j
  pub head : qs ≡ slice_range ps i m
  pub tail : rs ≡ slice_range ps m j

pub slice_cut : (ps : List Part) (i j : ℕ) (qs rs : List Part) → i ≤ j → j ≤ length ps → slice_range ps i j ≡ qs ++ rs → Cut ps i (i + length qs) j qs rs
slice_cut ps i j qs rs le ge e = record { forward = omega arith; within = within; head = head; tail = tail }
  where
    m : ℕ
    m = i + length qs

    long : length qs + length rs ≡ j - i
    long = sym (length-append qs rs) ∙ sym (ap length e) ∙ slice_length ps i j ge

    within : m ≤ j
    within = omega (arith, long)

    front : m - i ≡ length qs
    front = omega arith

    head : qs ≡ slice_range ps i m
    head = sym (take-append_seam qs rs) ∙ ap (take (length qs)) (sym e) ∙ take-take (length qs) (j - i) (drop i ps) (omega (arith, long)) ∙ ap (λ n. take n (drop i ps)) (sym front)

    rest : qs ++ rs ≡ qs ++ slice_range ps m j
    rest = sym e ∙ sym (slice_join ps i m j (omega arith) within) ∙ ap (λ fs. fs ++ slice_range ps m j) (sym head)

    tail : rs ≡ slice_range ps m j
    tail = sym (drop-append_seam qs rs) ∙ ap (drop (length qs)) rest ∙ drop-append_seam qs (slice_range ps m j)

-- the parts from place i up to place j are this row
abbrev pub SpansRow : List Part → List Part → ℕ → ℕ → Type 0
SpansRow ps qs = Spans ps (λ rs. rs ≡ qs)

module _ {ps : List Part} {D E : List Part → Type 0} {i j : ℕ} where
  -- another kind of run between the same places
  pub span_at : Spans ps D i j → E (slice_range ps i j) → Spans ps E i j
  span_at h run = record { forward = h.forward; within = h.within; run = run }

  -- each run of one kind is one of another kind
  pub span_map : ((qs : List Part) → D qs → E qs) → Spans ps D i j → Spans ps E i j
  span_map f h = span_at h (f (slice_range ps i j) h.run)

  -- a run of two rows is a run of the first and then one of the second
  pub span_cut : (qs rs : List Part) → SpansRow ps (qs ++ rs) i j → D qs → E rs → Composed (Spans ps D) (Spans ps E) i j
  span_cut qs rs h d e =
      let cut = slice_cut ps i j qs rs h.forward h.within h.run in (
        i + length qs,
        record { forward = cut.forward; within = omega (arith, cut.within, h.within); run = subst D cut.head d },
        record { forward = cut.within; within = h.within; run = subst E cut.tail e },
      )

-- the runs of two kinds are the same
pub span_iff : {ps : List Part} {D E : List Part → Type 0} {i j : ℕ} → ((qs : List Part) → D qs → E qs) → ((qs : List Part) → E qs → D qs) → Spans ps D i j ↔ Spans ps E i j
span_iff f g = (span_map f, span_map g)

-- a run, and then one from where it ends, are one run
pub span_join : {ps : List Part} {D E F : List Part → Type 0} {i m j : ℕ} → ((qs rs : List Part) → D qs → E rs → F (qs ++ rs)) → Spans ps D i m → Spans ps E m j → Spans ps F i j
span_join {ps} {F = F} {i} {m} {j} f a b = record {
  forward = omega (arith, a.forward, b.forward);
  within = b.within;
  run = subst F (slice_join ps i m j a.forward b.forward) (f (slice_range ps i m) (slice_range ps m j) a.run b.run);
}

-- a run of one part
pub span_part : {ps : List Part} {p : Part} {i j : ℕ} → SpansRow ps (p ∷ []) i j ↔ ((j ≡ i + 1) × PartAt ps p i)
span_part {ps} {p} {i} {j} = (
  λ h.
      let next : j ≡ i + 1 = omega (arith, sym (slice_length ps i j h.within) ∙ ap length h.run) in
      (next, record { inside = omega arith; is = ap (λ qs. get_or qs 0 p) (sym (slice_one ps p i j next (omega arith)) ∙ h.run) }),
  λ t. record {
    forward = omega (arith, t.0);
    within = omega (arith, t.0, t.1.inside);
    run = slice_one ps p i j t.0 t.1.inside ∙ ap (λ q. q ∷ []) t.1.is;
  },
)
