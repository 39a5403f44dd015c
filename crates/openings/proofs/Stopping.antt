-- Where an opening stops for a fault, and for which.
use Rattle.std.proofs.Common.{◌≡◌, ℕ, ◌+◌, List, length, refl, ap, subst, arith}
use Rattle.faults.specs.declared.fault.Fault.{Fault}
use Rattle.faults.specs.declared.kind.Kind.{Kind}
use Rattle.faults.specs.declared.kind.Kind.TheVariants.{GroupLeadsToItself}
use Rattle.lists.specs.Texts.{LawfulList}
use Rattle.lists.specs.Faults.{ListFault}
use Rattle.lists.proofs.OneFault.{one_fault, no_fault}
use Rattle.openings.specs.References.{Reference, Refers}
use Rattle.openings.specs.Opening.{Name, Meaning, MeetsAll, Halts, TextAt, ReadTo}
use Rattle.openings.specs.Circles.{FirstOnCircle, OnCircle}
use Rattle.openings.specs.Opened.{in_text, fault_in, OpenFault, unlawful, halts, circle}
use Rattle.openings.proofs.Meeting.{halts_not_met, halts_one}
use Rattle.openings.proofs.Turns.{NoTurn, text_within, text_one, references_one}

module _ (M : Meaning) (list : List ℕ) where
  -- the fault that is due when the texts before text i have been read
  pub data Stop (gs : List Name) (i : ℕ) : Fault → Type 0 where
    at_text : {text : List ℕ} {f : Fault} → TextAt M list gs i text → ListFault text f → Stop gs i (in_text i f)
    at_reference : {place : ℕ} {text : List ℕ} {rs : List Reference} {kind : Kind} → TextAt M list gs i text → LawfulList text → Refers text rs → Halts M gs rs kind place → Stop gs i (fault_in i kind place)
    at_end : {j place : ℕ} → i ≡ length gs + 1 → FirstOnCircle M gs j place → Stop gs i (fault_in j GroupLeadsToItself place)

  -- an opening has read so far when it stops for the fault
  pub record Stopped (f : Fault) : Type 0 where
    pub number : ℕ
    pub known : List Name
    pub read : ReadTo M list number known
    pub stop : Stop known number f

-- one reference comes first of those on circles
first_one : {M : Meaning} {gs : List Name} {i j p q : ℕ} → FirstOnCircle M gs i p → FirstOnCircle M gs j q → (i ≡ j) × (p ≡ q)
first_one {i = i} {j} {p} {q} a b = omega (arith, a.first j q b.circle, b.first i p a.circle)

module _ {M : Meaning} {list : List ℕ} where
  -- every fault has its stop
  pub stopped : {f : Fault} → OpenFault M list f → Stopped M list f
  stopped (unlawful r at lf) = record { number = _; known = _; read = r; stop = at_text at lf }
  stopped (halts r at l f h) = record { number = _; known = _; read = r; stop = at_reference at l f h }
  stopped (circle r first) = record { number = _; known = _; read = r; stop = at_end refl first }

  -- where an opening stops for a fault, text i cannot be read
  pub stop_turns : {gs : List Name} {i : ℕ} {f : Fault} → Stop M list gs i f → NoTurn M list gs i
  stop_turns (at_text {text = text} {f = f} at lf) hs t = no_fault text f lf (subst LawfulList (text_one t.here at) t.lawful)
  stop_turns {gs} (at_reference at l f h) hs t = halts_not_met h (subst (λ rs. MeetsAll M gs rs hs) (references_one t.here t.refers at f) t.meets)
  stop_turns (at_end e first) hs t = omega (arith, text_within t.here)

  -- an opening stops for one fault
  pub stop_one : {gs : List Name} {i : ℕ} {f g : Fault} → Stop M list gs i f → Stop M list gs i g → f ≡ g
  stop_one {i = i} (at_text {text = text} {f = f} at lf) (at_text {f = g} at' lf') = ap (in_text i) (one_fault text f g lf (subst (λ x. ListFault x g) (text_one at' at) lf'))
  stop_one (at_text {text = text} {f = f} at lf) (at_reference at' l r h) = absurd (no_fault text f lf (subst LawfulList (text_one at' at) l))
  stop_one (at_text at lf) (at_end e first) = absurd (omega (arith, text_within at))
  stop_one (at_reference at l r h) (at_text {text = text} {f = f} at' lf) = absurd (no_fault text f lf (subst LawfulList (text_one at at') l))
  stop_one {gs} {i} (at_reference at l r h) (at_reference {place = place} {kind = kind} at' l' r' h') =
      let same = halts_one h (subst (λ rs. Halts M gs rs kind place) (references_one at' r' at r) h') in
      (λ d. fault_in i (same.0 d) (same.1 d))
  stop_one (at_reference at l r h) (at_end e first) = absurd (omega (arith, text_within at))
  stop_one (at_end e first) (at_text at lf) = absurd (omega (arith, text_within at))
  stop_one (at_end e first) (at_reference at l r h) = absurd (omega (arith, text_within at))
  stop_one (at_end e first) (at_end e' first') = let same = first_one first first' in (λ d. fault_in (same.0 d) GroupLeadsToItself (same.1 d))

  -- when all texts have been read it stops for a circle alone
  pub stop_circle : {gs : List Name} {f : Fault} → Stop M list gs (length gs + 1) f → ((i place : ℕ) → OnCircle M gs i place → ⊥) → ⊥
  stop_circle (at_text at lf) none = omega (arith, text_within at)
  stop_circle (at_reference at l r h) none = omega (arith, text_within at)
  stop_circle (at_end {j = j} {place = place} e first) none = none j place first.circle
