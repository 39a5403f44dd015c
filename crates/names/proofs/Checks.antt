-- What the checks of names and partial names answer.
use Rattle.std.proofs.Common.{◌≡◌, ℕ, ◌+◌, ◌*◌, ◌≤◌, List, length, sym, ap, subst, arith}
use Rattle.faults.specs.declared.fault.Fault.{Fault}
use Rattle.faults.specs.declared.kind.Kind.TheVariants.{NameTooLong}
use Rattle.names.specs.Language.{Stuck}
use Rattle.names.specs.Words.{Joined, count_of}
use Rattle.names.specs.Names.{Part, Partial, Steps, Spelled, IsName, LawfulName}
use Rattle.names.specs.Faults.{fault, mark_byte, NameFault, PartialFault, stuck, parts, stuck_partial}
use Rattle.names.specs.Joints.{Unjoined, JointAt}
use Rattle.names.proofs.Forms.{dot_byte, joined_name, name_joined, joined_partial, spelled_partial}
use Rattle.names.proofs.Counts.{joint_more}
use Rattle.names.proofs.Places.{alternates, count_parts, place_of}

-- a text leaves two languages that have the same texts at the same place
pub stuck_same : (L M : List ℕ → Type 0) → ((t : List ℕ) → L t → M t) → ((t : List ℕ) → M t → L t) → (text : List ℕ) (place : ℕ) → Stuck L text place → Stuck M text place
stuck_same L M to from text place s = record {
  within = s.within;
  before = (s.before.0, to _ s.before.1);
  beyond = λ lt b. s.beyond lt (b.0, from _ b.1);
  short = λ e m. s.short e (from _ m);
}

module _ (text : List ℕ) where
  pub name_slip : (f : Fault) → length text ≤ 255 → Unjoined mark_byte text f → NameFault text f
  name_slip f le s = subst (NameFault text) (sym s.told) (stuck le (stuck_same (Joined mark_byte) (Spelled Steps) (λ t. joined_name) (λ t. name_joined) text s.place s.stuck))

  pub name_parts : (place : ℕ) → length text ≤ 255 → Joined mark_byte text → JointAt mark_byte text 31 place → NameFault text (fault NameTooLong place)
  name_parts place le j here =
      let r = joined_name j in
      let a = alternates r.form in
      let there = place_of a 31 place (subst (λ t. JointAt mark_byte t 31 place) (sym r.spelling) here) in
      subst (λ p. NameFault text (fault NameTooLong p)) (sym there)
      (parts {ps = r.parts} le r.form r.spelling (omega (arith, count_parts a, ap (count_of mark_byte) r.spelling, joint_more mark_byte text 31 place here)))

  pub name_lawful : length text ≤ 255 → Joined mark_byte text → count_of mark_byte text ≤ 31 → LawfulName text
  name_lawful le j few =
      let r = joined_name j in
      (r.parts, record { form = r.form; spelling = r.spelling; short = le; few = omega (arith, count_parts (alternates r.form), ap (count_of mark_byte) r.spelling) })

  pub parts_counted : (marks : ℕ) → marks ≡ count_of mark_byte text → (ps : List Part) → IsName text ps → 2 * marks + 1 ≡ length ps
  parts_counted marks e ps n = omega (arith, count_parts (alternates n.form), ap (count_of mark_byte) n.spelling)

  pub partial_slip : (f : Fault) → length text ≤ 64 → Unjoined dot_byte text f → PartialFault text f
  partial_slip f le s = subst (PartialFault text) (sym s.told) (stuck_partial le (stuck_same (Joined dot_byte) (Spelled Partial) (λ t. joined_partial) (λ t. spelled_partial) text s.place s.stuck))
