-- The check of a group name that is given alone.
use Rattle.std.proofs.Common.{◌≡◌, ℕ, ◌-◌, ◌<◌, ◌≤◌, true, ◌⊎◌, List, [], ◌∷◌, ◌++◌, length, get_or, take, sym, refl, ap, ◌∙◌, subst, ⊎_elim, append-nil, arith}
use borrow.Author.Tests.{clash}
use Rattle.std.proofs.slice.Lists.{all_by_recursion_push}
use Rattle.std.proofs.lemmas.List.{take_more, take_all, length_push}
use Rattle.std.proofs.lemmas.Bool.{cases_lt}
use Rattle.std.specs.List.{AllByRecursion}
use Rattle.faults.specs.declared.fault.Fault.{Fault}
use Rattle.faults.specs.declared.kind.Kind.TheVariants.{GroupNameUnlawful}
use Rattle.faults.specs.Answers.{Accepted, Refused}
use Rattle.names.specs.Language.{Stuck}
use Rattle.names.specs.Faults.{fault}
use Rattle.names.proofs.Leaving.{stuck_out, stuck_unique, accepted, refused}
use Rattle.lists.specs.Bytes.{group_byte, IsGroupName, Run}
use Rattle.lists.specs.GroupNames.{GroupBytes, GroupNameFault, long_name, stuck_name}
use Rattle.lists.proofs.Viable.{group_letter}
use Rattle.lists.proofs.Segments.{past_at}

abbrev AllGroup : List ℕ → Type 0
AllGroup t = AllByRecursion (λ b. group_byte b ≡ true) t

-- the byte behind a front is of the kind if all are
behind : (s t : List ℕ) (b : ℕ) → AllGroup ((s ++ (b ∷ [])) ++ t) → group_byte b ≡ true
behind [] t b h = h.0
behind (x ∷ s) t b h = behind s t b h.1

module _ (text : List ℕ) where
  front : (k : ℕ) → Run group_byte text 0 k → AllGroup (take k text)
  front k r = let e : k - 0 ≡ k = omega arith in subst (λ n. AllGroup (take n text)) e r.bytes

  pub name_stuck : (k : ℕ) → Run group_byte text 0 k → (k < length text) ⊎ (k ≡ 0) → Stuck GroupBytes text k
  name_stuck k r short = record {
    within = r.within;
    before = (97 ∷ [], record { some = omega (arith, length_push (take k text) 97); bytes = all_by_recursion_push (λ b. group_byte b ≡ true) (take k text) 97 (front k r) group_letter });
    beyond = λ lt b. clash (sym (past_at group_byte text k lt r.past) ∙ behind (take k text) b.0 (get_or text k 0) (subst (λ u. AllGroup (u ++ b.0)) (take_more text k 0 lt) b.1.bytes));
    short = λ e g. ⊎_elim (λ lt. omega arith) (λ z. omega (arith, g.some)) short;
  }

  pub is_name : (k : ℕ) → Run group_byte text 0 k → length text ≤ k → 0 < k → length text ≤ 32 → IsGroupName text
  is_name k r le some few = record { some = omega (arith, r.within); few = few; bytes = subst AllGroup (take_all k text le) (front k r) }

  one_fault : (f g : Fault) → GroupNameFault text f → GroupNameFault text g → f ≡ g
  one_fault f g (long_name a) (long_name b) = refl
  one_fault f g (long_name a) (stuck_name b t) = absurd (omega arith)
  one_fault f g (stuck_name a s) (long_name b) = absurd (omega arith)
  one_fault f g (stuck_name {place = p} a s) (stuck_name {place = q} b t) = ap (fault GroupNameUnlawful) (stuck_unique GroupBytes text p q s t)

  no_fault : (f : Fault) → GroupNameFault text f → IsGroupName text → ⊥
  no_fault f (long_name a) l = omega (arith, l.few)
  no_fault f (stuck_name {place = p} a s) l =
      let g : GroupBytes text = record { some = l.some; bytes = l.bytes } in
      ⊎_elim (λ lt. stuck_out GroupBytes text [] p s lt ([], subst GroupBytes (sym (append-nil _ ∙ append-nil text)) g)) (λ le. s.short (omega (arith, s.within)) g) (cases_lt p (length text))

  pub name_accepted : IsGroupName text → Accepted (IsGroupName text) (GroupNameFault text)
  name_accepted = accepted (IsGroupName text) (GroupNameFault text) one_fault no_fault

  pub name_refused : (f : Fault) → GroupNameFault text f → Refused (IsGroupName text) (GroupNameFault text) f
  name_refused = refused (IsGroupName text) (GroupNameFault text) one_fault no_fault
