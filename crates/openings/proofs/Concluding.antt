-- What an opening answers, once all is known.
use Rattle.std.proofs.Common.{◌≡◌, ℕ, ◌+◌, ◌<◌, ◌≤◌, List, [], length, get_or, Ok, Err, Result, refl, subst, arith}
use Rattle.faults.specs.declared.fault.Fault.{Fault}
use Rattle.faults.specs.Answers.{Refused}
use Rattle.links.specs.declared.links.Links.{Links}
use Rattle.lists.specs.Faults.{ListFault, long, slip, stuck, unclosed}
use Rattle.books.specs.Tables.{Table}
use Rattle.openings.specs.declared.opened.Opened.{Opened}
use Rattle.openings.specs.References.{Reference, Refers}
use Rattle.openings.specs.Opening.{Name, Meaning, Alike, start, the_list, the_group}
use Rattle.openings.specs.Circles.{OnCircle}
use Rattle.openings.specs.Opened.{in_text, Opens, OpenFault, unlawful}
use Rattle.openings.specs.Pairs.{pairs}
use Rattle.openings.specs.Progress.{Progress}
use Rattle.openings.specs.BackReferences.{Closes}
use Rattle.openings.specs.Whole.{Tells}
use Rattle.openings.specs.Answers.{list_of, groups_of, OpenedAs, Answered}
use Rattle.openings.proofs.Meeting.{meets_keeps}
use Rattle.openings.proofs.Turns.{read_before, text_keeps, text_one}
use Rattle.openings.proofs.Answering.{one_answer, complete, same_answer}
use Rattle.openings.proofs.Leading.{gathered_opens}
use Rattle.openings.proofs.Tabling.{pairs_names, pairs_texts}
use Rattle.openings.proofs.Telling.{tells}

-- the references of a group's text
pub text_refers : {M : Meaning} {list : List ℕ} {gs : List Name} {texts : List (List ℕ)} {links : Links} → Progress M list (length gs) gs texts links → (k : ℕ) → k < length gs → (rs : List Reference) × Refers (get_or texts k []) rs
text_refers {M} {list} {gs} {texts} all k lt =
    let r = read_before all.read (k + 1) (omega arith) in
    let same = text_one (text_keeps (λ g n x. r.keeps g n (meets_keeps r.this.meets x)) r.this.here) (the_group k refl lt (all.texts_held k lt)) in
    (r.this.references, subst (λ t. Refers t r.this.references) same r.this.refers)

-- a fault of the list itself has text 0
own_text : {text : List ℕ} {f : Fault} → ListFault text f → in_text 0 f ≡ f
own_text (long h) = refl
own_text (slip h (stuck s n)) = refl
own_text (slip h (unclosed u)) = refl

pub list_told : {M : Meaning} {list : List ℕ} {f : Fault} → ListFault list f → OpenFault M list f
list_told {M} {list} fault = subst (OpenFault M list) (own_text fault) (unlawful start (the_list refl refl) fault)

-- a fault that is due is the only one, and the list does not open
pub refused : {M : Meaning} {list : List ℕ} {f : Fault} → OpenFault M list f → Refused ((groups : Table) × Opens M list groups) (OpenFault M list) f
refused {M} {list} {f} x = record { told = x; only = λ h y. (one_answer M list).fault h f y x; unlawful = λ o. (one_answer M list).apart o.0 f o.1 x }

pub refused_alike : {M M' : Meaning} {list : List ℕ} {f : Fault} → OpenFault M list f → Alike M M' list → Refused ((groups : Table) × Opens M' list groups) (OpenFault M' list) f
refused_alike {M} {M'} {list} {f} x alike = refused ((same_answer list M M' alike).faults f x)

-- a list that opens has all its groups, and no fault
pub opened_as : {M : Meaning} {list : List ℕ} (o : Opened) → list_of o ≡ list → Opens M list (groups_of o) → OpenedAs M list o
opened_as {M} {list} o same opens = record { same = same; opens = opens; only = λ t p. (one_answer M list).groups t (groups_of o) p opens; complete = complete M list (groups_of o) opens; faultless = λ f x. (one_answer M list).apart (groups_of o) f opens x }

pub opened_alike : {M M' : Meaning} {list : List ℕ} (o : Opened) → list_of o ≡ list → Opens M list (groups_of o) → Alike M M' list → OpenedAs M' list o
opened_alike {M} {M'} {list} o same opens alike = opened_as o same ((same_answer list M M' alike).groups (groups_of o) opens)

-- an answer is one by every meaning that agrees on the names that were looked up
pub answered_alike : {M M' : Meaning} {list : List ℕ} (r : Result Opened Fault) → Answered M list r → Alike M M' list → Answered M' list r
answered_alike (Ok o) a alike = opened_alike o a.same a.opens alike
answered_alike (Err f) a alike = refused_alike a.told alike

module _ {M : Meaning} {list : List ℕ} {gs : List Name} {texts : List (List ℕ)} {links : Links} (enough : length gs ≤ length texts) (all : Progress M list (length gs) gs texts links) where
  -- without a circle the list opens to the groups that were read
  pub table_opens : ((i place : ℕ) → OnCircle M gs i place → ⊥) → Opens M list (pairs gs texts)
  table_opens none = gathered_opens all none (pairs gs texts) (pairs_names gs texts enough) (pairs_texts all)

  pub table_tells : (leads : Links) → Closes links leads → Opens M list (pairs gs texts) → Tells (pairs gs texts) leads
  table_tells leads closes opens = tells all leads closes (pairs gs texts) (pairs_names gs texts enough) opens
