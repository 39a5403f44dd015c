-- A group that is due is lacking: it is told at the first reference to it.
use Rattle.std.proofs.Common.{◌≡◌, ℕ, zero, suc, ◌+◌, ◌<◌, ◌≤◌, true, List, [], ◌∷◌, ◌++◌, length, get_or, is_some, Some, None, Option, sym, refl, ap, ◌∙◌, subst, ⊎_elim, arith}
use Rattle.std.proofs.lemmas.Bool.{cases_lt}
use Rattle.faults.specs.declared.kind.Kind.TheVariants.{GroupNotInBook}
use Rattle.links.specs.declared.links.Links.{Links}
use Rattle.books.specs.Tables.{Table}
use Rattle.openings.specs.References.{Reference, Refers}
use Rattle.openings.specs.Opening.{Name, Meaning, Numbered, Known, again, new, MeetsAll, met, meet, Halts, lacking, TextAt, the_list, the_group, ReadTo, start, turn}
use Rattle.openings.specs.Opened.{fault_in, OpenFault, halts}
use Rattle.openings.specs.MetReferences.{Named}
use Rattle.openings.specs.Membership.{or_empty}
use Rattle.openings.specs.BackReferences.{First}
use Rattle.openings.specs.Progress.{Progress, HasTexts, Fits}
use Rattle.openings.proofs.Knowing.{numbered_at}
use Rattle.openings.proofs.Meeting.{meets_keeps, halts_append, known_checked, checked_named}
use Rattle.openings.proofs.Turns.{Keeps, text_keeps, references_one, read_before}
use Rattle.openings.proofs.Collecting.{AllHave, meets_have, read_have}
use Rattle.openings.proofs.Meanings.{meets_had, text_across, read_across}

-- a meaning with every name that it lacks, with an empty text
abbrev pub supposed : Meaning → Meaning
supposed M name = or_empty (M name)

empty_some : (o : Option (List ℕ)) → is_some (or_empty o) ≡ true
empty_some None = refl
empty_some (Some t) = refl

texts_supposed : (M : Meaning) (t : Table) → HasTexts M t → HasTexts (supposed M) t
texts_supposed M [] h = tt
texts_supposed M (e ∷ t) h = (ap or_empty h.0, texts_supposed M t h.1)

pub fits_supposed : (M : Meaning) (gs : List Name) (t : Table) → HasTexts M t → Fits (supposed M) gs t
fits_supposed M gs t h = record { texts = texts_supposed M t h; names = λ g k. empty_some (M g) }

-- references are met, and then others
split_met : {M : Meaning} {gs gs'' : List Name} (rs ss : List Reference) → MeetsAll M gs (rs ++ ss) gs'' → (gs' : List Name) × (MeetsAll M gs rs gs' × MeetsAll M gs' ss gs'')
split_met [] ss ms = (_, (met, ms))
split_met (r ∷ rs) ss (meet m ms) = let x = split_met rs ss ms in (x.0, (meet m x.1.0, x.1.1))

met_few : {M : Meaning} {gs gs' : List Name} {r : Reference} {rs : List Reference} → (Known gs r.name → ⊥) → MeetsAll M gs (r ∷ rs) gs' → length gs < 32
met_few unknown (meet (again k) ms) = absurd (unknown k)
met_few unknown (meet (new u few s) ms) = few

-- none of the first texts refers to a name
abbrev pub NoneNamed : List (List ℕ) → Name → ℕ → Type 0
NoneNamed texts name k = (m : ℕ) → m < k → (rs : List Reference) → Refers (get_or texts m []) rs → Named rs name → ⊥

module _ (M : Meaning) {list : List ℕ} {n : ℕ} {gs : List Name} {texts : List (List ℕ)} {links : Links} (G : Progress (supposed M) list n gs texts links) (held : (i : ℕ) → i < n → M (get_or gs i []) ≡ Some (get_or texts i [])) (name : Name) (due : Numbered gs name n) where
  -- no text with a lower number refers to it
  abbrev pub Unnamed : ℕ → Type 0
  Unnamed i = (j : ℕ) → j < i → (text : List ℕ) (rs : List Reference) → TextAt (supposed M) list gs j text → Refers text rs → Named rs name → ⊥

  pub unnamed_list : ((rs : List Reference) → Refers list rs → Named rs name → ⊥) → Unnamed 1
  unnamed_list none j lt text rs (the_list z e) f = none rs (subst (λ t. Refers t rs) e f)
  unnamed_list none j lt text rs (the_group k is lt' has) f = absurd (omega (arith, is, lt))

  last_named : (m : ℕ) → m < n → {text : List ℕ} {rs : List Reference} → ((rs : List Reference) → Refers (get_or texts m []) rs → Named rs name → ⊥) → TextAt (supposed M) list gs (m + 1) text → Refers text rs → Named rs name → ⊥
  last_named m here none (the_list z e) f = absurd (omega (arith, z))
  last_named m here {text} {rs} none (the_group k is lt has) f =
      let place : k ≡ m = omega arith in
      let same : ◌≡◌ {A = Option (List ℕ)} (Some text) (Some (get_or texts m [])) = sym has ∙ ap (λ x. supposed M (get_or gs x [])) place ∙ G.texts_held m here in
      let text-is : text ≡ get_or texts m [] = cc in
      none rs (subst (λ t. Refers t rs) text-is f)

  pub unnamed_more : (m : ℕ) → m < n → Unnamed (m + 1) → ((rs : List Reference) → Refers (get_or texts m []) rs → Named rs name → ⊥) → Unnamed (m + 2)
  unnamed_more m here before none j lt text rs at f =
      ⊎_elim
      (λ lt'. before j lt' text rs at f)
      (λ le. let is : j ≡ m + 1 = omega arith in last_named m here none (subst (λ i. TextAt (supposed M) list gs i text) is at) f)
      (cases_lt j (m + 1))

  -- nor do the list and the first texts, if none of them does
  pub unnamed_all : ((rs : List Reference) → Refers list rs → Named rs name → ⊥) → (k : ℕ) → k ≤ n → NoneNamed texts name k → Unnamed (k + 1)
  unnamed_all none zero le texts-none = unnamed_list none
  unnamed_all none (suc k) le texts-none =
      let e : k + 2 ≡ suc k + 1 = omega arith in
      subst Unnamed e (unnamed_more k (omega arith) (unnamed_all none k (omega arith) (λ m lt. texts-none m (omega arith))) (texts-none k (omega arith)))

  -- then it is not known before that text
  unknown : {hs : List Name} {i : ℕ} → ReadTo (supposed M) list i hs → Unnamed i → Keeps hs gs → Known hs name → ⊥
  unknown start none keeps k = omega (arith, k.1.below)
  unknown (turn {i = i} is r at l f ms) none keeps k =
      let before : Keeps _ gs = λ g j x. keeps g j (meets_keeps ms x) in
      ⊎_elim
      (unknown r (λ j lt. none j (omega arith)) before)
      (λ c. none i (omega arith) _ _ (text_keeps before at) f (checked_named c))
      (known_checked ms k)

  -- some text refers to it
  pub referred : Unnamed (n + 1) → ⊥
  referred none = unknown G.read none (λ g k x. x) (n, due)

  -- names among which it is not have the same text by both meanings
  agrees : {hs : List Name} → Keeps hs gs → (Known hs name → ⊥) → (g : Name) → Known hs g → M g ≡ supposed M g
  agrees {hs} keeps none g (k, numbered) =
      ⊎_elim
      (λ lt.
      let at = keeps g k numbered in
      let own : M g ≡ Some (get_or texts k []) = ap M (sym at.is) ∙ held k lt in own ∙ sym (ap or_empty own))
      (λ le.
      let lt : n < length hs = omega (arith, numbered.below) in
      let at = keeps _ n (numbered_at n lt) in
      absurd (none (n, record { below = lt; is = sym at.is ∙ due.is })))
      (cases_lt k n)

  -- so it is the fault that is due, at the first reference to it
  pub lacking_told : M name ≡ None → (i : ℕ) → i ≤ n → Unnamed i → {text : List ℕ} {rs : List Reference} {place : ℕ} → TextAt (supposed M) list gs i text → Refers text rs → First (λ h. h ≡ name) rs place → OpenFault M list (fault_in i GroupNotInBook place)
  lacking_told lacks i le none {text} {rs} {place} at f first =
      let b = read_before G.read i (omega arith) in
      let t = b.this in
      let keeps : Keeps b.before gs = λ g k x. b.keeps g k (meets_keeps t.meets x) in
      let new-here = unknown b.read none keeps in
      let r : Reference = record { place = place; name = first.name } in
      let whole : t.references ≡ first.before ++ (r ∷ first.after) = references_one (text_keeps keeps t.here) t.refers at f ∙ first.whole in
      let (mid, ms) = split_met first.before (r ∷ first.after) (subst (λ x. MeetsAll (supposed M) b.before x b.after) whole t.meets) in
      let mid-keeps : Keeps mid gs = λ g k x. b.keeps g k (meets_keeps ms.1 x) in
      let unknown-mid : Known mid name → ⊥ = λ k. ⊎_elim new-here (λ c. first.none_before name (checked_named c) refl) (known_checked ms.0 k) in
      let unknown-there : Known mid first.name → ⊥ = λ k. unknown-mid (subst (Known mid) first.is k) in
      let agree = agrees keeps new-here in
      let have : AllHave M mid = λ g k. ap is_some (agrees mid-keeps unknown-mid g k) ∙ meets_have ms.0 (read_have b.read) g k in
      let halt = halts_append (meets_had have ms.0) (lacking {rs = first.after} unknown-there (met_few unknown-there ms.1) (ap M first.is ∙ lacks)) in
      halts (read_across agree b.read) (text_across agree t.here) t.lawful t.refers (subst (λ x. Halts M b.before x GroupNotInBook place) (sym whole) halt)
