-- Reading one group more.
use Rattle.std.proofs.Common.{◌≡◌, ℕ, ◌+◌, ◌<◌, true, ◌≢◌, List, [], ◌∷◌, ◌++◌, length, get_or, set, is_some, Some, None, Option, sym, refl, ap, ◌∙◌, subst, inl, inr, ⊎_elim, arith, get_or-set_other, get_or-set_same}
use borrow.Author.Tests.{clash}
use Rattle.std.proofs.lemmas.Bool.{cases_lt}
use Rattle.faults.specs.declared.fault.Fault.{Fault}
use Rattle.links.specs.declared.links.Links.{Links}
use Rattle.links.specs.Links.{Added}
use Rattle.lists.specs.Texts.{LawfulList}
use Rattle.lists.specs.Faults.{ListFault}
use Rattle.lists.proofs.Placing.{lawful_placed}
use Rattle.openings.specs.References.{Reference, references_of, Refers, RefersAt}
use Rattle.openings.specs.Opening.{Name, Meaning, Known, Meets, again, new, MeetsAll, met, meet, Halts, ReadTo, start, turn, the_list, the_group}
use Rattle.openings.specs.Opened.{in_text, OpenFault, unlawful, halts}
use Rattle.openings.specs.Circles.{Names}
use Rattle.openings.specs.MetReferences.{Named, AllMet, HaltsIn}
use Rattle.openings.specs.Progress.{Progress}
use Rattle.openings.proofs.Meeting.{meets_keeps}
use Rattle.openings.proofs.Knowing.{numbered_at, push_source}
use Rattle.openings.proofs.Referring.{refers_one}

-- a group that is named has a reference somewhere among those before and after it
pub named_split : (rs : List Reference) (g : Name) → Named rs g → (before : List Reference) × (place : ℕ) × (after : List Reference) × (rs ≡ before ++ (record { place = place; name = g } ∷ after))
named_split [] g n = elim n [ ]
named_split (r ∷ rs) g (inl e) = ([], r.place, rs, ap (λ x. record { place = r.place; name = x } ∷ rs) e)
named_split (r ∷ rs) g (inr n) = let (b, p, a, e) = named_split rs g n in (r ∷ b, p, a, ap (λ x. r ∷ x) e)

pub split_named : (before after : List Reference) (r : Reference) → Named (before ++ (r ∷ after)) r.name
split_named [] after r = inl refl
split_named (x ∷ before) after r = inr (split_named before after r)

-- a text refers to the groups that its references name
pub named_refers : {text : List ℕ} {rs : List Reference} {g : Name} → Refers text rs → Named rs g → (place : ℕ) × RefersAt text place g
named_refers {text} {rs} {g} refers n = let (b, p, a, e) = named_split rs g n in (p, record { before = b; after = a; refers = subst (Refers text) e refers })

pub refers_named : {text : List ℕ} {rs : List Reference} {g : Name} {place : ℕ} → Refers text rs → RefersAt text place g → Named rs g
refers_named {g = g} refers at = subst (λ rs. Named rs g) (refers_one at.refers refers) (split_named at.before at.after _)

-- groups that are known keep their places
pub kept_at : {M : Meaning} {gs gs' : List Name} {rs : List Reference} (i : ℕ) → MeetsAll M gs rs gs' → i < length gs → get_or gs' i [] ≡ get_or gs i []
kept_at i m lt = (meets_keeps m (numbered_at i lt)).is

-- what a group's text names, where the group has another number or name
names_of : {M : Meaning} {f g h : Name} → f ≡ g → Names M g h → Names M f h
names_of {M} {h = h} e n = subst (λ x. Names M x h) (sym e) n

module _ {M : Meaning} {list : List ℕ} {k : ℕ} {gs gs' : List Name} {texts : List (List ℕ)} {links links' : Links} {named : ℕ} where
  -- one group more is read, and what it names is met
  pub gather_more : (text : List ℕ) (rs : List Reference) → Progress M list k gs texts links → k < length gs → k < length texts → M (get_or gs k []) ≡ Some text → LawfulList text → Refers text rs → AllMet M gs rs gs' named → Added links named links' → Progress M list (k + 1) gs' (set texts k text) links'
  gather_more text rs g here room has lawful refers all added =
      let own = kept_at k all.met here in
      record {
        read = turn refl g.read (the_group k refl here has) lawful refers all.met;
        within = omega (arith, (meets_keeps all.met (numbered_at k here)).below);
        texts_held = λ i lt.
            ⊎_elim
            (λ old.
            let ne : i ≢ k = omega arith in
            ap M (kept_at i all.met (omega arith)) ∙ g.texts_held i old ∙ ap Some (sym (get_or-set_other texts k i text [] ne)))
            (λ le. let is : i ≡ k = omega arith in subst (λ x. M (get_or gs' x []) ≡ Some (get_or (set texts k text) x [])) (sym is) (ap M own ∙ has ∙ ap Some (sym (get_or-set_same texts k text [] room))))
            (cases_lt i k);
        rows = added.count ∙ ap (λ n. n + 1) g.rows;
        only = λ i j l.
            ⊎_elim
            (λ old.
            let (x, n) = g.only i j old in
            let below : i < length gs = omega (arith, old.0, g.rows, g.within) in (x, (names_of (kept_at i all.met below) n.0, meets_keeps all.met n.1)))
            (λ new.
            let (x, n) = all.only j new.1 in
            let (place, at) = named_refers refers n.0 in
            let is : i ≡ k = new.0 ∙ g.rows in (x, (record { text = text; has = ap (λ y. M (get_or gs' y [])) is ∙ ap M own ∙ has; place = place; refers = at }, n.1)))
            ((added.links i j).0 l);
        every = λ i x lt n.
            ⊎_elim
            (λ old. let (j, y) = g.every i x old (names_of (sym (kept_at i all.met (omega arith))) n) in (j, (meets_keeps all.met y.0, (added.links i j).1 (inl y.1))))
            (λ le.
            let is : i ≡ k = omega arith in
            let same : ◌≡◌ {A = Option (List ℕ)} (Some n.text) (Some text) = sym n.has ∙ ap (λ y. M (get_or gs' y [])) is ∙ ap M own ∙ has in
            let text-is : n.text ≡ text = cc in
            let (j, y) = all.every x (refers_named refers (subst (λ t. RefersAt t n.place x) text-is n.refers)) in (j, (y.0, (added.links i j).1 (inr (is ∙ sym g.rows, y.1)))))
            (cases_lt i k);
      }

-- every group that is known is in the book
abbrev pub AllHave : Meaning → List Name → Type 0
AllHave M gs = (g : Name) → Known gs g → is_some (M g) ≡ true

meet_have : {M : Meaning} {gs gs' : List Name} {h : Name} → Meets M gs h gs' → AllHave M gs → AllHave M gs'
meet_have (again k) have g known = have g known
meet_have {M} {gs} {h = h} (new u f s) have g known = ⊎_elim (have g) (λ e. ap (λ x. is_some (M x)) (sym e) ∙ s) (push_source gs h known)

pub meets_have : {M : Meaning} {gs gs' : List Name} {rs : List Reference} → MeetsAll M gs rs gs' → AllHave M gs → AllHave M gs'
meets_have met have = have
meets_have (meet m ms) have = meets_have ms (meet_have m have)

pub read_have : {M : Meaning} {list : List ℕ} {n : ℕ} {gs : List Name} → ReadTo M list n gs → AllHave M gs
read_have start g known = absurd (omega (arith, known.1.below))
read_have (turn e r t l f m) g known = meets_have m (read_have r) g known

some_is : (o : Option (List ℕ)) → is_some o ≡ true → (text : List ℕ) × (o ≡ Some text)
some_is None e = absurd (clash e)
some_is (Some t) e = (t, refl)

-- the references of a lawful text
pub references : {text : List ℕ} → LawfulList text → (rs : List Reference) × Refers text rs
references lawful = let (ps, placed) = lawful_placed lawful in (references_of ps, record { tokens = ps; placed = placed; these = refl })

module _ {M : Meaning} {list : List ℕ} (lawful : LawfulList list) where
  -- the list itself is read first
  pub list_halts : {gs : List Name} {f : Fault} → gs ≡ [] → ((rs : List Reference) → Refers list rs → HaltsIn M gs rs f) → OpenFault M list f
  list_halts {f = f} none h =
      let (rs, refers) = references lawful in
      let x = h rs refers in
      rw (← x.first) at (halts start (the_list refl refl) lawful refers (subst (λ gs. Halts M gs rs f.kind f.place) none x.halts))

  pub list_gathered : {gs gs' : List Name} {named : ℕ} {links : Links} (texts : List (List ℕ)) → gs ≡ [] → ((rs : List Reference) → Refers list rs → AllMet M gs rs gs' named) → links.len ≡ 0 → Progress M list links.len gs' texts links
  list_gathered {gs' = gs'} {links = links} texts none h rows =
      let (rs, refers) = references lawful in
      record {
        read = turn (ap (λ n. n + 1) rows) start (the_list refl refl) lawful refers (subst (λ gs. MeetsAll M gs rs gs') none (h rs refers).met);
        within = omega (arith, rows);
        texts_held = λ i lt. absurd (omega (arith, lt, rows));
        rows = refl;
        only = λ i j l. absurd (omega (arith, l.0, rows));
        every = λ i g lt n. absurd (omega (arith, lt, rows));
      }

module _ {M : Meaning} {list : List ℕ} {k : ℕ} {gs : List Name} {texts : List (List ℕ)} {links : Links} (g : Progress M list k gs texts links) (here : k < length gs) where
  -- the group whose turn it is has a text
  pub has_text : (text : List ℕ) × (M (get_or gs k []) ≡ Some text)
  has_text = some_is (M (get_or gs k [])) (read_have g.read (get_or gs k []) (k, numbered_at k here))

  pub text_fault : {text : List ℕ} {f : Fault} → M (get_or gs k []) ≡ Some text → ListFault text f → OpenFault M list (in_text (k + 1) f)
  text_fault has fault = unlawful g.read (the_group k refl here has) fault

  pub group_halts : {text : List ℕ} {f : Fault} → M (get_or gs k []) ≡ Some text → LawfulList text → ((rs : List Reference) → Refers text rs → HaltsIn M gs rs f) → OpenFault M list (in_text (k + 1) f)
  group_halts has lawful h =
      let (rs, refers) = references lawful in
      halts g.read (the_group k refl here has) lawful refers (h rs refers).halts
