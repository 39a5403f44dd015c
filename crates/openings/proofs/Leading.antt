-- What leads back to a group, by the texts and by the links of all groups.
use Rattle.std.proofs.Common.{◌≡◌, ℕ, ◌+◌, ◌<◌, ◌≤◌, ◌⊎◌, List, [], length, get_or, Some, Option, sym, refl, ap, ◌∙◌, subst, inl, inr, ⊎_elim, arith}
use Rattle.std.proofs.lemmas.Bool.{cases_order}
use Rattle.std.specs.List.{AllByRecursion}
use Rattle.faults.specs.declared.kind.Kind.TheVariants.{GroupLeadsToItself}
use Rattle.links.specs.declared.links.Links.{Links}
use Rattle.links.specs.Links.{Linked, Chain, one, more}
use Rattle.books.specs.Tables.{Table}
use Rattle.openings.specs.References.{Reference, Refers, RefersAt}
use Rattle.openings.specs.Opening.{Name, Meaning, Numbered, Known, ReadTo}
use Rattle.openings.specs.Circles.{Names, Leads, here, on, LeadsOn, OnCircle, FirstOnCircle}
use Rattle.openings.specs.Opened.{names_of, fault_in, Opens, OpenFault, circle}
use Rattle.openings.specs.MetReferences.{Named}
use Rattle.openings.specs.Progress.{Progress}
use Rattle.openings.specs.BackReferences.{Closes, Back, FirstBack}
use Rattle.openings.proofs.Knowing.{numbered_at}
use Rattle.openings.proofs.Collecting.{refers_named}
use Rattle.openings.proofs.Turns.{read_distinct}
use Rattle.openings.proofs.Circling.{named_known}
use Rattle.openings.proofs.TableTexts.{length_names}
use Rattle.openings.proofs.Rising.{refers_split}

-- a link in front of a chain, or of none
step_chain : {Step : ℕ → ℕ → Type 0} {i m j : ℕ} → Step i m → (m ≡ j) ⊎ Chain Step m j → Chain Step i j
step_chain {Step} {i} s (inl e) = one (subst (Step i) e s)
step_chain s (inr c) = more s c

module _ {M : Meaning} {list : List ℕ} {gs : List Name} {texts : List (List ℕ)} {links : Links} (all : Progress M list (length gs) gs texts links) where
  -- a chain of links goes from group to group
  pub chain_leads : {i j : ℕ} → Chain (Linked links) i j → (i < length gs) × ((j < length gs) × LeadsOn M (get_or gs i []) (get_or gs j []))
  chain_leads {i} {j} (one l) =
      let (g, n) = all.only i j l in (omega (arith, l.0, all.rows), (n.1.below, record { by = g; names = n.0; leads = subst (Leads M g) (sym n.1.is) here }))
  chain_leads {i} {j} (more {m = m} l c) =
      let (g, n) = all.only i m l in
      let (lt, rest) = chain_leads c in
      let on-from : Leads M g (get_or gs j []) = subst (λ x. Leads M x (get_or gs j [])) n.1.is (on rest.1.names rest.1.leads) in (omega (arith, l.0, all.rows), (rest.0, record { by = g; names = n.0; leads = on-from }))

  -- a group is linked to those that it names
  names_link : {h m : Name} {i : ℕ} → Numbered gs h i → Names M h m → (j : ℕ) × (Numbered gs m j × Linked links i j)
  names_link {m = m} {i = i} n names = all.every i m n.below (subst (λ x. Names M x m) (sym n.is) names)

  -- and a chain of links leads to those that it leads to, but for itself
  leads_chain : {h t : Name} {i home : ℕ} → Numbered gs h i → Numbered gs t home → Leads M h t → (i ≡ home) ⊎ Chain (Linked links) i home
  leads_chain n m here = inl (read_distinct all.read _ _ _ n m)
  leads_chain n m (on names l) = let (j, x) = names_link n names in inr (step_chain x.1 (leads_chain x.0 m l))

  -- a reference on a circle is one of the text that is held
  circle_refers : {home place : ℕ} → home < length gs → OnCircle M gs (home + 1) place → (h : Name) × (RefersAt (get_or texts home []) place h × Leads M h (get_or gs home []))
  circle_refers {home} {place} lt c =
      let is : c.number ≡ home = omega (arith, c.is) in
      let same : ◌≡◌ {A = Option (List ℕ)} (Some c.text) (Some (get_or texts home [])) = sym c.has ∙ ap (λ k. M (get_or gs k [])) is ∙ all.texts_held home lt in
      let text-is : c.text ≡ get_or texts home [] = cc in
      (c.named, (subst (λ t. RefersAt t place c.named) text-is c.refers, subst (λ k. Leads M c.named (get_or gs k [])) is c.back))

  -- what the text that is held refers to is what the group names
  held_names : {home place : ℕ} {h : Name} → home < length gs → RefersAt (get_or texts home []) place h → Names M (get_or gs home []) h
  held_names {home} {place} lt at = record { text = get_or texts home []; has = all.texts_held home lt; place = place; refers = at }

  -- the first reference on a circle is the fault that is due
  pub circle_fault : {i place : ℕ} → FirstOnCircle M gs i place → OpenFault M list (fault_in i GroupLeadsToItself place)
  circle_fault first = circle all.read first

  -- with no reference on a circle the list opens to the groups with their texts
  pub gathered_opens : ((i place : ℕ) → OnCircle M gs i place → ⊥) → (table : Table) → names_of table ≡ gs → AllByRecursion (λ e. M e.name ≡ Some e.text) table → Opens M list table
  gathered_opens no_circle table names have =
      let size : length gs ≡ length table = ap length (sym names) ∙ length_names table in
      record {
        read = subst (λ n. ReadTo M list (n + 1) (names_of table)) size (subst (ReadTo M list (length gs + 1)) (sym names) all.read);
        texts = have;
        no_circle = subst (λ hs. (i place : ℕ) → OnCircle M hs i place → ⊥) (sym names) no_circle;
      }

  module _ (leads : Links) (closes : Closes links leads) where
    -- a group that leads back by the links does so by the texts
    pub back_leads : (home : ℕ) → home < length gs → (h : Name) → Back gs leads home h → Leads M h (get_or gs home [])
    back_leads home lt h b =
        let own : Leads M (get_or gs b.number []) (get_or gs home []) =
        ⊎_elim
        (λ e. subst (λ k. Leads M (get_or gs b.number []) (get_or gs k [])) e here)
        (λ l. let on-from = (chain_leads ((closes b.number home).0 l)).1.1 in on on-from.names on-from.leads)
        b.back
        in
        subst (λ x. Leads M x (get_or gs home [])) b.numbered.is own

    -- and the other way round
    pub leads_back : (home : ℕ) → home < length gs → (h : Name) → Known gs h → Leads M h (get_or gs home []) → Back gs leads home h
    leads_back home lt h (k, n) l =
        record { number = k; numbered = n; back = ⊎_elim (λ e. inl e) (λ c. inr ((closes k home).1 c)) (leads_chain n (numbered_at home lt) l) }

    -- a reference on a circle leads back
    circle_back : {home place : ℕ} → home < length gs → OnCircle M gs (home + 1) place → (h : Name) × (RefersAt (get_or texts home []) place h × Back gs leads home h)
    circle_back {home} lt c =
        let (h, x) = circle_refers lt c in
        (h, (x.0, leads_back home lt h (named_known all.read (home, numbered_at home lt) (held_names lt x.0)) x.1))

    -- a group that does not lead to itself has no reference on a circle
    pub no_self : (home : ℕ) → home < length gs → (Linked leads home home → ⊥) → (place : ℕ) → OnCircle M gs (home + 1) place → ⊥
    no_self home lt apart place c =
        let (h, x) = circle_refers lt c in
        let own = numbered_at home lt in
        let (j, y) = names_link own (held_names lt x.0) in
        apart ((closes home home).1 (step_chain y.1 (leads_chain y.0 own x.1)))

    -- nor has one of whose references none leads back
    pub no_back : (home : ℕ) → home < length gs → {rs : List Reference} → Refers (get_or texts home []) rs → ((g : Name) → Named rs g → Back gs leads home g → ⊥) → (place : ℕ) → OnCircle M gs (home + 1) place → ⊥
    no_back home lt f apart place c = let (h, x) = circle_back lt c in apart h (refers_named f x.0) x.1

    -- no reference on a circle is before the first that leads back
    first_place : {home place q : ℕ} {rs : List Reference} → home < length gs → Refers (get_or texts home []) rs → FirstBack gs leads home rs place → OnCircle M gs (home + 1) q → place ≤ q
    first_place {home} lt f b c =
        let (h, x) = circle_back lt c in
        ⊎_elim (λ n. absurd (b.none_before h n x.1)) (λ le. le)
        (refers_split b.before b.after _ (subst (Refers (get_or texts home [])) b.whole f) x.0)

    -- the first that leads back is the first on a circle, where the texts before have none
    pub first_back : (home : ℕ) → home < length gs → {rs : List Reference} {place : ℕ} → Refers (get_or texts home []) rs → FirstBack gs leads home rs place → ((j q : ℕ) → j ≤ home → OnCircle M gs j q → ⊥) → FirstOnCircle M gs (home + 1) place
    first_back home lt f b earlier =
        let text = get_or texts home [] in
        record {
          circle = record {
            number = home;
            is = refl;
            below = lt;
            text = text;
            has = all.texts_held home lt;
            named = b.name;
            refers = record { before = b.before; after = b.after; refers = subst (Refers text) b.whole f };
            back = back_leads home lt b.name b.is;
          };
          first = λ j q c.
              ⊎_elim
              (λ same. inr (same, first_place lt f b (subst (λ i. OnCircle M gs i q) (sym same) c)))
              (⊎_elim (λ lt'. inl lt') (λ lt'. absurd (earlier j q (omega arith) c)))
              (cases_order (home + 1) j);
        }
