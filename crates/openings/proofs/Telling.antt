-- Closed links tell which group leads to which.
use Rattle.std.proofs.Common.{◌≡◌, ℕ, ◌<◌, List, [], length, get_or, sym, refl, ap, ◌∙◌, subst, ⊎_elim, arith}
use Rattle.links.specs.declared.links.Links.{Links}
use Rattle.links.specs.Links.{Linked, one, more}
use Rattle.books.specs.Tables.{Table, text_of}
use Rattle.openings.specs.Opening.{Name, Meaning, Known}
use Rattle.openings.specs.Circles.{LeadsOn}
use Rattle.openings.specs.Opened.{names_of, Opens}
use Rattle.openings.specs.Progress.{Progress}
use Rattle.openings.specs.BackReferences.{Closes}
use Rattle.openings.specs.Whole.{Tells}
use Rattle.openings.proofs.Turns.{read_distinct}
use Rattle.openings.proofs.Circling.{named_known, names_across, leads_across}
use Rattle.openings.proofs.TableTexts.{length_names, text_known}
use Rattle.openings.proofs.Answering.{opens_all, opens_own}
use Rattle.openings.proofs.Leading.{chain_leads, leads_back}

module _ {M : Meaning} {list : List ℕ} {gs : List Name} {texts : List (List ℕ)} {links : Links} (all : Progress M list (length gs) gs texts links) where
  module _ (leads : Links) (closes : Closes links leads) where
    linked_leads : (i j : ℕ) → Linked leads i j → (i < length gs) × ((j < length gs) × LeadsOn M (get_or gs i []) (get_or gs j []))
    linked_leads i j l = chain_leads all ((closes i j).0 l)

    leads_linked : (i j : ℕ) → i < length gs → j < length gs → LeadsOn M (get_or gs i []) (get_or gs j []) → Linked leads i j
    leads_linked i j lt lt' l =
        let (k, n) = all.every i l.by lt l.names in
        let b = leads_back all leads closes j lt' l.by (k, n.0) l.leads in
        let same : k ≡ b.number = read_distinct all.read l.by k b.number n.0 b.numbered in
        ⊎_elim
        (λ home. (closes i j).1 (one (subst (Linked links i) (same ∙ home) n.1)))
        (λ back. (closes i j).1 (more n.1 ((closes k j).0 (subst (λ x. Linked leads x j) (sym same) back))))
        b.back

    -- and so by the table of the groups that were reached
    pub tells : (table : Table) → names_of table ≡ gs → Opens M list table → Tells table leads
    tells table names opens =
        let size : length table ≡ length gs = sym (length_names table) ∙ ap length names in
        let own = opens_own M list table opens in
        let agree : (g : Name) → Known (names_of table) g → text_of table g ≡ M g = λ g k. text_known M table g opens.texts k in
        let all-names = opens_all opens in
        let own-names = opens_all own in
        let known : (i : ℕ) → i < length table → Known (names_of table) (get_or (names_of table) i []) = λ i lt. (i, record { below = omega (arith, length_names table); is = refl }) in
        λ i j. (
          λ l.
              let (lt, rest) = linked_leads i j l in
              let on-names = subst (λ ns. LeadsOn M (get_or ns i []) (get_or ns j [])) (sym names) rest.1 in
              let k = known i (omega arith) in (omega arith, (omega (arith, rest.0), record { by = on-names.by; names = names_across all-names agree k on-names.names; leads = leads_across all-names agree (named_known all-names k on-names.names) on-names.leads })),
          λ x.
              let l = x.1.1 in
              let k = known i x.0 in
              let back : (g : Name) → Known (names_of table) g → M g ≡ text_of table g = λ g n. sym (agree g n) in
              let on-own : LeadsOn M (get_or (names_of table) i []) (get_or (names_of table) j []) = record { by = l.by; names = names_across own-names back k l.names; leads = leads_across own-names back (named_known own-names k l.names) l.leads } in
              leads_linked i j (omega (arith, x.0)) (omega (arith, x.1.0)) (subst (λ ns. LeadsOn M (get_or ns i []) (get_or ns j [])) names on-own),
        )
