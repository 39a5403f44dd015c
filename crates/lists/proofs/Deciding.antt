-- Whether a text is a lawful list is decided by reading it, so the mere statement that it is one gives its tree.
use Rattle.std.proofs.Common.{◌≡◌, ℕ, zero, suc, Bool, true, false, List, [], ◌∷◌, length, Some, None, Option, sym, refl, subst, inl, inr, ⊎_elim, arith}
use borrow.Author.Tests.{clash}
use Rattle.std.proofs.lemmas.Bool.{cases_lt, cases_eq}
use Rattle.names.proofs.Deciding.{Decided, from_mere}
use Rattle.lists.specs.Trees.{empty}
use Rattle.lists.specs.Bytes.{blanks}
use Rattle.lists.specs.Tokens.{Spells, ends}
use Rattle.lists.specs.Texts.{ListText, LawfulList}
use Rattle.lists.specs.Machine.{At, within, State, out, word, brace, name, braced, reads, start}
use Rattle.lists.proofs.Machine.{Lands}
use Rattle.lists.proofs.Viable.{item_lands, reads_item}
use Rattle.lists.proofs.Halts.{item_list, list_cases}

-- no bracket is open and an item stands before, or not
at_item : (a : At) → Decided (a ≡ within 0 false)
at_item (within zero false) = inl refl
at_item (within zero true) = inr (λ e. let z : ◌≡◌ {A = Bool} false true = cc in clash z)
at_item (within (suc d) due) = inr (λ e. let z : suc d ≡ 0 = cc in omega arith)

lands : (o : Option State) → Decided (Lands o (within 0 false))
lands None = inr (λ l. l)
lands (Some (out a)) = at_item a
lands (Some (word a k)) = at_item a
lands (Some (brace a)) = inr (λ l. l)
lands (Some (name a k)) = inr (λ l. l)
lands (Some (braced a)) = inr (λ l. l)

-- all bytes are blank, or not
first_blank : (b : ℕ) (text : List ℕ) (n : ℕ) → b ∷ text ≡ blanks n → b ≡ 32
first_blank b text zero e = let z : ◌≡◌ {A = ℕ} 0 1 = cc in absurd (omega arith)
first_blank b text (suc n) e = cc

rest_blank : (b : ℕ) (text : List ℕ) (n : ℕ) → b ∷ text ≡ blanks n → (m : ℕ) × (text ≡ blanks m)
rest_blank b text zero e = let z : ◌≡◌ {A = ℕ} 0 1 = cc in absurd (omega arith)
rest_blank b text (suc n) e = (n, cc)

all_blank : (text : List ℕ) → Decided ((n : ℕ) × (text ≡ blanks n))
all_blank [] = inl (0, refl)
all_blank (b ∷ text) =
    ⊎_elim
    (λ e. ⊎_elim (λ r. inl (suc r.0, λ i. e i ∷ r.1 i)) (λ never. inr (λ r. never (rest_blank b text r.0 r.1))) (all_blank text))
    (λ ne. inr (λ r. ne (first_blank b text r.0 r.1)))
    (cases_eq b 32)

module _ (text : List ℕ) where
  blank_text : (n : ℕ) → text ≡ blanks n → ListText text
  blank_text n e = record { tree = empty; reads = subst (λ t. Spells t []) (sym e) (ends n); shallow = omega arith }

  -- a text that is read to an item's end, or is blank, is a list; no other is
  decide_text : Decided (ListText text)
  decide_text =
      ⊎_elim
      (λ l. inl (item_list (reads_item text l)))
      (λ no_end. ⊎_elim (λ b. inl (blank_text b.0 b.1)) (λ no_blank. inr (λ f. ⊎_elim (λ i. no_end (item_lands text i)) no_blank (list_cases text f))) (all_blank text))
      (lands (reads start text))

  pub decide_list : Decided (LawfulList text)
  decide_list =
      ⊎_elim
      (λ over. inr (λ l. omega (arith, l.short)))
      (λ short. ⊎_elim (λ form. inl (record { form = form; short = short })) (λ never. inr (λ l. never l.form)) decide_text)
      (cases_lt 512 (length text))

  -- a text that is merely a lawful list is one, with a tree
  pub lawful_list : ∥ LawfulList text ∥₁ → LawfulList text
  lawful_list = from_mere (LawfulList text) decide_list
