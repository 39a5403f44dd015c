-- What the check of a whole text answers.
use Rattle.std.proofs.Common.{◌≡◌, ℕ, zero, suc, ◌-◌, ◌≤◌, Bool, true, false, List, [], length, sym, refl, ap, ◌∙◌, subst, arith}
use borrow.Author.Tests.{clash}
use Rattle.std.specs.List.{list_all}
use Rattle.std.proofs.lemmas.List.{take_all}
use Rattle.lists.specs.Trees.{empty}
use Rattle.lists.specs.Bytes.{part, blanks}
use Rattle.lists.specs.Tokens.{Spells, ends}
use Rattle.lists.specs.Texts.{ListText}
use Rattle.lists.specs.Lexemes.{is_blank}
use Rattle.lists.specs.Machine.{NotBlank, within, Leads, reads, start, ListRead}
use Rattle.lists.proofs.Machine.{Lands}
use Rattle.lists.proofs.Viable.{reads_item}
use Rattle.lists.proofs.Elements.{every_passed}
use Rattle.lists.proofs.Segments.{all_blanks}
use Rattle.lists.proofs.Course.{stands_lands}
use Rattle.lists.proofs.Halts.{item_list}

blanks_pass : (n : ℕ) → list_all is_blank (blanks n) ≡ true
blanks_pass zero = refl
blanks_pass (suc n) = blanks_pass n

module _ (text : List ℕ) where
  whole : (k : ℕ) → length text ≤ k → part text 0 k ≡ text
  whole k le = take_all (k - 0) text (omega arith)

  -- a text of blanks is a list, and another has a byte that is none
  pub blank_list : list_all is_blank text ≡ true → ListText text
  blank_list e = record { tree = empty; reads = subst (λ t. Spells t []) (sym (all_blanks text (every_passed (λ b. is_blank b ≡ true) is_blank (λ b is. is) text e))) (ends (length text)); shallow = omega arith }

  pub marked_by : list_all is_blank text ≡ false → NotBlank text
  marked_by e n is = clash (sym e ∙ ap (list_all is_blank) is ∙ blanks_pass n)

  pub read_list : (closed : Bool) (end : ℕ) → ListRead text 0 0 closed end → ListText text
  read_list true end r = absurd (omega (arith, r.0))
  read_list false end (at_end, r) =
      let l = subst (λ k. Leads text 0 k (within 0 true) (within 0 false)) at_end (r 0 (omega arith)) in
      item_list (reads_item text (subst (λ o. Lands o (within 0 false)) (sym (ap (reads start) (sym (whole (length text) (omega arith))) ∙ l.reading)) (stands_lands l.state (within 0 false) _ l.stands)))
