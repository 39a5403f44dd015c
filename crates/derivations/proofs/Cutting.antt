-- The tree that a text reads as is a function of the text: it is cut into signs, and these build a tree.
use Rattle.std.proofs.Common.{◌≡◌, ℕ, Bool, true, false, not, ◌&&◌, ◌||◌, eqb, leb, List, [], length, Some, None, Option, sym, ap, ◌∙◌, subst, ⊎_elim, eqb-true, leb-true}
use borrow.Author.Tests.{clash, not-true}
use Rattle.std.proofs.lemmas.Bool.{and_parts, or_cases}
use Rattle.std.specs.List.{list_all}
use Rattle.lists.specs.Trees.{Tree, empty, list}
use Rattle.lists.specs.Texts.{Reads, LawfulList}
use Rattle.lists.specs.Machine.{At, within, State, out, word, brace, name, braced, reads, start}
use Rattle.lists.proofs.Build.{Place, inside, fresh, barred, full, build}
use Rattle.lists.proofs.Halts.{item_list}
use Rattle.lists.proofs.Machine.{Lands}
use Rattle.lists.proofs.UniqueSpelling.{outside, cut, cut_spelled}
use Rattle.lists.proofs.UniqueTree.{build_alts}
use Rattle.lists.proofs.Viable.{reads_item}
use Rattle.lists.proofs.Whole.{blank_list}

abbrev tree_at : Place → Tree
tree_at (inside us fresh) = empty
tree_at (inside us (barred l)) = empty
tree_at (inside us (full l)) = list l

abbrev pub tree_of : List ℕ → Tree
tree_of text = tree_at (build (inside [] fresh) (cut outside text))

-- a text reads as no other tree
pub tree_of_lem : (text : List ℕ) (t : Tree) → Reads text t → t ≡ tree_of text
tree_of_lem text empty r = sym (ap (λ ss. tree_at (build (inside [] fresh) ss)) (cut_spelled r))
tree_of_lem text (list l) r = sym (ap (λ ss. tree_at (build (inside [] fresh) ss)) (cut_spelled r) ∙ ap tree_at (build_alts [] l))

-- a test that a lawful list passes: all is read, with no bracket open and no item due, or all is blank
abbrev ended : At → Bool
ended (within d due) = eqb d 0 && not due

abbrev landed : Option State → Bool
landed None = false
landed (Some (out a)) = ended a
landed (Some (word a k)) = ended a
landed (Some (brace a)) = false
landed (Some (name a k)) = false
landed (Some (braced a)) = false

at_end : (a : At) → ended a ≡ true → a ≡ within 0 false
at_end (within d due) e = let h = and_parts (eqb d 0) (not due) e in λ i. within (eqb-true d 0 h.0 i) (not-true due h.1 i)

lands : (o : Option State) → landed o ≡ true → Lands o (within 0 false)
lands None e = clash e
lands (Some (out a)) e = at_end a e
lands (Some (word a k)) e = at_end a e
lands (Some (brace a)) e = clash e
lands (Some (name a k)) e = clash e
lands (Some (braced a)) e = clash e

abbrev blank : List ℕ → Bool
blank text = list_all (λ b. eqb b 32) text

abbrev pub reads_as_list : List ℕ → Bool
reads_as_list text = leb (length text) 512 && (landed (reads start text) || blank text)

module _ (text : List ℕ) (is : reads_as_list text ≡ true) where
  pub lawful_list : LawfulList text
  lawful_list =
      let h = and_parts (leb (length text) 512) (landed (reads start text) || blank text) is in
      record { form = ⊎_elim (λ l. item_list (reads_item text (lands (reads start text) l))) (blank_list text) (or_cases (landed (reads start text)) (blank text) h.1); short = leb-true (length text) 512 h.0 }

  pub reads_tree : Reads text (tree_of text)
  reads_tree = let f = lawful_list.form in subst (Reads text) (tree_of_lem text f.tree f.reads) f.reads
