-- The texts of an opened list, by the numbers of their groups.
use Rattle.std.proofs.Common.{◌≡◌, ℕ, ◌<◌, ◌≤◌, List, [], length, get_or, sym, ap, ◌∙◌, arith}
use lib.ListN.{length-map}
use Rattle.std.proofs.lemmas.List.{get_or-map}
use Rattle.lists.specs.declared.list.AccessList.{AccessList}
use Rattle.books.specs.Tables.{Table}
use Rattle.openings.specs.declared.opened.Opened.{Opened}
use Rattle.openings.specs.Opened.{texts_of}
use Rattle.openings.specs.Views.{text_in, texts_in}
use Rattle.openings.specs.Answers.{groups_of}
use Rattle.openings.proofs.Holding.{known_count}
use Rattle.openings.proofs.TableTexts.{length_names}
use Rattle.openings.proofs.Viewing.{view_names}
use Rattle.matching.proofs.Grounds.{length_texts}

-- there are at most 32 groups
pub few_groups : (o : Opened) → length (groups_of o) ≤ 32
few_groups o = omega (arith, length_names (groups_of o), ap length (view_names o), known_count o.names, o.names.few)

module _ (table : Table) (texts : List AccessList) (these : texts_in texts ≡ texts_of table) where
  -- there are as many texts as groups
  pub texts_count : length texts ≡ length table
  texts_count = sym (length-map texts text_in) ∙ ap length these ∙ length_texts table

  -- the text at a number
  pub text_at : (k : ℕ) (x : AccessList) → k < length texts → x ≡ get_or texts k x → text_in x ≡ get_or (texts_of table) k []
  text_at k x lt e = ap text_in e ∙ sym (get_or-map text_in texts k x [] lt) ∙ ap (λ ts. get_or ts k []) these
