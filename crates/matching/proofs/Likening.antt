-- A list and another text derive the same names, if they read as one tree and the groups that were reached have the
-- same texts in both tables.
use Rattle.std.proofs.Common.{◌≡◌, ℕ, ◌<◌, ◌↔◌, List, [], length, get_or, Some, sym, ap, ◌∙◌, subst, arith}
use Rattle.std.specs.List.{AllByRecursion}
use Rattle.lists.specs.Trees.{Tree}
use Rattle.lists.specs.Texts.{Reads}
use Rattle.books.specs.Tables.{Table, text_of}
use Rattle.openings.specs.declared.opened.Opened.{Opened}
use Rattle.openings.specs.Opening.{Name, Known}
use Rattle.openings.specs.Opened.{names_of, texts_of}
use Rattle.openings.specs.Answers.{list_of, groups_of}
use Rattle.openings.proofs.TableTexts.{length_names}
use Rattle.derivations.specs.Derives.{GroupOf, ListDerives}
use Rattle.derivations.specs.References.{tree_groups}
use Rattle.derivations.proofs.Reached.{list_reached}
use Rattle.derivations.proofs.Readings.{one_tree}
use Rattle.matching.specs.Alike.{SameTreeAndGroups}
use Rattle.matching.proofs.Grounds.{Grounds, grounds, text_held}
use Rattle.matching.proofs.Mentions.{every_group}

module _ (Same : List ℕ → List ℕ → Type 0) (o : Opened) (table : Table) (text : List ℕ) (same : SameTreeAndGroups o table text) (name : List ℕ) where
  abbrev reached : Table
  reached = groups_of o

  abbrev Reached : Name → Type 0
  Reached = Known (names_of reached)

  ground : Grounds (list_of o) reached o.leads
  ground = grounds o o.leads o.ordered

  -- both tables have the text that stands with a name that was reached
  own_text : (g : Name) (k : Reached g) → text_of reached g ≡ Some (get_or (texts_of reached) k.0 [])
  own_text g (k, is) = ap (text_of reached) (sym is.is) ∙ ground.texts k (omega (arith, is.below, length_names reached))

  other_text : (g : Name) (k : Reached g) → text_of table g ≡ Some (get_or (texts_of reached) k.0 [])
  other_text g (k, is) = ap (text_of table) (sym is.is) ∙ text_held (λ h t. text_of table h ≡ Some t) reached same.groups k (omega (arith, is.below, length_names reached))

  agree : (g : Name) → Reached g → text_of reached g ≡ text_of table g
  agree g k = own_text g k ∙ sym (other_text g k)

  -- what the tree of a reached group names is reached
  closed : (g : Name) (t : Tree) → Reached g → GroupOf reached g t → AllByRecursion Reached (tree_groups t)
  closed g t (k, is) (own, (has, reads)) =
      let lt : k < length reached = omega (arith, is.below, length_names reached) in
      let this : own ≡ get_or (texts_of reached) k [] = cc (sym has ∙ own_text g (k, is)) in
      every_group Reached t (subst (λ x. Reads x t) this reads) (λ rs h f n. let (m, (at, _)) = ground.text_names k lt rs h f n in (m, at))

  -- and so is what the list's tree names
  named : (t : Tree) → Reads (list_of o) t → AllByRecursion Reached (tree_groups t)
  named t reads = every_group Reached t reads ground.list_names

  pub alike : ListDerives Same reached (list_of o) name ↔ ListDerives Same table text name
  alike = (
    λ d. one_tree Same table (list_of o) text name same.tree same.list_reads same.text_reads (list_reached Same reached table Reached closed agree (list_of o) name named d),
    λ d. list_reached Same table reached Reached (λ g t k s. closed g t k (s.0, (agree g k ∙ s.1.0, s.1.1))) (λ g k. sym (agree g k)) (list_of o) name named (one_tree Same table text (list_of o) name same.tree same.text_reads same.list_reads d),
  )
