-- What a list derives depends on the groups only through the names that its tree names, and the trees of these
-- groups, and so on.
use Rattle.std.proofs.Common.{◌≡◌, ℕ, List, sym, ◌∙◌}
use Rattle.std.specs.List.{AllByRecursion}
use Rattle.names.specs.Names.{Part}
use Rattle.lists.specs.Trees.{Item, Seq, Alts, Tree}
use Rattle.lists.specs.Texts.{Reads}
use Rattle.books.specs.Tables.{Table, text_of}
use Rattle.derivations.specs.Derives.{ItemDerives, by_atom, by_bracket, no_runs, more_runs, by_group, SeqDerives, by_item, by_items, AltsDerives, by_only, by_earlier, by_last, TreeDerives, by_list, GroupOf, ListDerives}
use Rattle.derivations.specs.References.{item_groups, seq_groups, alts_groups, tree_groups}
use Rattle.lists.proofs.Elements.{every_front, every_back}

-- P holds of each name that is reached: of those in the tree, and with a name of those in its group's tree
module _ (Same : List ℕ → List ℕ → Type 0) (G H : List ℕ → Tree → Type 0) (P : List ℕ → Type 0) (closed : (g : List ℕ) (t : Tree) → P g → G g t → AllByRecursion P (tree_groups t)) (agrees : (g : List ℕ) (t : Tree) → P g → G g t → H g t) where
  mutual
    item_reached : {x : Item} {ps : List Part} → ItemDerives Same G x ps → AllByRecursion P (item_groups x) → ItemDerives Same H x ps
    item_reached (by_atom a) h = by_atom a
    item_reached (by_bracket d) h = by_bracket (alts_reached d h)
    item_reached no_runs h = no_runs
    item_reached (more_runs d e) h = more_runs (item_reached d h) (item_reached e h)
    item_reached (by_group {g = g} {t = t} is d) h = by_group (agrees g t h.0 is) (tree_reached d (closed g t h.0 is))

    seq_reached : {s : Seq} {ps : List Part} → SeqDerives Same G s ps → AllByRecursion P (seq_groups s) → SeqDerives Same H s ps
    seq_reached (by_item d) h = by_item (item_reached d h)
    seq_reached (by_items {s = s} {x = x} d e) h = by_items (seq_reached d (every_front P (seq_groups s) (item_groups x) h)) (item_reached e (every_back P (seq_groups s) (item_groups x) h))

    alts_reached : {l : Alts} {ps : List Part} → AltsDerives Same G l ps → AllByRecursion P (alts_groups l) → AltsDerives Same H l ps
    alts_reached (by_only d) h = by_only (seq_reached d h)
    alts_reached (by_earlier {l = l} {s = s} d) h = by_earlier (alts_reached d (every_front P (alts_groups l) (seq_groups s) h))
    alts_reached (by_last {l = l} {s = s} d) h = by_last (seq_reached d (every_back P (alts_groups l) (seq_groups s) h))

    -- what the tree derives by groups G it derives by groups H, if they agree on the names that are reached
    pub tree_reached : {t : Tree} {ps : List Part} → TreeDerives Same G t ps → AllByRecursion P (tree_groups t) → TreeDerives Same H t ps
    tree_reached (by_list d) h = by_list (alts_reached d h)

-- two tables that have the same texts for the names that are reached
pub list_reached : (Same : List ℕ → List ℕ → Type 0) (old new : Table) (P : List ℕ → Type 0) → ((g : List ℕ) (t : Tree) → P g → GroupOf old g t → AllByRecursion P (tree_groups t)) → ((g : List ℕ) → P g → text_of old g ≡ text_of new g) → (text name : List ℕ) → ((t : Tree) → Reads text t → AllByRecursion P (tree_groups t)) → ListDerives Same old text name → ListDerives Same new text name
list_reached Same old new P closed agrees text name reached d = record {
  tree = d.tree;
  reads = d.reads;
  parts = d.parts;
  is_name = d.is_name;
  derives = tree_reached Same (GroupOf old) (GroupOf new) P closed (λ g t p is. (is.0, (sym (agrees g p) ∙ is.1.0, is.1.1))) d.derives (reached d.tree d.reads);
}
