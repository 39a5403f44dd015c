-- A text can be judged once every group is judged that its references name.
use Rattle.std.proofs.Common.{◌≡◌, ℕ, ◌<◌, List, [], length, get_or, Some, sym, ap, ◌∙◌, subst, arith}
use Rattle.links.specs.declared.links.Links.{Links}
use Rattle.links.specs.Links.{Linked}
use Rattle.names.specs.Names.{Part}
use Rattle.lists.specs.Trees.{Tree}
use Rattle.lists.specs.Texts.{Reads}
use Rattle.lists.proofs.UniqueSpelling.{unique_tree}
use Rattle.books.specs.Tables.{text_of}
use Rattle.openings.specs.Opening.{Name, Numbered}
use Rattle.openings.specs.Opened.{names_of, texts_of}
use Rattle.openings.proofs.TableTexts.{length_names}
use Rattle.matching.specs.declared.judge.Judge.{Judge}
use Rattle.matching.specs.Judging.{table_of, judged_runs, GroupReady, TreeReady}
use Rattle.matching.specs.Ordering.{IsJudged, Held}
use Rattle.matching.proofs.Grounds.{Grounds}
use Rattle.matching.proofs.Mentions.{every_group}

module _ {R : Type 0} (same : R → List ℕ → List ℕ → Type 0) {list : List ℕ} {leads : Links} (judge : Judge R) (g : Grounds list (table_of judge) leads) (ps : List Part) where
  -- the judge has judged a group, and holds what it derives
  abbrev pub Settled : ℕ → Type 0
  Settled m = IsJudged judge m × Held same judge ps m

  -- a group that the judge holds is ready
  group_ready : (name : Name) (m : ℕ) → Numbered (names_of (table_of judge)) name m → Settled m → GroupReady same judge ps name
  group_ready name m is ((runs, here), held) =
      let lt : m < length (table_of judge) = omega (arith, is.below, length_names (table_of judge)) in
      let text = get_or (texts_of (table_of judge)) m [] in
      let has : text_of (table_of judge) name ≡ Some text = ap (text_of (table_of judge)) (sym is.is) ∙ g.texts m lt in
      let form = (g.lawful m lt).form in
      record {
        numbered = (m, is);
        tree = form.tree;
        stands = (text, (has, form.reads));
        one = λ t s. let same : s.0 ≡ text = cc s.1.0 in unique_tree text t form.tree (subst (λ x. Reads x t) same s.1.1) form.reads;
        held = λ k n. (runs, ap (judged_runs judge) (g.once name k m n is) ∙ here, held runs here form.tree form.reads);
      }

  -- a group's text is ready where every group that it is linked to is settled
  pub text_ready : (k : ℕ) → k < length (table_of judge) → ((m : ℕ) → Linked leads k m → Settled m) → (tree : Tree) → Reads (get_or (texts_of (table_of judge)) k []) tree → TreeReady same judge ps tree
  text_ready k lt settled tree reads =
      every_group (GroupReady same judge ps) tree reads (λ rs name f n. let (m, (is, l)) = g.text_names k lt rs name f n in group_ready name m is (settled m l))

  -- and the list is where every group is settled
  pub list_ready : ((m : ℕ) → m < length (table_of judge) → Settled m) → (tree : Tree) → Reads list tree → TreeReady same judge ps tree
  list_ready settled tree reads =
      every_group (GroupReady same judge ps) tree reads (λ rs name f n. let (m, is) = g.list_names rs name f n in group_ready name m is (settled m (omega (arith, is.below, length_names (table_of judge)))))
