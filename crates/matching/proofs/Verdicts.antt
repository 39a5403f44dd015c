-- Whether an opened list derives a name is told by the runs of the list from the first place to the last.
use Rattle.std.proofs.Common.{◌≡◌, ℕ, ◌<◌, Bool, true, ◌↔◌, List, length, Decides, sym, ◌∙◌, subst, arith}
use Rattle.runs.specs.declared.relation.Runs.{Runs}
use Rattle.runs.specs.Runs.{Ends}
use Rattle.names.specs.Names.{Part, IsName}
use Rattle.names.proofs.OneFault.{unique_parts}
use Rattle.lists.specs.Trees.{Tree}
use Rattle.lists.specs.Texts.{Reads}
use Rattle.lists.proofs.UniqueSpelling.{unique_tree}
use Rattle.lists.proofs.Deciding.{lawful_list}
use Rattle.openings.specs.Answers.{list_of}
use Rattle.derivations.specs.Derives.{ListDerives}
use Rattle.matching.specs.declared.judge.Judge.{Judge}
use Rattle.matching.specs.Judging.{table_of, Means, Derived, TreeReady}
use Rattle.matching.specs.Ordering.{IsJudged, Held}
use Rattle.matching.proofs.Grounds.{grounds}
use Rattle.matching.proofs.Readiness.{list_ready}
use Rattle.matching.proofs.Spanning.{span_whole}

module _ {R : Type 0} (same : R → List ℕ → List ℕ → Type 0) (judge : Judge R) (name : List ℕ) (ps : List Part) (is : IsName name ps) where
  abbrev Derives : Type 0
  Derives = ListDerives (same judge.rule.now) (table_of judge) (list_of judge.opened.now) name

  -- the runs of the list's tree from the first place tell it
  told : (tree : Tree) → Reads (list_of judge.opened.now) tree → (runs : Runs) → Means ps (Derived same judge tree) 1 runs → Ends runs 0 (length ps) ↔ Derives
  told tree reads runs means = (
    λ e. record { tree = tree; reads = reads; parts = ps; is_name = is; derives = span_whole.0 ((means.ends 0 (length ps)).0 e).1 },
    λ d.
        let whole : Derived same judge tree ps = subst (Derived same judge tree) (unique_parts d.parts ps d.is_name.form is.form (d.is_name.spelling ∙ sym is.spelling)) (subst (λ t. Derived same judge t d.parts) (unique_tree (list_of judge.opened.now) d.tree tree d.reads reads) d.derives) in
        (means.ends 0 (length ps)).1 (omega arith, span_whole.1 whole),
  )

  -- a judge that holds every group answers by them
  pub verdict : ((k : ℕ) → k < length (table_of judge) → IsJudged judge k × Held same judge ps k) → (runs : Runs) → ((tree : Tree) → Reads (list_of judge.opened.now) tree → TreeReady same judge ps tree → Means ps (Derived same judge tree) 1 runs) → (r : Bool) → (r ≡ true) ↔ Ends runs 0 (length ps) → Decides r Derives
  verdict held runs judged r has =
      let o = judge.opened.now in
      let form = (lawful_list (list_of o) o.list.lawful).form in
      let ready = list_ready same judge (grounds o o.leads o.ordered) ps held form.tree form.reads in
      let t = told form.tree form.reads runs (judged form.tree form.reads ready) in
      (λ e. t.0 (has.0 e), λ d. has.1 (t.1 d))
