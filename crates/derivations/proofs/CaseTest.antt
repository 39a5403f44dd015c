-- A test that only a case passes that holds.
use Rattle.std.proofs.Common.{◌≡◌, ℕ, suc, Bool, true, false, cond, not, ◌&&◌, List, [], ◌∷◌, ◌++◌, length, MatchBool, sym, refl, ◌∙◌, subst, append-nil}
use borrow.Author.Tests.{clash, not-true}
use Rattle.std.proofs.ByRecursion.{All-weaker}
use Rattle.std.proofs.lemmas.Bool.{and_parts}
use Rattle.std.specs.List.{AllByRecursion, list_all}
use Rattle.names.specs.Names.{Part}
use Rattle.names.specs.Rules.{exact}
use Rattle.lists.specs.Texts.{LawfulList}
use Rattle.books.specs.Tables.{Table}
use Rattle.derivations.specs.Derives.{TreeDerives, GroupOf, ListDerives}
use Rattle.derivations.specs.Cases.{Case, Holds}
use Rattle.derivations.proofs.Cutting.{tree_of, tree_of_lem, reads_as_list, lawful_list, reads_tree}
use Rattle.lists.proofs.Elements.{every_passed}
use Rattle.derivations.proofs.Matchers.{Exact}
use Rattle.derivations.proofs.GroupMatchers.{within, matcher, matcher_exact}
use Rattle.derivations.proofs.Splitting.{parts_of, parts_split, reads_as_name, lawful_name}

abbrev none : List Part → Bool
none [] = true
none (p ∷ ps) = false

-- one step for the list and one for each group, which is enough where no group leads back to itself
abbrev steps : Table → ℕ
steps table = suc (length table)

-- whether the list derives the name
abbrev derives : Table → List ℕ → List ℕ → Bool
derives table list name = matcher table (steps table) (tree_of list) (parts_of name) none

module _ (table : Table) (list name : List ℕ) (lists : AllByRecursion (λ e. reads_as_list e.text ≡ true) table) (is-list : reads_as_list list ≡ true) (is_name : reads_as_name name ≡ true) (deep : within table (steps table) (tree_of list) ≡ true) where
  exactly : Exact (matcher table (steps table) (tree_of list)) (TreeDerives exact (GroupOf table) (tree_of list))
  exactly = matcher_exact table lists (steps table) (tree_of list) deep

  whole : (run rest ps : List Part) → run ++ rest ≡ ps → none rest ≡ true → run ≡ ps
  whole run [] ps e n = sym (append-nil run) ∙ e
  whole run (p ∷ rest) ps e n = absurd (clash n)

  derives_sound : derives table list name ≡ true → ListDerives exact table list name
  derives_sound e =
      let f = exactly.sound (parts_of name) none e in
      let n = lawful_name name is_name in
      let same : f.run ≡ n.0 = whole f.run f.rest (parts_of name) f.split f.passed ∙ sym (parts_split name n.0 n.1) in
      record { tree = tree_of list; reads = reads_tree list is-list; parts = n.0; is_name = n.1; derives = subst (TreeDerives exact (GroupOf table) (tree_of list)) same f.derived }

  derives_complete : ListDerives exact table list name → derives table list name ≡ true
  derives_complete d =
      let t : d.tree ≡ tree_of list = tree_of_lem list d.tree d.reads in
      let ps : d.parts ≡ parts_of name = parts_split name d.parts d.is_name in
      let r : TreeDerives exact (GroupOf table) (tree_of list) (parts_of name) = subst (λ u. TreeDerives exact (GroupOf table) u (parts_of name)) t (subst (TreeDerives exact (GroupOf table) d.tree) ps d.derives) in
      subst (λ u. matcher table (steps table) (tree_of list) u none ≡ true) (append-nil (parts_of name)) (exactly.complete r [] none refl)

  judged : (b : Bool) → cond b (derives table list name) (not (derives table list name)) ≡ true → MatchBool b (ListDerives exact table list name) (ListDerives exact table list name → ⊥)
  judged true e = derives_sound e
  judged false e = λ d. clash (sym (not-true (derives table list name) e) ∙ derives_complete d)

abbrev pub test : Case → Bool
test c =
    let r = derives c.groups c.list c.name in
    reads_as_list c.list && (list_all (λ e. reads_as_list e.text) c.groups && (reads_as_name c.name && (within c.groups (steps c.groups) (tree_of c.list) && cond c.derived r (not r))))

pub holds : (c : Case) → test c ≡ true → Holds c
holds c e =
    let p = and_parts _ _ e in
    let q = and_parts _ _ p.1 in
    let r = and_parts _ _ q.1 in
    let s = and_parts _ _ r.1 in
    let lists : AllByRecursion (λ e. reads_as_list e.text ≡ true) c.groups = every_passed (λ e. reads_as_list e.text ≡ true) (λ e. reads_as_list e.text) (λ e is. is) c.groups q.0 in
    record {
      lawful_list = lawful_list c.list p.0;
      lawful_groups = All-weaker (λ e. reads_as_list e.text ≡ true) (λ e. LawfulList e.text) (λ e is. lawful_list e.text is) c.groups lists;
      lawful_name = lawful_name c.name r.0;
      judged = judged c.groups c.list c.name lists p.0 r.0 s.0 c.derived s.1;
    }
