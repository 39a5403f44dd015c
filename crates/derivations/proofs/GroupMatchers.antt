-- The matcher of a tree by the groups of a table. Groups are opened within a number of steps that is given, and what
-- the matcher tells is right where these are enough: no group leads back to itself.
use Rattle.std.proofs.Common.{◌≡◌, ℕ, zero, suc, Bool, true, false, List, [], ◌∷◌, Some, None, Option, refl, ap, ◌∙◌, subst, arith}
use borrow.Author.Tests.{clash}
use Rattle.std.proofs.lemmas.Bool.{cond_both}
use Rattle.std.specs.List.{AllByRecursion, list_all}
use Rattle.std.specs.Str.{bytes_eq}
use Rattle.lists.specs.Trees.{Tree}
use Rattle.books.specs.Tables.{Table, text_of}
use Rattle.names.specs.Rules.{exact}
use Rattle.derivations.specs.Derives.{TreeDerives, GroupOf}
use Rattle.derivations.specs.References.{tree_groups}
use Rattle.derivations.proofs.Cutting.{tree_of, tree_of_lem, reads_as_list, reads_tree}
use Rattle.lists.proofs.Elements.{every_passed}
use Rattle.derivations.proofs.Matchers.{Matcher, Exact, other_run}
use Rattle.derivations.proofs.TreeMatchers.{nothing, tree, GroupDerives, GroupExact, tree_exact}

-- what is told of the tree of a text, or where there is no text
abbrev opened : {A : Type 0} → A → (Tree → A) → Option (List ℕ) → A
opened none some None = none
opened none some (Some text) = some (tree_of text)

module _ (table : Table) where
  -- the tree, the groups that it names, those that these name, and so on, end within so many steps
  abbrev pub within : ℕ → Tree → Bool
  within zero t = false
  within (suc d) t = list_all (λ g. opened true (within d) (text_of table g)) (tree_groups t)

  -- the matcher of a tree, which opens groups within so many steps
  abbrev pub matcher : ℕ → Tree → Matcher
  matcher zero t = nothing
  matcher (suc d) t = tree (λ g. opened nothing (matcher d) (text_of table g)) t

-- a text that a table has passes the test that all its texts pass
text_passes : (table : Table) → AllByRecursion (λ e. reads_as_list e.text ≡ true) table → (g text : List ℕ) → text_of table g ≡ Some text → reads_as_list text ≡ true
text_passes [] h g text e = let z : ◌≡◌ {A = ℕ} 0 1 = cc in absurd (omega arith)
text_passes (entry ∷ table) h g text e =
    cond_both (bytes_eq entry.name g) (Some entry.text) (text_of table g) (λ o. o ≡ Some text → reads_as_list text ≡ true)
    (λ _ e. ap reads_as_list (same entry.text text e) ∙ h.0)
    (λ _ e. text_passes table h.1 g text e)
    e
  where
    same : (a b : List ℕ) → ◌≡◌ {A = Option (List ℕ)} (Some a) (Some b) → b ≡ a
    same a b p = cc

module _ (table : Table) (lists : AllByRecursion (λ e. reads_as_list e.text ≡ true) table) where
  -- a group that the table has a text for, or has not
  group_opened : (g : List ℕ) (m : Tree → Matcher) (told : Tree → Bool) → ((t : Tree) → told t ≡ true → Exact (m t) (TreeDerives exact (GroupOf table) t)) → (o : Option (List ℕ)) → text_of table g ≡ o → opened true told o ≡ true → Exact (opened nothing m o) (GroupDerives (GroupOf table) g)
  group_opened g m told h None is e = record {
    sound = λ ps passes f. absurd (clash f);
    complete = λ d. let z : ◌≡◌ {A = ℕ} 0 1 = cc d.1.0.1.0 in absurd (omega arith);
  }
  group_opened g m told h (Some text) is e =
      let x = h (tree_of text) e in
      record {
        sound = λ ps passes f. other_run (λ qs d. (tree_of text, ((text, (is, reads_tree text (text_passes table lists g text is))), d))) (x.sound ps passes f);
        complete = λ {run} d.
            let same : d.1.0.0 ≡ text = cc d.1.0.1.0 in
            x.complete (subst (λ t. TreeDerives exact (GroupOf table) t run) (tree_of_lem d.1.0.0 d.0 d.1.0.1.1 ∙ ap tree_of same) d.1.1);
      }

  pub matcher_exact : (d : ℕ) (t : Tree) → within table d t ≡ true → Exact (matcher table d t) (TreeDerives exact (GroupOf table) t)
  matcher_exact zero t e = absurd (clash e)
  matcher_exact (suc d) t e = tree_exact (GroupOf table) _ t (every_passed (GroupExact (GroupOf table) _) _ (λ g f. group_opened g (matcher table d) (within table d) (matcher_exact d) (text_of table g) refl f) (tree_groups t) e)
