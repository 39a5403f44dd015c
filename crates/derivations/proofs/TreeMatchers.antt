-- The matcher of a tree, given one for each group, and that it tells of what the tree derives.
use Rattle.std.proofs.Common.{◌≡◌, ℕ, zero, suc, ◌≤◌, Bool, true, false, ◌||◌, List, [], ◌∷◌, ◌++◌, length, sym, refl, ap, ◌∙◌, subst, ⊎_elim, append_assoc, arith, length-append}
use borrow.Author.Tests.{clash}
use Rattle.std.proofs.lemmas.Bool.{or_cases, or_left, or_right}
use Rattle.std.specs.List.{AllByRecursion}
use Rattle.names.specs.Names.{Part}
use Rattle.names.specs.Rules.{exact}
use Rattle.lists.specs.Trees.{Atom, Item, plain, bracket, starred, named, Seq, one, then, Alts, only, or, Tree, empty, list}
use Rattle.derivations.specs.Derives.{AtomDerives, ItemDerives, by_atom, by_bracket, no_runs, more_runs, by_group, SeqDerives, by_item, by_items, AltsDerives, by_only, by_earlier, by_last, TreeDerives, by_list}
use Rattle.derivations.specs.References.{item_groups, seq_groups, alts_groups, tree_groups}
use Rattle.lists.proofs.Elements.{every_front, every_back}
use Rattle.derivations.proofs.Matchers.{Matcher, Found, other_run, Exact, atom, atom_exact}

abbrev pub nothing : Matcher
nothing ps passes = false

abbrev both : Matcher → Matcher → Matcher
both m n ps passes = m ps (λ rest. n rest passes)

abbrev either : Matcher → Matcher → Matcher
either m n ps passes = m ps passes || n ps passes

-- at most so many runs
abbrev runs : Matcher → ℕ → Matcher
runs m zero ps passes = passes ps
runs m (suc n) ps passes = passes ps || m ps (λ rest. runs m n rest passes)

-- empty runs add nothing, so that no more runs are tried than there are parts
abbrev star : Matcher → Matcher
star m ps passes = runs m (length ps) ps passes

module _ (group : List ℕ → Matcher) where
  abbrev mutual
    item : Item → Matcher
    item (plain a) = atom a
    item (bracket l) = alts l
    item (starred x) = star (item x)
    item (named g) = group g

    seq : Seq → Matcher
    seq (one x) = item x
    seq (then s x) = both (seq s) (item x)

    alts : Alts → Matcher
    alts (only s) = seq s
    alts (or l s) = either (alts l) (seq s)

  abbrev pub tree : Tree → Matcher
  tree empty = nothing
  tree (list l) = alts l

-- a matcher of a kind of runs is one of any other kind that has the same runs
other_kind : {m : Matcher} {D E : List Part → Type 0} → ((ps : List Part) → D ps → E ps) → ((ps : List Part) → E ps → D ps) → Exact m D → Exact m E
other_kind to from h = record { sound = λ ps passes e. other_run to (h.sound ps passes e); complete = λ {run} d. h.complete (from run d) }

module _ (Group : List ℕ → Tree → Type 0) where
  -- what a group's name derives
  abbrev pub GroupDerives : List ℕ → List Part → Type 0
  GroupDerives g ps = (t : Tree) × (Group g t × TreeDerives exact Group t ps)

  module _ (m : Matcher) (x : Item) (h : Exact m (ItemDerives exact Group x)) where
    runs_sound : (n : ℕ) (ps : List Part) (passes : List Part → Bool) → runs m n ps passes ≡ true → Found (ItemDerives exact Group (starred x)) ps passes
    runs_sound zero ps passes e = record { run = []; rest = ps; split = refl; derived = no_runs; passed = e }
    runs_sound (suc n) ps passes e =
        ⊎_elim
        (λ p. record { run = []; rest = ps; split = refl; derived = no_runs; passed = p })
        (λ p.
        let f = h.sound ps (λ rest. runs m n rest passes) p in
        let g = runs_sound n f.rest passes f.passed in
        record { run = f.run ++ g.run; rest = g.rest; split = append_assoc f.run g.run g.rest ∙ ap (λ u. f.run ++ u) g.split ∙ f.split; derived = more_runs f.derived g.derived; passed = g.passed })
        (or_cases (passes ps) (m ps (λ rest. runs m n rest passes)) e)

    none_passes : (n : ℕ) (rest : List Part) (passes : List Part → Bool) → passes rest ≡ true → runs m n rest passes ≡ true
    none_passes zero rest passes e = e
    none_passes (suc n) rest passes e = or_left _ _ e

    runs_complete : {ps : List Part} → ItemDerives exact Group (starred x) ps → (n : ℕ) → length ps ≤ n → (rest : List Part) (passes : List Part → Bool) → passes rest ≡ true → runs m n (ps ++ rest) passes ≡ true
    runs_complete no_runs n le rest passes e = none_passes n rest passes e
    runs_complete (more_runs {ps = []} d r) n le rest passes e = runs_complete r n le rest passes e
    runs_complete (more_runs {ps = p ∷ ps} d r) zero le rest passes e = absurd (omega arith)
    runs_complete (more_runs {ps = p ∷ ps} {qs = qs} d r) (suc n) le rest passes e =
        or_right _ _
        (subst (λ u. m u (λ rest. runs m n rest passes) ≡ true) (sym (append_assoc (p ∷ ps) qs rest))
        (h.complete d (qs ++ rest) _ (runs_complete r n (omega (arith, length-append ps qs)) rest passes e)))

    star_exact : Exact (star m) (ItemDerives exact Group (starred x))
    star_exact = record {
      sound = λ ps passes. runs_sound (length ps) ps passes;
      complete = λ {run} d rest passes. runs_complete d (length (run ++ rest)) (omega (arith, length-append run rest)) rest passes;
    }

  both_exact : {m n : Matcher} {s : Seq} {x : Item} → Exact m (SeqDerives exact Group s) → Exact n (ItemDerives exact Group x) → Exact (both m n) (SeqDerives exact Group (then s x))
  both_exact {m} {n} {s} {x} h k = record { sound = sound; complete = complete }
    where
      sound : (ps : List Part) (passes : List Part → Bool) → both m n ps passes ≡ true → Found (SeqDerives exact Group (then s x)) ps passes
      sound ps passes e =
          let f = h.sound ps (λ rest. n rest passes) e in
          let g = k.sound f.rest passes f.passed in
          record { run = f.run ++ g.run; rest = g.rest; split = append_assoc f.run g.run g.rest ∙ ap (λ u. f.run ++ u) g.split ∙ f.split; derived = by_items f.derived g.derived; passed = g.passed }

      complete : {ps : List Part} → SeqDerives exact Group (then s x) ps → (rest : List Part) (passes : List Part → Bool) → passes rest ≡ true → both m n (ps ++ rest) passes ≡ true
      complete (by_items {ps = ps} {qs = qs} d i) rest passes e = subst (λ u. m u (λ rest. n rest passes) ≡ true) (sym (append_assoc ps qs rest)) (h.complete d (qs ++ rest) _ (k.complete i rest passes e))

  either_exact : {m n : Matcher} {l : Alts} {s : Seq} → Exact m (AltsDerives exact Group l) → Exact n (SeqDerives exact Group s) → Exact (either m n) (AltsDerives exact Group (or l s))
  either_exact {m} {n} {l} {s} h k = record { sound = sound; complete = complete }
    where
      sound : (ps : List Part) (passes : List Part → Bool) → either m n ps passes ≡ true → Found (AltsDerives exact Group (or l s)) ps passes
      sound ps passes e =
          ⊎_elim
          (λ p. other_run (λ qs. by_earlier) (h.sound ps passes p))
          (λ p. other_run (λ qs. by_last) (k.sound ps passes p))
          (or_cases (m ps passes) (n ps passes) e)

      complete : {ps : List Part} → AltsDerives exact Group (or l s) ps → (rest : List Part) (passes : List Part → Bool) → passes rest ≡ true → either m n (ps ++ rest) passes ≡ true
      complete (by_earlier d) rest passes e = or_left _ _ (h.complete d rest passes e)
      complete (by_last d) rest passes e = or_right _ _ (k.complete d rest passes e)

  in_atom : {a : Atom} {ps : List Part} → ItemDerives exact Group (plain a) ps → AtomDerives exact a ps
  in_atom (by_atom d) = d

  in_bracket : {l : Alts} {ps : List Part} → ItemDerives exact Group (bracket l) ps → AltsDerives exact Group l ps
  in_bracket (by_bracket d) = d

  in_group : {g : List ℕ} {ps : List Part} → ItemDerives exact Group (named g) ps → GroupDerives g ps
  in_group (by_group {t = t} is d) = (t, (is, d))

  in_one : {x : Item} {ps : List Part} → SeqDerives exact Group (one x) ps → ItemDerives exact Group x ps
  in_one (by_item d) = d

  in_only : {s : Seq} {ps : List Part} → AltsDerives exact Group (only s) ps → SeqDerives exact Group s ps
  in_only (by_only d) = d

  in_list : {l : Alts} {ps : List Part} → TreeDerives exact Group (list l) ps → AltsDerives exact Group l ps
  in_list (by_list d) = d

  none_in_empty : {ps : List Part} → TreeDerives exact Group empty ps → ⊥
  none_in_empty d = elim d [ ]

  module _ (group : List ℕ → Matcher) where
    -- the group's matcher tells of what its name derives
    abbrev pub GroupExact : List ℕ → Type 0
    GroupExact g = Exact (group g) (GroupDerives g)

    mutual
      item_exact : (x : Item) → AllByRecursion GroupExact (item_groups x) → Exact (item group x) (ItemDerives exact Group x)
      item_exact (plain a) h = other_kind (λ ps. by_atom) (λ ps. in_atom) (atom_exact a)
      item_exact (bracket l) h = other_kind (λ ps. by_bracket) (λ ps. in_bracket) (alts_exact l h)
      item_exact (starred x) h = star_exact (item group x) x (item_exact x h)
      item_exact (named g) h = other_kind (λ ps d. by_group d.1.0 d.1.1) (λ ps. in_group) h.0

      seq_exact : (s : Seq) → AllByRecursion GroupExact (seq_groups s) → Exact (seq group s) (SeqDerives exact Group s)
      seq_exact (one x) h = other_kind (λ ps. by_item) (λ ps. in_one) (item_exact x h)
      seq_exact (then s x) h = both_exact (seq_exact s (every_front GroupExact (seq_groups s) (item_groups x) h)) (item_exact x (every_back GroupExact (seq_groups s) (item_groups x) h))

      alts_exact : (l : Alts) → AllByRecursion GroupExact (alts_groups l) → Exact (alts group l) (AltsDerives exact Group l)
      alts_exact (only s) h = other_kind (λ ps. by_only) (λ ps. in_only) (seq_exact s h)
      alts_exact (or l s) h = either_exact (alts_exact l (every_front GroupExact (alts_groups l) (seq_groups s) h)) (seq_exact s (every_back GroupExact (alts_groups l) (seq_groups s) h))

    pub tree_exact : (t : Tree) → AllByRecursion GroupExact (tree_groups t) → Exact (tree group t) (TreeDerives exact Group t)
    tree_exact empty h = record { sound = λ ps passes e. absurd (clash e); complete = λ d. absurd (none_in_empty d) }
    tree_exact (list l) h = other_kind (λ ps. by_list) (λ ps. in_list) (alts_exact l h)
