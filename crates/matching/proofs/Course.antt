-- The course of a judgement: what has been read, what is left, and what each token changes.
use Rattle.std.proofs.Common.{◌≡◌, ℕ, ◌+◌, List, [], ◌∷◌, ◌++◌, length, drop, sym, ap, ◌∙◌, subst, ⊎_elim, append_assoc, arith}
use Rattle.names.specs.Names.{Part}
use Rattle.lists.specs.Trees.{Atom, Sign, atom, group, open_bracket, close_bracket, star, bar, plain, bracket, named, Alts, Tree, list, alts_signs}
use Rattle.lists.specs.Texts.{tree_signs}
use Rattle.lists.specs.Placed.{Placed, signs_of}
use Rattle.lists.proofs.Build.{Level, fresh, barred, full, put, star_alts}
use Rattle.runs.specs.declared.relation.Runs.{Runs}
use Rattle.derivations.specs.Derives.{AtomDerives, ItemDerives, GroupOf}
use Rattle.matching.specs.declared.judge.Judge.{Judge}
use Rattle.matching.specs.declared.step.Step.{Step}
use Rattle.matching.specs.declared.step.Step.TheVariants.{Runs as Each}
use Rattle.matching.specs.declared.reading.Reading.{Reading}
use Rattle.matching.specs.Readings.{Begins, Pushed, Repeated, Finished, Barred}
use Rattle.matching.specs.Judging.{table_of, Means, StepMeans, Derived, GroupReady, TreeReady, Closes, Judged}
use Rattle.matching.proofs.Spanning.{span_plain, span_bracket, span_list}
use Rattle.matching.proofs.Remaining.{Left, left_all, left_atom, left_group, left_open, left_star, left_bar, left_close, left_end}
use Rattle.matching.proofs.Levels.{Holds, holds_none, holds_put, holds_star, holds_bar, holds_list, holds_empty}

module _ {R : Type 0} (same : R → List ℕ → List ℕ → Type 0) (judge : Judge R) (ps : List Part) (tree : Tree) (tail : List Sign) (closes : Closes tail) (text : List ℕ) (starts : ℕ) where
  abbrev Same : List ℕ → List ℕ → Type 0
  Same = same judge.rule.now

  abbrev Ready : List ℕ → Type 0
  Ready g = GroupReady same judge ps g

  -- the tokens from a place on are left, and the reading holds what was before them
  pub record Course (at : ℕ) (reading : Reading) : Type 0 where
    pub level : Level
    pub signs : List Sign
    pub left : Left Ready tree level signs
    pub rest : List (ℕ × Sign)
    pub placed : Placed text at rest
    pub these : signs_of rest ≡ signs ++ tail
    pub holds : Holds Same ps (GroupOf (table_of judge)) starts reading level

  -- nothing has been read
  pub course_start : (at : ℕ) (reading : Reading) → TreeReady same judge ps tree → (qs : List (ℕ × Sign)) → Placed text at qs → signs_of qs ≡ tree_signs tree ++ tail → Begins starts reading → Course at reading
  course_start at reading ready qs placed these b = record { level = fresh; signs = tree_signs tree; left = left_all Ready tree ready; rest = qs; placed = placed; these = these; holds = holds_none Same ps (GroupOf (table_of judge)) starts reading b }

  -- a sign that comes next
  record Next (u : Level) (s : Sign) (rest : List (ℕ × Sign)) : Type 0 where
    signs : List Sign
    left : Left Ready tree u (s ∷ signs)
    these : signs_of rest ≡ signs ++ tail

  next_of : (u : Level) (signs : List Sign) (s : Sign) (rest : List (ℕ × Sign)) → (s ≡ close_bracket → ⊥) → Left Ready tree u signs → s ∷ signs_of rest ≡ signs ++ tail → Next u s rest
  next_of u [] s rest apart left e = absurd (apart (closed tail closes e))
    where
      closed : (ss : List Sign) → Closes ss → s ∷ signs_of rest ≡ ss → s ≡ close_bracket
      closed [] c f = cc
      closed (x ∷ ss) c f = let same : s ≡ x = cc in same ∙ c
  next_of u (x ∷ r) s rest apart left e = let same : x ≡ s = cc in let after : signs_of rest ≡ r ++ tail = cc in record { signs = r; left = subst (λ y. Left Ready tree u (y ∷ r)) same left; these = after }

  module _ (at : ℕ) (reading : Reading) (course : Course at reading) (place : ℕ) (rest : List (ℕ × Sign)) where
    next : (s : Sign) → (s ≡ close_bracket → ⊥) → course.rest ≡ (place, s) ∷ rest → Next course.level s rest
    next s apart e = next_of course.level course.signs s rest apart course.left (sym (ap signs_of e) ∙ course.these)

    module _ (at' : ℕ) (placed : Placed text at' rest) (reading' : Reading) where
      goes_on : (u : Level) (signs : List Sign) → Left Ready tree u signs → signs_of rest ≡ signs ++ tail → Holds Same ps (GroupOf (table_of judge)) starts reading' u → Course at' reading'
      goes_on u signs left these holds = record { level = u; signs = signs; left = left; rest = rest; placed = placed; these = these; holds = holds }

      -- an atom
      pub course_atom : (a : Atom) (step : Step) → course.rest ≡ (place, atom a) ∷ rest → StepMeans ps (AtomDerives Same a) step → Pushed reading step reading' → Course at' reading'
      course_atom a step e means p =
          let n = next (atom a) (λ f. cc) e in
          goes_on (put course.level (plain a)) n.signs (left_atom n.left) n.these (holds_put Same ps (GroupOf (table_of judge)) starts reading reading' step p course.level (plain a) course.holds (record { counted = means.counted; ends = λ i j. (λ s. span_plain.1 ((means.ends i j).0 s), λ s. (means.ends i j).1 (span_plain.0 s)) }))

      -- a reference to a group
      pub course_group : (g : List ℕ) (step : Step) → course.rest ≡ (place, group g) ∷ rest → (Ready g → StepMeans ps (ItemDerives Same (GroupOf (table_of judge)) (named g)) step) → Pushed reading step reading' → Course at' reading'
      course_group g step e means p =
          let n = next (group g) (λ f. cc) e in
          let (ready, left) = left_group n.left in
          goes_on (put course.level (named g)) n.signs left n.these (holds_put Same ps (GroupOf (table_of judge)) starts reading reading' step p course.level (named g) course.holds (means ready))

      -- a star
      pub course_star : course.rest ≡ (place, star) ∷ rest → Repeated reading (length ps + 1) reading' → Course at' reading'
      course_star e r =
          let n = next star (λ f. cc) e in
          let (a, (is, left)) = left_star n.left in
          goes_on (full (star_alts a)) n.signs left n.these (holds_star Same ps (GroupOf (table_of judge)) starts reading reading' r a (subst (Holds Same ps (GroupOf (table_of judge)) starts reading) is course.holds))

      -- a bar
      pub course_bar : course.rest ≡ (place, bar) ∷ rest → Barred reading reading' → Course at' reading'
      course_bar e b =
          let n = next bar (λ f. cc) e in
          let (a, (is, left)) = left_bar n.left in
          goes_on (barred a) n.signs left n.these (holds_bar Same ps (GroupOf (table_of judge)) starts reading reading' a b (subst (Holds Same ps (GroupOf (table_of judge)) starts reading) is course.holds))

    -- a bracket: what is judged within it
    pub record Inside : Type 0 where
      pub alts : Alts
      pub beyond : List Sign
      pub ready : TreeReady same judge ps (list alts)
      pub these : signs_of rest ≡ alts_signs alts ++ (close_bracket ∷ (beyond ++ tail))
      pub left : Left Ready tree (put course.level (bracket alts)) beyond

    pub course_inside : course.rest ≡ (place, open_bracket) ∷ rest → Inside
    course_inside e =
        let n = next open_bracket (λ f. cc) e in
        let b = left_open n.left in
        record { alts = b.inside; beyond = b.beyond; ready = b.ready; these = n.these ∙ ap (λ ss. ss ++ tail) b.signs ∙ append_assoc (alts_signs b.inside) (close_bracket ∷ b.beyond) tail; left = b.left }

    -- a bracket that has been judged
    pub course_bracket : (i : Inside) (at' : ℕ) (runs : Runs) (reading' : Reading) → Judged same judge ps (list i.alts) (length ps + 1) runs (close_bracket ∷ (i.beyond ++ tail)) text at' → Pushed reading (Each runs) reading' → Course at' reading'
    course_bracket i at' runs reading' j p = record {
      level = put course.level (bracket i.alts);
      signs = i.beyond;
      left = i.left;
      rest = j.rest;
      placed = j.placed;
      these = j.signs;
      holds = holds_put Same ps (GroupOf (table_of judge)) starts reading reading' (Each runs) p course.level (bracket i.alts) course.holds (record {
        counted = j.means.counted;
        ends = λ k m. (
          λ e. span_bracket.1 (span_list.0 ((j.means.ends k m).0 e).1),
          λ s. (j.means.ends k m).1 (omega (arith, s.forward, s.within), span_list.1 (span_bracket.0 s)),
        );
      });
    }

  -- all signs have been read
  means_end : (reading : Reading) (runs : Runs) (u : Level) → Left Ready tree u [] → Holds Same ps (GroupOf (table_of judge)) starts reading u → Finished reading runs → Means ps (Derived same judge tree) starts runs
  means_end reading runs u left h f =
      ⊎_elim
      (λ x. let (a, (is, at)) = x in subst (λ t. Means ps (Derived same judge t) starts runs) (sym is) (holds_list Same ps (GroupOf (table_of judge)) starts reading runs f a (subst (Holds Same ps (GroupOf (table_of judge)) starts reading) at h)))
      (λ x. subst (λ t. Means ps (Derived same judge t) starts runs) (sym x.0) (holds_empty Same ps (GroupOf (table_of judge)) starts reading runs f (subst (Holds Same ps (GroupOf (table_of judge)) starts reading) x.1 h)))
      (left_end left)

  module _ (at : ℕ) (reading : Reading) (course : Course at reading) (runs : Runs) (f : Finished reading runs) where
    -- the bracket that closes the list
    pub course_close : (place : ℕ) (rest : List (ℕ × Sign)) (at' : ℕ) → course.rest ≡ (place, close_bracket) ∷ rest → Placed text at' rest → Judged same judge ps tree starts runs tail text at'
    course_close place rest at' e placed = closing course.signs course.left (sym (ap signs_of e) ∙ course.these)
      where
        closing : (signs : List Sign) → Left Ready tree course.level signs → close_bracket ∷ signs_of rest ≡ signs ++ tail → Judged same judge ps tree starts runs tail text at'
        closing [] left g = record { means = means_end reading runs course.level left course.holds f; rest = rest; placed = placed; signs = ap (drop 1) g }
        closing (x ∷ r) left g = let same : x ≡ close_bracket = cc in absurd (left_close (subst (λ y. Left Ready tree course.level (y ∷ r)) same left))

    -- no token is left
    pub course_end : (at' : ℕ) → course.rest ≡ [] → Placed text at' [] → Judged same judge ps tree starts runs tail text at'
    course_end at' e placed = ending course.signs course.left (sym (ap signs_of e) ∙ course.these)
      where
        ending : (signs : List Sign) → Left Ready tree course.level signs → [] ≡ signs ++ tail → Judged same judge ps tree starts runs tail text at'
        ending [] left g = record { means = means_end reading runs course.level left course.holds f; rest = []; placed = placed; signs = ap (drop 1) g }
        ending (x ∷ r) left g = cc
