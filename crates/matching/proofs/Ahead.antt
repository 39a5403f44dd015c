-- Judging what a group leads to: some of it is judged, and the rest is ahead.
use Rattle.std.proofs.Common.{◌≡◌, ℕ, ◌+◌, ◌<◌, ◌≢◌, ◌⊎◌, ◌↔◌, List, [], length, get_or, set, Some, None, sym, refl, ap, ◌∙◌, subst, inl, inr, ⊎_elim, get_or-set_other, get_or-set_same}
use Rattle.std.proofs.lemmas.Bool.{cases_eq}
use Rattle.positions.specs.declared.Positions.{Positions}
use Rattle.positions.specs.Places.{Has, Split}
use Rattle.links.specs.declared.links.Links.{Links}
use Rattle.links.specs.Links.{Linked}
use Rattle.runs.specs.declared.relation.Runs.{Runs}
use Rattle.names.specs.Names.{Part, IsName}
use Rattle.lists.specs.Trees.{Tree}
use Rattle.lists.specs.Texts.{Reads}
use Rattle.name_parts.specs.Texts.{text_of}
use Rattle.openings.specs.Opened.{texts_of}
use Rattle.openings.specs.Whole.{Tells}
use Rattle.openings.specs.Answers.{groups_of}
use Rattle.matching.specs.declared.judge.Judge.{Judge}
use Rattle.matching.specs.Judging.{table_of, judged_runs, Means, Derived, TreeReady}
use Rattle.matching.specs.Ordering.{IsJudged, Goes}
use Rattle.matching.proofs.Grounds.{Grounds, same_links}
use Rattle.matching.proofs.Readiness.{text_ready}

-- the judge with one more group, which derives these runs
abbrev pub with_group : {R : Type 0} → Judge R → ℕ → Runs → Judge R
with_group judge k runs = record { parts = judge.parts; opened = judge.opened; rule = judge.rule; groups = set judge.groups k (Some runs) }

module _ {R : Type 0} (now : Judge R) (k : ℕ) (runs : Runs) (room : k < length now.groups) where
  pub runs_here : judged_runs (with_group now k runs) k ≡ Some runs
  runs_here = get_or-set_same now.groups k (Some runs) None room

  runs_there : (j : ℕ) → j ≢ k → judged_runs (with_group now k runs) j ≡ judged_runs now j
  runs_there j other = get_or-set_other now.groups k j (Some runs) None other

module _ {R : Type 0} (same : R → List ℕ → List ℕ → Type 0) where
  -- every group that the group leads to is judged or ahead
  pub record Ahead (k : ℕ) (before now : Judge R) (ahead : ℕ) : Type 0 where
    pub goes : Goes same before now
    pub linked : (m : ℕ) → Has ahead m → Linked before.opened.now.leads k m
    pub each : (m : ℕ) → Linked before.opened.now.leads k m → IsJudged now m ⊎ Has ahead m

  -- what judging a group's text answers: the runs of its tree, where the tree is ready
  abbrev pub TextJudged : Judge R → ℕ → Runs → Type 0
  TextJudged judge k runs = (ps : List Part) → IsName (text_of judge.parts) ps → (tree : Tree) → Reads (get_or (texts_of (table_of judge)) k []) tree → TreeReady same judge ps tree → Means ps (Derived same judge tree) (length ps + 1) runs

module _ {R : Type 0} {same : R → List ℕ → List ℕ → Type 0} where
  pub goes_none : (judge : Judge R) → Goes same judge judge
  goes_none judge = record { stays = record { name = refl; list = refl; rule = refl }; kept = λ k h. h; held = λ ps is h. h }

  pub goes_both : {a b c : Judge R} → Goes same a b → Goes same b c → Goes same a c
  goes_both s t = record {
    stays = record { name = t.stays.name ∙ s.stays.name; list = t.stays.list ∙ s.stays.list; rule = t.stays.rule ∙ s.stays.rule };
    kept = λ k h. t.kept k (s.kept k h);
    held = λ ps is h. t.held ps (subst (λ text. IsName text ps) (sym s.stays.name) is) (s.held ps is h);
  }

  -- the judge's groups stay
  pub goes_below : {a b : Judge R} {k : ℕ} → Goes same a b → k < length (table_of a) → k < length (table_of b)
  goes_below {k = k} s lt = subst (λ o. k < length (groups_of o)) (sym s.stays.list) lt

  -- at first the whole row is ahead
  pub ahead_begins : (k : ℕ) (before : Judge R) (links : Links) (row walk : Positions) → ∥ Tells (table_of before) links ∥₁ → ((m : ℕ) → Has row.digits m ↔ Linked links k m) → walk ≡ row → Ahead same k before before walk.digits
  ahead_begins k before links row walk tells is walks =
      let o = before.opened.now in
      record {
        goes = goes_none before;
        linked = λ m h. same_links (table_of before) links o.leads tells o.ordered k m ((is m).0 (subst (λ w. Has w.digits m) walks h));
        each = λ m l. inr (subst (λ w. Has w.digits m) (sym walks) ((is m).1 (same_links (table_of before) o.leads links o.ordered tells k m l)));
      }

  -- the first that is ahead is judged
  pub ahead_on : {k : ℕ} {before now next : Judge R} {ahead m others : ℕ} → Ahead same k before now ahead → Split ahead m others → Goes same now next → IsJudged next m → Ahead same k before next others
  ahead_on {next = next} {m = m} a s g here = record {
    goes = goes_both a.goes g;
    linked = λ j h. a.linked j ((s.others j).0 h).0;
    each = λ j l.
        ⊎_elim
        (λ h. inl (g.kept j h))
        (λ h. ⊎_elim (λ (e : j ≡ m). inl (subst (IsJudged next) (sym e) here)) (λ (ne : j ≢ m). inr ((s.others j).1 (h, ne))) (cases_eq j m))
        (a.each j l);
  }

  -- where nothing is ahead, all that the group leads to is judged
  pub ahead_done : {k : ℕ} {before now : Judge R} {ahead : ℕ} → Ahead same k before now ahead → ((m : ℕ) → Has ahead m → ⊥) → (m : ℕ) → Linked now.opened.now.leads k m → IsJudged now m
  ahead_done {k} a none m l = ⊎_elim (λ h. h) (λ h. absurd (none m h)) (a.each m (subst (λ o. Linked o.leads k m) a.goes.stays.list l))

  module _ (now : Judge R) (k : ℕ) (runs : Runs) (room : k < length now.groups) where
    -- what a group leads to is judged, and then its own text
    pub group_judged : {list : List ℕ} {leads : Links} → Grounds list (table_of now) leads → k < length (table_of now) → ((m : ℕ) → Linked leads k m → IsJudged now m) → TextJudged same now k runs → Goes same now (with_group now k runs)
    group_judged g lt linked text = record {
      stays = record { name = refl; list = refl; rule = refl };
      kept = λ j h. ⊎_elim (λ (this : j ≡ k). subst (IsJudged (with_group now k runs)) (sym this) (runs, runs_here now k runs room)) (λ (other : j ≢ k). (h.0, runs_there now k runs room j other ∙ h.1)) (cases_eq j k);
      held = λ ps is held j below here e tree reads.
          ⊎_elim
          (λ (this : j ≡ k).
          let both : Some here ≡ Some runs = sym e ∙ ap (judged_runs (with_group now k runs)) this ∙ runs_here now k runs room in
          let own : here ≡ runs = cc in
          let its : Reads (get_or (texts_of (table_of now)) k []) tree = subst (λ i. Reads (get_or (texts_of (table_of now)) i []) tree) this reads in
          subst (Means ps (Derived same now tree) (length ps + 1)) (sym own) (text ps is tree its (text_ready same now g ps k lt (λ m l. (linked m l, held m (g.inside k m l))) tree its)))
          (λ (other : j ≢ k). held j below here (sym (runs_there now k runs room j other) ∙ e) tree reads)
          (cases_eq j k);
    }
