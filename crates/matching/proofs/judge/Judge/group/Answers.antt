use Rattle.std.proofs.Common.{rules, ◌≡◌, sym, subst, Option, Some, None, MatchOption, Bor}
use Rattle.runs.specs.declared.relation.Runs.{Runs}
use Rattle.lists.specs.Trees.{named}
use Rattle.derivations.specs.Derives.{ItemDerives, GroupOf}
use Rattle.matching.specs.declared.step.Step.TheVariants.{Runs as Each}
use Rattle.matching.specs.Judging.{table_of, StepMeans}
use Rattle.matching.proofs.Naming.{group_means}
use Rattle.matching.proofs.judge.Judge.group.Goals as goal

-- what follows from the runs that are there
by_runs : (o : Option (Bor Runs)) (Default : Type 0) (Fact Post : Bor Runs → Type 0) (Goal : Type 0) → MatchOption o ⊥ Fact → MatchOption o Default Post → ((r : Bor Runs) → Fact r → Post r → Goal) → Goal
by_runs None D F P G never post f = absurd never
by_runs (Some r) D F P G fact post f = f r fact post

pub returns : goal.returns
returns g c ps ready = by_runs c.judged.result _ _ _ _ (c.judged.ensures ps ready) c.map_or.ensures (λ r means post. let same : c.map_or.result ≡ Each r.now = search rules in subst (StepMeans ps (ItemDerives (g.R.WordRule.same c.args.self.now.rule.now) (GroupOf (table_of c.args.self.now)) (named c.args.name.now))) (sym same) (group_means g.R.WordRule.same c.args.self.now ps c.args.name.now ready r.now means))
