use Rattle.std.proofs.Common.{rules}
use Rattle.std.proofs.lemmas.Bool.{eqb-true}
use Rattle.scripts.specs.Lines.{Lacks, last, more}
use Rattle.scripts.proofs.Sayings.{by_more, too_many}
use Rattle.scripts.proofs.line.read_more.Goals as goal

pub returns-in-None : goal.returns-in-None
returns-in-None c = by_more _ _ (last c.in-None.ensures) _ c.of_two.ensures

pub returns-in-Some : goal.returns-in-Some
returns-in-Some c =
    let lacks : Lacks 9 c.in-Some.third.now = search rules in
    by_more _ _ (more c.in-Some.ensures (last lacks)) _ c.of_three.ensures

pub returns-in-Some-2 : goal.returns-in-Some-2
returns-in-Some-2 c =
    let tab = c.if-not-contains.ensures.cases in
    too_many _ _ c.in-Some.ensures (λ lacks. lacks tab.0 tab.1 (eqb-true _ _ (tab.2 0)))
