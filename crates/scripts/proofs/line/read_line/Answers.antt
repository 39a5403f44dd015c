use Rattle.std.proofs.Common.{arith, rules}
use Rattle.scripts.specs.Lines.{call}
use Rattle.scripts.proofs.Sayings.{says_nothing, unsaid}
use Rattle.scripts.proofs.line.read_line.Goals as goal

pub returns-in-empty-clause-meaning : goal.returns-in-empty-clause-meaning
returns-in-empty-clause-meaning c = says_nothing _ (λ some. search rules)

pub returns-in-Some-clause-meaning : goal.returns-in-Some-clause-meaning
returns-in-Some-clause-meaning c = call c.in-Some.ensures

pub returns-in-None-clause-meaning : goal.returns-in-None-clause-meaning
returns-in-None-clause-meaning c = unsaid c.args.line.now (omega arith) (search rules) c.in-None.ensures
