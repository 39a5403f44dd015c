use Rattle.matching.proofs.Judgements.{judged}
use Rattle.matching.proofs.judgement.judge.Goals as goal

pub returns-in-Ok-clause-answer : goal.returns-in-Ok-clause-answer
returns-in-Ok-clause-answer g c = judged _ _ _ _ _ (rw c.in-Ok.is at c.open.ensures.answer) _ _ c.on.ensures (c.derives.ensures.alike _ _)

pub returns-in-Ok-clause-alike : goal.returns-in-Ok-clause-alike
returns-in-Ok-clause-alike g c = λ table like. judged _ _ _ _ _ ((rw c.in-Ok.is at c.open.ensures.alike) _ like) _ _ c.on.ensures (c.derives.ensures.alike _ _)
