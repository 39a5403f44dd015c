use Rattle.std.proofs.Common.{rules, arith}
use Rattle.links.proofs.Between.{via_none, via_more, via_all}
use Rattle.links.proofs.links.Links.closed.Goals as goal

pub loop-middle-init : goal.loop-middle-init
loop-middle-init c = via_none

pub loop-middle-preserved : goal.loop-middle-preserved
loop-middle-preserved c = via_more c.loop-middle.middle c.loop-middle.invariant (λ i j. let call = c.link_through.ensures.links i j in search rules)

pub returns-clause-links : goal.returns-clause-links
returns-clause-links c = via_all c.loop-middle.middle (λ i j (h, _). omega arith) c.loop-middle.invariant
