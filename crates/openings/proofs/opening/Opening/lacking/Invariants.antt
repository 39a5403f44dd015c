use Rattle.openings.specs.Views.{texts_in}
use Rattle.openings.proofs.Lacking.{NoneNamed}
use Rattle.openings.proofs.opening.Opening.lacking.Given as goal

-- no text so far refers to the group
abbrev pub invariant-loop-k : goal.invariant-loop-k
invariant-loop-k l = NoneNamed (texts_in l.self.texts) l.name l.k
