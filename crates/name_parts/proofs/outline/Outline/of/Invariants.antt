use Rattle.std.proofs.Common.{◌≡◌}
use Rattle.texts.specs.Shown.{shown}
use Rattle.name_parts.proofs.Walked.{Sofar}
use Rattle.name_parts.proofs.outline.Outline.of.Given as goal

abbrev pub invariant-loop-start : goal.invariant-loop-start
invariant-loop-start l = (l.start-iterator.text.now ≡ shown l.name.text) × Sofar l.start-iterator.text.now l.start-iterator.at l.outline
