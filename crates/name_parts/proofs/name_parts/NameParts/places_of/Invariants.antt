use Rattle.std.proofs.Common.{List}
use Rattle.names.specs.Names.{Part, IsName}
use Rattle.name_parts.specs.Tables.{SameWordAt}
use Rattle.name_parts.proofs.Finding.{Found}
use Rattle.name_parts.proofs.name_parts.NameParts.places_of.Given as goal

abbrev pub invariant-loop-i : goal.invariant-loop-i
invariant-loop-i g l = (ps : List Part) → IsName l.self.text.now ps → Found (SameWordAt (g.R.WordRule.same l.rule) ps l.word) l.initial.i-iterator.left.digits l.i-iterator.left.digits l.places.digits
