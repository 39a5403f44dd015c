use Rattle.std.proofs.Common.{ap}
use Rattle.names.specs.Parts.{part_of}
use Rattle.name_parts.proofs.outline.mark_of.Goals as goal

pub returns-in-Word : goal.returns-in-Word
returns-in-Word c = (_, ap part_of c.in-Word.is)
