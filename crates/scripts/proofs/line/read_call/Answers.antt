use Rattle.scripts.specs.Lines.{last, more}
use Rattle.scripts.proofs.Sayings.{by_fields, joined, lone_word}
use Rattle.scripts.proofs.line.read_call.Goals as goal

pub returns-in-None : goal.returns-in-None
returns-in-None c = by_fields (more c.in-Some.ensures (last c.in-None.ensures)) _ c.of_one.ensures

pub returns-in-Some-cut_at : goal.returns-in-Some-cut_at
returns-in-Some-cut_at c = joined c.in-Some.ensures c.in-Some-cut_at.ensures _ c.read_more.ensures

pub returns-in_default : goal.returns-in_default
returns-in_default c = λ told says. lone_word (last c.in_default.ensures) told says
