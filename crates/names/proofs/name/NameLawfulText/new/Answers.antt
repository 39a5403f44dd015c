use Rattle.std.proofs.Common.{rules}
use Rattle.names.proofs.OneFault.{name_accepted}
use Rattle.names.proofs.name.NameLawfulText.new.Goals as goal

pub returns : goal.returns
returns c = (search rules, name_accepted c.args.text.now c.in_ok-marks.ensures.0)
