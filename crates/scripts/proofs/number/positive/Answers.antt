use Rattle.std.proofs.Common.{rules}
use Rattle.scripts.proofs.Numbers.{none_of_zero}
use Rattle.scripts.proofs.number.positive.Goals as goal

pub returns : goal.returns
returns c = search (rules, none_of_zero)
