use Rattle.histories.proofs.Numbers.{names_stay, ends_stay}
use Rattle.histories.proofs.laws.names_stay.Goals as goal

pub returns-clause-names : goal.returns-clause-names
returns-clause-names c = names_stay

pub returns-clause-ends : goal.returns-clause-ends
returns-clause-ends c = ends_stay
