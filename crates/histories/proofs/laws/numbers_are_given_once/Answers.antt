use Rattle.histories.proofs.Numbers.{numbers_given_once, numbers_of_processes}
use Rattle.histories.proofs.laws.numbers_are_given_once.Goals as goal

pub returns-clause-once : goal.returns-clause-once
returns-clause-once c = numbers_given_once

pub returns-clause-given : goal.returns-clause-given
returns-clause-given c = numbers_of_processes
