use Rattle.registers.proofs.Orders.{before_self, before_trans, one_is_before}
use Rattle.registers.proofs.Unique.{each_key_once}
use Rattle.registers.proofs.laws.keys_are_ordered.Goals as goal

pub returns-clause-itself : goal.returns-clause-itself
returns-clause-itself g c = before_self

pub returns-clause-on : goal.returns-clause-on
returns-clause-on g c = before_trans

pub returns-clause-total : goal.returns-clause-total
returns-clause-total g c = one_is_before

pub returns-clause-once : goal.returns-clause-once
returns-clause-once g c = each_key_once g.R.Record.keyed
