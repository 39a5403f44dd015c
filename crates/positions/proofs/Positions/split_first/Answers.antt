use Rattle.std.proofs.Common.{arith}
use borrow.Author.Tests.{clash}
use Rattle.positions.proofs.Order.{some_positive}
use Rattle.positions.proofs.Least.{split}
use Rattle.positions.proofs.Positions.split_first.Goals as goal

pub overflow_sub-others : goal.overflow_sub-others
overflow_sub-others c = some_positive c.args.self.digits (λ none. clash (c.if-is_empty.ensures.1 none))

pub returns : goal.returns
returns c = split c.args.self.digits (some_positive c.args.self.digits (λ none. clash (c.if-is_empty.ensures.1 none))) (omega arith)
