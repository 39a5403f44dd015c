use Rattle.openings.proofs.States.{read_through, through_supposing}
use Rattle.openings.proofs.opening.Opening.due.Goals as goal

pub returns-clause-read : goal.returns-clause-read
returns-clause-read c meaning through = read_through c.args.self.now meaning through

pub returns-clause-supposing : goal.returns-clause-supposing
returns-clause-supposing c = through_supposing c.args.self.now
