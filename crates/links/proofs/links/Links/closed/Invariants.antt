use Rattle.std.proofs.Common.{ℕ, ◌<◌, ◌↔◌}
use Rattle.positions.specs.Rows.{At}
use Rattle.links.specs.Links.{Linked}
use Rattle.links.proofs.Between.{Via}
use Rattle.links.proofs.links.Links.closed.Given as goal

abbrev pub invariant-loop-middle : goal.invariant-loop-middle
invariant-loop-middle l = (i j : ℕ) → ((i < l.fn.self.len) × At l.rows i j) ↔ Via (Linked l.fn.self) l.middle i j
