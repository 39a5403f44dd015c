-- Laws of chains of steps.
use Rattle.std.proofs.Common.{ℕ}
use Rattle.links.specs.Links.{Chain, one, more}

-- a chain to m and one from m on make one chain
pub chain_append : {Step : ℕ → ℕ → Type 0} {i m j : ℕ} → Chain Step i m → Chain Step m j → Chain Step i j
chain_append (one s) d = more s d
chain_append (more s c) d = more s (chain_append c d)
