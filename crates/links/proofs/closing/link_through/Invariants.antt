use Rattle.std.proofs.Common.{◌≡◌, ℕ, ◌<◌, ◌≤◌, ◌⊎◌, ◌↔◌}
use Rattle.positions.specs.Rows.{row_at, At}
use Rattle.links.proofs.closing.link_through.Given as goal

abbrev pub invariant-loop-row : goal.invariant-loop-row
invariant-loop-row l = record {
  linked : (i j : ℕ) → i < l.row-index → At l.row-items i j ↔ (At l.initial.row-items i j ⊎ (At l.initial.row-items i l.middle × At l.initial.row-items l.middle j));
  kept : (i : ℕ) → l.row-index ≤ i → row_at l.row-items i ≡ row_at l.initial.row-items i;
}
