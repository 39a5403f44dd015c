use Rattle.std.proofs.Common.{◌≡◌, ℕ, ◌<◌, ◌≤◌, length}
use Rattle.positions.specs.Rows.{row_at}
use Rattle.runs.proofs.row.change_first.Given as goal

abbrev pub invariant-loop-i : goal.invariant-loop-i
invariant-loop-i g l = record {
  whole : length l.row-items ≡ length l.initial.row-items;
  changed : (k : ℕ) → k < l.i → goal.F-post g l.change k (row_at l.initial.row-items k) (row_at l.row-items k);
  kept : (k : ℕ) → l.i ≤ k → row_at l.row-items k ≡ row_at l.initial.row-items k;
}
