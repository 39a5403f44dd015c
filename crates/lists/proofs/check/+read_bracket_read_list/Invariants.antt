use Rattle.std.proofs.Common.{◌≡◌, ℕ, ◌+◌, ◌-◌, ◌*◌, ◌≤◌, true, length}
use Rattle.lists.specs.Machine.{within, Leads}
use Rattle.lists.proofs.check.+read_bracket_read_list.Given as goal

abbrev pub decreases-read_bracket : goal.decreases-read_bracket
decreases-read_bracket l = 2 * (length l.tokens.now.text.now - l.tokens.now.at) + 2

abbrev pub decreases-read_list : goal.decreases-read_list
decreases-read_list l = 2 * (length l.tokens.now.text.now - l.tokens.now.at) + 1

abbrev pub invariant-read_list-loop-lexeme : goal.invariant-read_list-loop-lexeme
invariant-read_list-loop-lexeme l =
    (l.tokens.text.now ≡ l.initial.tokens.text.now)
    × ((e : ℕ) → e ≤ l.depth → Leads l.initial.tokens.text.now l.initial.tokens.at l.tokens.at (within e true) (within e l.due))

abbrev pub decreases-read_list-loop-lexeme : goal.decreases-read_list-loop-lexeme
decreases-read_list-loop-lexeme l = length l.tokens.text.now - l.tokens.at
