use Rattle.std.proofs.Common.{◌≡◌, ◌-◌, length}
use Rattle.books.specs.Tables.{text_of}
use Rattle.openings.specs.OpeningState.{listed, given, Through}
use Rattle.openings.proofs.open.read_groups.Given as goal

-- what has been read was read through the book, if what was read before was
abbrev pub invariant-loop-name : goal.invariant-loop-name
invariant-loop-name g l = (Through (text_of (g.B.Book.table l.book)) l.initial.opening → Through (text_of (g.B.Book.table l.book)) l.opening) × (listed l.opening ≡ listed l.initial.opening)

abbrev pub decreases-loop-name : goal.decreases-loop-name
decreases-loop-name g l = 32 - length (given l.opening)
