-- The marks of a name.
use Rattle.std.specs.Prelude.{◌≡◌, ℕ, List, Option, MatchOption}
use Rattle.names.specs.Names.{Part, word, dot, at, plus}
use Rattle.name_parts.specs.declared.mark.Mark.{Mark}
use Rattle.name_parts.specs.declared.mark.Mark.TheVariants.{Dot, At, Plus}

-- the part that a mark is
abbrev pub part_of_mark : Mark → Part
part_of_mark Dot = dot
part_of_mark At = at
part_of_mark Plus = plus

-- the number of a mark
abbrev pub number_of : Mark → ℕ
number_of Dot = 0
number_of At = 1
number_of Plus = 2

-- the mark that a part is, or none where it is a word
abbrev pub MarkOf : Part → Option Mark → Type 0
MarkOf p mark = MatchOption mark ((w : List ℕ) × (p ≡ word w)) (λ m. p ≡ part_of_mark m)
