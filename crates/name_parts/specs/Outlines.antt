-- The outline of the parts of a name: where each begins, and which places have words and which marks.
use Rattle.std.specs.Prelude.{◌≡◌, ℕ, ◌+◌, ◌<◌, ◌≤◌, ◌↔◌, List, length, take, slice_index}
use Rattle.names.specs.declared.part.Part.{Part as WalkedPart}
use Rattle.names.specs.Names.{Part, word, bytes_of, spell, IsName}
use Rattle.names.specs.Parts.{part_of}
use Rattle.positions.specs.declared.Positions.{Positions}
use Rattle.positions.specs.Places.{Has}
use Rattle.positions.specs.Rows.{row_at}
use Rattle.name_parts.specs.declared.mark.Mark.{Mark}
use Rattle.name_parts.specs.declared.outline.Outline.{Outline}
use Rattle.name_parts.specs.Marks.{part_of_mark, number_of}
use Rattle.name_parts.specs.Slices.{PartAt}

-- some word is at a place
abbrev pub WordAt : List Part → ℕ → Type 0
WordAt ps i = (w : List ℕ) × PartAt ps (word w) i

-- the byte at which the part at a place begins
abbrev pub start_of : List Part → ℕ → ℕ
start_of ps i = length (spell (take i ps))

-- the set of those of the first places that are of a kind
abbrev pub Sees : (ℕ → Type 0) → ℕ → ℕ → Type 0
Sees Kind count digits = (i : ℕ) → Has digits i ↔ ((i < count) × Kind i)

-- how many parts an outline has
abbrev pub count_of : Outline → ℕ
count_of o = length o.starts.items

-- the set of the places of a mark
abbrev pub mark_places : Outline → Mark → Positions
mark_places o m = row_at o.marks (number_of m)

-- the outline of the first parts of a row
pub record Outlined (ps : List Part) (o : Outline) : Type 0 where
  pub within : count_of o ≤ length ps
  pub starts : (i : ℕ) → i < count_of o → slice_index o.starts.items i ≡ start_of ps i
  pub words : Sees (WordAt ps) (count_of o) o.words.digits
  pub marks : (m : Mark) → Sees (PartAt ps (part_of_mark m)) (count_of o) (mark_places o m).digits

-- the outline of no part
pub record Blank (o : Outline) : Type 0 where
  pub none : count_of o ≡ 0
  pub outlined : (ps : List Part) → Outlined ps o

-- an outline, and the same with one more part, which begins at a byte
pub record Noted (was : Outline) (start : ℕ) (part : WalkedPart) (is : Outline) : Type 0 where
  pub more : count_of is ≡ count_of was + 1
  pub outlined : (ps : List Part) → Outlined ps was → PartAt ps (part_of part) (count_of was) → start ≡ start_of ps (count_of was) → Outlined ps is

-- the outline of a whole row
pub record Whole (ps : List Part) (o : Outline) : Type 0 where
  pub outlined : Outlined ps o
  pub all : count_of o ≡ length ps

-- the outline of the name that a text is
abbrev pub OutlineOf : List ℕ → Outline → Type 0
OutlineOf text o = (ps : List Part) → IsName text ps → Whole ps o

-- the byte before which the part at a place of a name ends
abbrev pub EndOf : List ℕ → ℕ → ℕ → Type 0
EndOf text i end = (ps : List Part) → IsName text ps → end ≡ start_of ps (i + 1)

-- the bytes of the part at a place of a name
abbrev pub BytesAt : List ℕ → ℕ → List ℕ → Type 0
BytesAt text i bytes = (ps : List Part) → IsName text ps → (p : Part) → PartAt ps p i → bytes ≡ bytes_of p
