-- How far an opening has come: the texts of the groups so far have been read, and what they name is known.
use Rattle.std.specs.Prelude.{◌≡◌, ℕ, ◌+◌, ◌<◌, ◌≤◌, true, List, [], length, take, is_some, Some, slice_index_or}
use Rattle.std.specs.List.{AllByRecursion}
use Rattle.links.specs.declared.links.Links.{Links}
use Rattle.links.specs.Links.{Linked}
use Rattle.books.specs.Tables.{Table}
use Rattle.openings.specs.Opening.{Name, Meaning, Numbered, Known, ReadTo}
use Rattle.openings.specs.Circles.{Names}
use Rattle.openings.specs.Pairs.{pairs}

-- the first k groups have been read: their texts are held, and a group of them is linked to those that it names
pub record Progress (M : Meaning) (list : List ℕ) (k : ℕ) (gs : List Name) (texts : List (List ℕ)) (links : Links) : Type 0 where
  pub read : ReadTo M list (k + 1) gs
  pub within : k ≤ length gs
  pub texts_held : (i : ℕ) → i < k → M (slice_index_or gs i []) ≡ Some (slice_index_or texts i [])
  pub rows : links.len ≡ k
  pub only : (i j : ℕ) → Linked links i j → (g : Name) × (Names M (slice_index_or gs i []) g × Numbered gs g j)
  pub every : (i : ℕ) (g : Name) → i < k → Names M (slice_index_or gs i []) g → (j : ℕ) × (Numbered gs g j × Linked links i j)

-- a meaning has the texts of these groups
abbrev pub HasTexts : Meaning → Table → Type 0
HasTexts M groups = AllByRecursion (λ e. M e.name ≡ Some e.text) groups

-- it also has each of these names
pub record Fits (M : Meaning) (gs : List Name) (groups : Table) : Type 0 where
  pub texts : HasTexts M groups
  pub names : (g : Name) → Known gs g → is_some (M g) ≡ true

-- what has been read is right by every meaning that has the texts that were read and the names that are known
abbrev pub ReadWell : List ℕ → List Name → List (List ℕ) → Links → Type 0
ReadWell list gs texts links = (M : Meaning) → Fits M gs (pairs (take links.len gs) texts) → Progress M list links.len gs texts links
