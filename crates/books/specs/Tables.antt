-- What a book of groups means: a finite table from group names to texts.
use Rattle.std.specs.Prelude.{ℕ, ◌≤◌, Bool, false, cond, not, List, [], ◌∷◌, ◌++◌, length, Some, None, Option, ◌==◌}
use Rattle.std.specs.List.{AllByRecursion, filter}
use Rattle.std.specs.Str.{bytes_eq}
use Rattle.lists.specs.Bytes.{IsGroupName}

-- a name with its text
pub record Entry : Type 0 where
  pub name : List ℕ
  pub text : List ℕ

abbrev pub Table : Type 0
Table = List Entry

-- the text that the table has for a name: the first row with the name counts
abbrev pub text_of : Table → List ℕ → Option (List ℕ)
text_of [] name = None
text_of (e ∷ es) name = cond (bytes_eq e.name name) (Some e.text) (text_of es name)

-- names are lawful, and texts have at most 4095 bytes, of any content
pub record LawfulEntry (e : Entry) : Type 0 where
  pub named : ∥ IsGroupName e.name ∥₁
  pub short : length e.text ≤ 4095

abbrev pub LawfulTable : Table → Type 0
LawfulTable t = AllByRecursion LawfulEntry t

-- whether a name begins with a byte; the empty name begins with none
abbrev pub begins : ℕ → List ℕ → Bool
begins byte [] = false
begins byte (b ∷ bs) = b == byte

-- the rows of a table whose names pass a test
abbrev pub keep : (List ℕ → Bool) → Table → Table
keep p = filter (λ e. p e.name)

-- names that begin with the byte are looked up in the first table, all others in the second
abbrev pub divided : ℕ → Table → Table → Table
divided byte first second = keep (begins byte) first ++ keep (λ name. not (begins byte name)) second
