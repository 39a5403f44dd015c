-- Opening a list: its texts are read in turn, and the groups that they name are met in the order of their
-- references. The list is text 0; the group that is met first is text 1, and so on.
use Rattle.std.specs.Prelude.{◌≡◌, ℕ, ◌+◌, ◌<◌, ◌≤◌, true, List, [], ◌∷◌, ◌++◌, length, get_or, is_some, Some, None, Option, slice_index_or}
use Rattle.faults.specs.declared.kind.Kind.{Kind}
use Rattle.faults.specs.declared.kind.Kind.TheVariants.{TooManyGroups, GroupNotInBook}
use Rattle.lists.specs.Texts.{LawfulList}
use Rattle.openings.specs.References.{Reference, Refers}

abbrev pub Name : Type 0
Name = List ℕ

-- what a book means to an opening: the text of a name, or none
abbrev pub Meaning : Type 0
Meaning = Name → Option (List ℕ)

-- a name has a number among others
pub record Numbered (gs : List Name) (g : Name) (k : ℕ) : Type 0 where
  pub below : k < length gs
  pub is : get_or gs k [] ≡ g

-- a name is one of some
abbrev pub Known : List Name → Name → Type 0
Known gs g = (k : ℕ) × Numbered gs g k

-- each name has one number at most
abbrev pub Distinct : List Name → Type 0
Distinct gs = (g : Name) (j k : ℕ) → Numbered gs g j → Numbered gs g k → j ≡ k

module _ (M : Meaning) where
  -- A reference to g is met while the groups gs are known. A group that is known stays so. One that is not is checked
  -- for being a 33rd, then for the book, and becomes the next.
  pub data Meets (gs : List Name) (g : Name) : List Name → Type 0 where
    again : Known gs g → Meets gs g gs
    new : (Known gs g → ⊥) → length gs < 32 → is_some (M g) ≡ true → Meets gs g (gs ++ (g ∷ []))

  -- references are met one after another
  pub data MeetsAll : List Name → List Reference → List Name → Type 0 where
    met : {gs : List Name} → MeetsAll gs [] gs
    meet : {gs gs' gs'' : List Name} {r : Reference} {rs : List Reference} → Meets gs r.name gs' → MeetsAll gs' rs gs'' → MeetsAll gs (r ∷ rs) gs''

  -- references are met until one cannot be: it names a 33rd group, or one that the book lacks
  pub data Halts : List Name → List Reference → Kind → ℕ → Type 0 where
    surplus : {gs : List Name} {r : Reference} {rs : List Reference} → (Known gs r.name → ⊥) → 32 ≤ length gs → Halts gs (r ∷ rs) TooManyGroups r.place
    lacking : {gs : List Name} {r : Reference} {rs : List Reference} → (Known gs r.name → ⊥) → length gs < 32 → M r.name ≡ None → Halts gs (r ∷ rs) GroupNotInBook r.place
    later : {gs gs' : List Name} {r : Reference} {rs : List Reference} {kind : Kind} {place : ℕ} → Meets gs r.name gs' → Halts gs' rs kind place → Halts gs (r ∷ rs) kind place

  -- meeting these references checks whether the book has the name
  pub data ChecksFor : List Name → List Reference → Name → Type 0 where
    now_checked : {gs : List Name} {r : Reference} {rs : List Reference} → (Known gs r.name → ⊥) → length gs < 32 → ChecksFor gs (r ∷ rs) r.name
    later_checked : {gs gs' : List Name} {r : Reference} {rs : List Reference} {g : Name} → Meets gs r.name gs' → ChecksFor gs' rs g → ChecksFor gs (r ∷ rs) g

  module _ (list : List ℕ) where
    -- text i, while the groups gs are known: the list is text 0, and text k + 1 is that of group k
    pub data TextAt (gs : List Name) (i : ℕ) (text : List ℕ) : Type 0 where
      the_list : i ≡ 0 → text ≡ list → TextAt gs i text
      the_group : (k : ℕ) → i ≡ k + 1 → k < length gs → M (slice_index_or gs k []) ≡ Some text → TextAt gs i text

    -- the texts before text i have been read, each lawful, and the groups gs are known
    pub data ReadTo : ℕ → List Name → Type 0 where
      start : ReadTo 0 []
      turn : {i n : ℕ} {gs gs' : List Name} {text : List ℕ} {rs : List Reference} → n ≡ i + 1 → ReadTo i gs → TextAt gs i text → LawfulList text → Refers text rs → MeetsAll gs rs gs' → ReadTo n gs'

    -- the names that the opening looks up in the book
    pub record Checks (g : Name) : Type 0 where
      pub number : ℕ
      pub known : List Name
      pub read : ReadTo number known
      pub text : List ℕ
      pub here : TextAt known number text
      pub lawful : LawfulList text
      pub references : List Reference
      pub refers : Refers text references
      pub checked : ChecksFor known references g

-- two meanings agree on every name that the opening of the list by the first of them looks up
abbrev pub Alike : Meaning → Meaning → List ℕ → Type 0
Alike M M' list = (g : Name) → Checks M list g → M' g ≡ M g
