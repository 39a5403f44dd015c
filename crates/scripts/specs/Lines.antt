-- What a line of a script says.
use Rattle.std.specs.Prelude.{◌≡◌, ℕ, ◌<◌, List, [], ◌∷◌, ◌++◌, length, codes, ◌≢◌, slice_index, Option, Some, None, option_map}
use Rattle.scripts.specs.declared.call.Call.{Call}
use Rattle.scripts.specs.declared.call.Call.TheVariants.{Name, Path, List as ListCall, Group, Ungroup, Open, Match, Start, Spawn, Role, Own, End, Post, PostBoth, Unpost, Force}
use Rattle.scripts.specs.Numbers.{written, IsSmall}

-- no byte of the text is this one
abbrev pub Lacks : ℕ → List ℕ → Type 0
Lacks byte text = (i : ℕ) → i < length text → slice_index text i ≢ byte

-- the text is cut at its first byte of a kind
pub record Cut (byte : ℕ) (text before after : List ℕ) : Type 0 where
  pub whole : text ≡ before ++ (byte ∷ after)
  pub first : Lacks byte before

-- the fields of a line: what its tabs part
pub data Fields : List ℕ → List (List ℕ) → Type 0 where
  last : {text : List ℕ} → Lacks 9 text → Fields text (text ∷ [])
  more : {text field rest : List ℕ} {fields : List (List ℕ)} → Cut 9 text field rest → Fields rest fields → Fields text (field ∷ fields)

-- the word of a call and its fields
abbrev pub parts : Call → List (List ℕ)
parts (Name text) = codes "name" ∷ text.now ∷ []
parts (Path text) = codes "path" ∷ text.now ∷ []
parts (ListCall text) = codes "list" ∷ text.now ∷ []
parts (Group name text) = codes "group" ∷ name.now ∷ text.now ∷ []
parts (Ungroup name) = codes "ungroup" ∷ name.now ∷ []
parts (Open text) = codes "open" ∷ text.now ∷ []
parts (Match name text) = codes "match" ∷ name.now ∷ text.now ∷ []
parts (Start program) = codes "start" ∷ program.now ∷ []
parts (Spawn parent program) = codes "spawn" ∷ written parent ∷ program.now ∷ []
parts (Role parent role program) = codes "role" ∷ written parent ∷ role.now ∷ program.now ∷ []
parts (Own parent program) = codes "own" ∷ written parent ∷ program.now ∷ []
parts (End process) = codes "end" ∷ written process ∷ []
parts (Post path text) = codes "post" ∷ path.now ∷ text.now ∷ []
parts (PostBoth path text second) = codes "post" ∷ path.now ∷ text.now ∷ second.now ∷ []
parts (Unpost path) = codes "unpost" ∷ path.now ∷ []
parts (Force path) = codes "force" ∷ path.now ∷ []

-- its numbers are such
abbrev pub NumbersFit : Call → Type 0
NumbersFit (Spawn parent program) = IsSmall parent
NumbersFit (Role parent role program) = IsSmall parent
NumbersFit (Own parent program) = IsSmall parent
NumbersFit (End process) = IsSmall process
NumbersFit _ = Unit {0}

-- these are the word of the call and its fields
abbrev pub Spells : List (List ℕ) → Call → Type 0
Spells fields told = (parts told ≡ fields) × NumbersFit told

-- the line is the word of the call and its fields
pub record SaysCall (text : List ℕ) (told : Call) : Type 0 where
  pub fields : List (List ℕ)
  pub parted : Fields text fields
  pub spells : Spells fields told

-- so it is of a line whose word and first field are known, and what stands after them
pub record SaysMore (word first others : List ℕ) (told : Call) : Type 0 where
  pub fields : List (List ℕ)
  pub parted : Fields others fields
  pub spells : Spells (word ∷ first ∷ fields) told

-- a line of no bytes says nothing, and so does one that begins with `#`; a call is its word and its fields
pub data Says : List ℕ → Option Call → Type 0 where
  nothing : Says [] None
  comment : {text : List ℕ} → Says (35 ∷ text) None
  call : {text : List ℕ} {told : Call} → SaysCall text told → Says text (Some told)

-- a line says one thing at most: nothing, or one call with its fields
abbrev pub OneMeaning : List ℕ → Type 0
OneMeaning line = (a b : Option Call) → Says line a → Says line b → option_map parts a ≡ option_map parts b
