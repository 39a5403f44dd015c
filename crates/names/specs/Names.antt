-- Names, by their parts.
use Rattle.std.specs.Prelude.{◌≡◌, ℕ, ◌≤◌, List, [], ◌∷◌, ◌++◌, length}
use Rattle.names.specs.Words.{Word}

-- a part of a name: a word, or a mark
pub data Part : Type 0 where
  word : List ℕ → Part
  dot : Part
  at : Part
  plus : Part

-- the bytes of a part, and of parts in order
abbrev pub bytes_of : Part → List ℕ
bytes_of (word w) = w
bytes_of dot = 46 ∷ []
bytes_of at = 64 ∷ []
bytes_of plus = 43 ∷ []

abbrev pub spell : List Part → List ℕ
spell [] = []
spell (p ∷ ps) = bytes_of p ++ spell ps

-- a partial name is words joined by `.`
pub data Partial : List Part → Type 0 where
  single : {w : List ℕ} → Word w → Partial (word w ∷ [])
  dotted : {w : List ℕ} {ps : List Part} → Word w → Partial ps → Partial (word w ∷ dot ∷ ps)

-- a step is a partial name, the program, and any number of roles, each `@` and a partial name
pub data Step : List Part → Type 0 where
  program : {ps : List Part} → Partial ps → Step ps
  role : {ss ps : List Part} → Step ss → Partial ps → Step (ss ++ (at ∷ ps))

-- a name is steps joined by `+`
pub data Steps : List Part → Type 0 where
  only : {ss : List Part} → Step ss → Steps ss
  joined : {ns ss : List Part} → Steps ns → Step ss → Steps (ns ++ (plus ∷ ss))

-- the text is spelled by parts of such a form
pub record Spelled (Form : List Part → Type 0) (text : List ℕ) : Type 0 where
  pub parts : List Part
  pub form : Form parts
  pub spelling : spell parts ≡ text

-- a lawful name has at most 255 bytes and 63 parts; these are its parts
pub record IsName (text : List ℕ) (parts : List Part) : Type 0 where
  pub form : Steps parts
  pub spelling : spell parts ≡ text
  pub short : length text ≤ 255
  pub few : length parts ≤ 63

abbrev pub LawfulName : List ℕ → Type 0
LawfulName text = (parts : List Part) × IsName text parts

-- a partial name that a call is given has at most 64 bytes
pub record LawfulPartial (text : List ℕ) : Type 0 where
  pub form : Spelled Partial text
  pub short : length text ≤ 64

-- how many parts a name has
abbrev pub PartsOf : List ℕ → ℕ → Type 0
PartsOf text n = (parts : List Part) → IsName text parts → n ≡ length parts

-- a text is a name by one row of parts at most
abbrev pub OneRow : List ℕ → Type 0
OneRow text = (ps qs : List Part) → IsName text ps → IsName text qs → ps ≡ qs
