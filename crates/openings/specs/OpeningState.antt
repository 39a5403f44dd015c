-- What an opening holds while it is asked and fed, and what becomes of it.
use Rattle.std.specs.Prelude.{◌≡◌, ℕ, ◌+◌, ◌≤◌, Bool, List, [], ◌∷◌, ◌++◌, length, take}
use Rattle.books.specs.Tables.{Table}
use Rattle.openings.specs.declared.opening.Opening.{Opening}
use Rattle.openings.specs.References.{Reference, Refers}
use Rattle.openings.specs.Opening.{Name, Meaning, Numbered, MeetsAll}
use Rattle.openings.specs.Views.{text_in, texts_in}
use Rattle.openings.specs.KnownNames.{known}
use Rattle.openings.specs.Pairs.{pairs}
use Rattle.links.specs.declared.links.Links.{Links}
use Rattle.openings.specs.Circles.{OnCircle}
use Rattle.openings.specs.BackReferences.{Closes}
use Rattle.openings.specs.Progress.{Fits, Progress}
use Rattle.openings.specs.Membership.{having}

-- the list that is opened
abbrev pub listed : Opening → List ℕ
listed o = text_in o.list

-- the names of the groups that have been met, in order
abbrev pub met : Opening → List Name
met o = known o.names

-- the groups whose texts have been given, in order, with these texts
abbrev pub given : Opening → Table
given o = pairs (take o.links.len (met o)) (texts_in o.texts)

-- a meaning by which the opening has read what it has read
abbrev pub Through : Meaning → Opening → Type 0
Through M o = Fits M (met o) (given o)

-- the group whose text is due next
abbrev pub Due : Opening → Name → Type 0
Due o name = Numbered (met o) name (length (given o))

-- every group that was met has been given its text, by this meaning
pub record AllRead (M : Meaning) (list : List ℕ) (o : Opening) : Type 0 where
  pub of_list : listed o ≡ list
  pub none_due : length (met o) ≤ length (given o)
  pub through : Through M o

-- the group whose text has this number
pub record Stands (o : Opening) (text : ℕ) (name : Name) : Type 0 where
  pub number : ℕ
  pub is : text ≡ number + 1
  pub numbered : Numbered (met o) name number

-- an opening of the list that has read nothing else
pub record Begun (text : List ℕ) (has : Name → Bool) (o : Opening) : Type 0 where
  pub of_list : listed o ≡ text
  pub none_given : given o ≡ []
  pub named : (rs : List Reference) → Refers text rs → MeetsAll (having has) [] rs (met o)

-- one text more has been given, and what it names has been met
pub record Gave (old : Opening) (name text : List ℕ) (has : Name → Bool) (new : Opening) : Type 0 where
  pub of_list : listed new ≡ listed old
  pub one_given : given new ≡ given old ++ (record { name = name; text = text } ∷ [])
  pub named : (rs : List Reference) → Refers text rs → MeetsAll (having has) (met old) rs (met new)

-- every group that was met has been given its text, none lies on a circle, and these links lead as the texts do
pub record Ends (o : Opening) (leads : Links) : Type 0 where
  pub none_due : length (met o) ≤ length (given o)
  pub count : leads.len ≡ o.links.len
  pub closes : Closes o.links leads
  pub no_circle : (M : Meaning) → Progress M (listed o) (length (met o)) (met o) (texts_in o.texts) o.links → (i place : ℕ) → OnCircle M (met o) i place → ⊥
