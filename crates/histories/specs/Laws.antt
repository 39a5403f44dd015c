-- Laws of all histories.
use Rattle.std.specs.Prelude.{◌≡◌, ◌≢◌, ◌↔◌, ℕ, ◌<◌, ◌≤◌, List, ◌∷◌, ◌++◌, codes, Some, None}
use Rattle.std.specs.List.{AllByRecursion}
use Rattle.names.specs.Paths.{LawfulPath, LiesAbove}
use Rattle.histories.specs.Histories.{Call, History, End}
use Rattle.histories.specs.Processes.{given, number_given, name_of}
use Rattle.histories.specs.Places.{Lists, Postings, posted, list_in_force}
use Rattle.histories.specs.InForce.{Covers, Nearest, InForce}

-- A number is never given twice: of two calls that give numbers, the later gives the greater.
abbrev pub NumbersGivenOnce : Type 0
NumbersGivenOnce = (past between : History) (earlier later : Call) (m n : ℕ) → number_given earlier past ≡ Some m → number_given later (between ++ earlier ∷ past) ≡ Some n → m < n

-- A process has one of the numbers that were given, which are 1, 2, 3 and so on.
abbrev pub NumbersOfProcesses : Type 0
NumbersOfProcesses = (past : History) (p : ℕ) (name : List ℕ) → name_of past p ≡ Some name → (0 < p) × (p ≤ given past)

-- The name of a process stays whatever else happens, until it ends itself.
abbrev pub NamesStay : Type 0
NamesStay = (past between : History) (p : ℕ) → p ≤ given past → AllByRecursion (λ call. call ≢ End p) between → name_of (between ++ past) p ≡ name_of past p

-- A process that has ended runs never again.
abbrev pub EndsStay : Type 0
EndsStay = (past between : History) (p : ℕ) → p ≤ given past → name_of past p ≡ None → name_of (between ++ past) p ≡ None

-- There is one longest posted path at most that is a path or lies above it.
abbrev pub OneNearest : Type 0
OneNearest = (postings : Postings) (path up other : List ℕ) (lists others : Lists) → Nearest postings path up lists → Nearest postings path other others → up ≡ other

-- The longest posted path that is a path or lies above it decides which list is in force for it.
abbrev pub NearestDecides : Type 0
NearestDecides = (past : History) (path list : List ℕ) → LawfulPath path → (list_in_force past path ≡ Some list) ↔ InForce (posted past) path list

-- No list is in force for a path exactly if neither it nor a path above it is posted.
abbrev pub NothingPosted : Type 0
NothingPosted = (past : History) (path : List ℕ) → LawfulPath path → (list_in_force past path ≡ None) ↔ ((up : List ℕ) → Covers up path → posted past up ≡ None)

-- A path lies above another by whole words only: `/g1` is not above `/g12`.
abbrev pub ByWholeWords : Type 0
ByWholeWords = LiesAbove (codes "/g1") (codes "/g12") → ⊥
