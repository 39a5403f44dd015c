-- What opening a list answers: the groups that it reached, with their texts, or the fault that is due first.
use Rattle.std.specs.Prelude.{◌≡◌, ℕ, ◌+◌, List, [], ◌∷◌, length, Some}
use Rattle.std.specs.List.{AllByRecursion}
use Rattle.faults.specs.declared.fault.Fault.{Fault}
use Rattle.faults.specs.declared.kind.Kind.{Kind}
use Rattle.faults.specs.declared.kind.Kind.TheVariants.{GroupLeadsToItself}
use Rattle.lists.specs.Texts.{LawfulList}
use Rattle.lists.specs.Faults.{ListFault}
use Rattle.books.specs.Tables.{Table}
use Rattle.openings.specs.References.{Reference, Refers}
use Rattle.openings.specs.Opening.{Name, Meaning, TextAt, ReadTo, Halts}
use Rattle.openings.specs.Circles.{OnCircle, FirstOnCircle}

abbrev pub names_of : Table → List Name
names_of [] = []
names_of (e ∷ es) = e.name ∷ names_of es

abbrev pub texts_of : Table → List (List ℕ)
texts_of [] = []
texts_of (e ∷ es) = e.text ∷ texts_of es

-- a fault of a text that has a number of its own
abbrev pub in_text : ℕ → Fault → Fault
in_text i f = record { kind = f.kind; text = i; place = f.place }

abbrev pub fault_in : ℕ → Kind → ℕ → Fault
fault_in i kind place = record { kind = kind; text = i; place = place }

module _ (M : Meaning) (list : List ℕ) where
  -- the list opens to these groups, in the order in which they were met: all texts have been read, and no
  -- reference lies on a circle
  pub record Opens (groups : Table) : Type 0 where
    pub read : ReadTo M list (length groups + 1) (names_of groups)
    pub texts : AllByRecursion (λ e. M e.name ≡ Some e.text) groups
    pub no_circle : (i place : ℕ) → OnCircle M (names_of groups) i place → ⊥

  -- The fault that is due first. Texts are read in turn: a text is unlawful, or one of its references cannot be met.
  -- When all have been read, a reference lies on a circle.
  pub data OpenFault : Fault → Type 0 where
    unlawful : {i : ℕ} {gs : List Name} {text : List ℕ} {f : Fault} → ReadTo M list i gs → TextAt M list gs i text → ListFault text f → OpenFault (in_text i f)
    halts : {i place : ℕ} {gs : List Name} {text : List ℕ} {rs : List Reference} {kind : Kind} → ReadTo M list i gs → TextAt M list gs i text → LawfulList text → Refers text rs → Halts M gs rs kind place → OpenFault (fault_in i kind place)
    circle : {i place : ℕ} {gs : List Name} → ReadTo M list (length gs + 1) gs → FirstOnCircle M gs i place → OpenFault (fault_in i GroupLeadsToItself place)
