-- What leads where, by the texts that a book has.
use Rattle.std.specs.Prelude.{◌≡◌, ℕ, ◌+◌, ◌<◌, ◌≤◌, ◌⊎◌, List, [], length, Some, slice_index_or}
use Rattle.openings.specs.References.{RefersAt}
use Rattle.openings.specs.Opening.{Name, Meaning}

module _ (M : Meaning) where
  -- the text of g refers to h
  pub record Names (g h : Name) : Type 0 where
    pub text : List ℕ
    pub has : M g ≡ Some text
    pub place : ℕ
    pub refers : RefersAt text place h

  -- g leads to h: it is h, or its text names a group that leads to h
  pub data Leads : Name → Name → Type 0 where
    here : {g : Name} → Leads g g
    on : {g h m : Name} → Names g m → Leads m h → Leads g h

  -- g leads to h in one step or more
  pub record LeadsOn (g h : Name) : Type 0 where
    pub by : Name
    pub names : Names g by
    pub leads : Leads by h

  -- the list leads to h: it names a group that does
  pub record ListLeads (list : List ℕ) (h : Name) : Type 0 where
    pub place : ℕ
    pub first : Name
    pub refers : RefersAt list place first
    pub leads : Leads first h

  -- The reference at a place of text i lies on a circle: the group that it names leads back to the group whose text
  -- this is. The list itself is no group, and nothing leads back to it.
  pub record OnCircle (gs : List Name) (i place : ℕ) : Type 0 where
    pub number : ℕ
    pub is : i ≡ number + 1
    pub below : number < length gs
    pub text : List ℕ
    pub has : M (slice_index_or gs number []) ≡ Some text
    pub named : Name
    pub refers : RefersAt text place named
    pub back : Leads named (slice_index_or gs number [])

  -- of all references on circles, the one in the lowest text, and there at the lowest place
  pub record FirstOnCircle (gs : List Name) (i place : ℕ) : Type 0 where
    pub circle : OnCircle gs i place
    pub first : (j q : ℕ) → OnCircle gs j q → (i < j) ⊎ ((i ≡ j) × (place ≤ q))
