-- Which references of a text come first of some, and which lead back to the group whose text holds them.
use Rattle.std.specs.Prelude.{◌≡◌, ℕ, ◌⊎◌, ◌↔◌, List, ◌∷◌, ◌++◌}
use Rattle.links.specs.declared.links.Links.{Links}
use Rattle.links.specs.Links.{Linked, Chain}
use Rattle.openings.specs.References.{Reference}
use Rattle.openings.specs.Opening.{Name, Numbered}
use Rattle.openings.specs.MetReferences.{Named}

-- the links lead wherever others do in one step or more
abbrev pub Closes : Links → Links → Type 0
Closes links leads = (i j : ℕ) → Linked leads i j ↔ Chain (Linked links) i j

-- of the references, the first to a group of these is at the place
pub record First (Is : Name → Type 0) (rs : List Reference) (place : ℕ) : Type 0 where
  pub before : List Reference
  pub name : Name
  pub after : List Reference
  pub whole : rs ≡ before ++ (record { place = place; name = name } ∷ after)
  pub is : Is name
  pub none_before : (h : Name) → Named before h → Is h → ⊥

module _ (gs : List Name) (leads : Links) (home : ℕ) where
  -- the group of that name is the one at home, or leads to it
  pub record Back (g : Name) : Type 0 where
    pub number : ℕ
    pub numbered : Numbered gs g number
    pub back : (number ≡ home) ⊎ Linked leads number home

  -- of the references, the first that leads back is at the place
  abbrev pub FirstBack : List Reference → ℕ → Type 0
  FirstBack = First Back
