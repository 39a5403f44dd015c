-- Which group names which, and what leads where.
use Rattle.std.specs.Prelude.{◌≡◌, ℕ, ◌+◌, ◌<◌, ◌⊎◌, ◌↔◌}
use Rattle.positions.specs.Places.{Has}
use Rattle.positions.specs.Rows.{At}
use Rattle.links.specs.declared.links.Links.{Links}

-- group i names group j
abbrev pub Linked : Links → ℕ → ℕ → Type 0
Linked l i j = (i < l.len) × At l.rows i j

-- one or more steps lead from i to j
pub data Chain (Step : ℕ → ℕ → Type 0) : ℕ → ℕ → Type 0 where
  one : {i j : ℕ} → Step i j → Chain Step i j
  more : {i m j : ℕ} → Step i m → Chain Step m j → Chain Step i j

-- there was room, and one group more is there, which names these
pub record Added (old : Links) (named : ℕ) (new : Links) : Type 0 where
  pub room : old.len < 32
  pub count : new.len ≡ old.len + 1
  pub links : (i j : ℕ) → Linked new i j ↔ (Linked old i j ⊎ ((i ≡ old.len) × Has named j))
