-- The references of a list text: which groups it names, and where.
use Rattle.std.specs.Prelude.{◌≡◌, ℕ, List, [], ◌∷◌, ◌++◌}
use Rattle.lists.specs.Trees.{Sign, atom, group, open_bracket, close_bracket, star, bar}
use Rattle.lists.specs.Placed.{Placed}

-- a reference: the place of its `{`, and the name in its braces
pub record Reference : Type 0 where
  pub place : ℕ
  pub name : List ℕ

-- a sign in front of references: a group's is one more, every other adds none
abbrev pub noted : ℕ → Sign → List Reference → List Reference
noted place (atom a) rs = rs
noted place (group g) rs = record { place = place; name = g } ∷ rs
noted place open_bracket rs = rs
noted place close_bracket rs = rs
noted place star rs = rs
noted place bar rs = rs

abbrev pub references_of : List (ℕ × Sign) → List Reference
references_of [] = []
references_of (p ∷ ps) = noted p.0 p.1 (references_of ps)

-- these are all the references of the text, from left to right
pub record Refers (text : List ℕ) (rs : List Reference) : Type 0 where
  pub tokens : List (ℕ × Sign)
  pub placed : Placed text 0 tokens
  pub these : rs ≡ references_of tokens

-- the text has a reference to the group at the place
pub record RefersAt (text : List ℕ) (place : ℕ) (name : List ℕ) : Type 0 where
  pub before : List Reference
  pub after : List Reference
  pub refers : Refers text (before ++ (record { place = place; name = name } ∷ after))
