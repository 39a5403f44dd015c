-- The tokens of a text with the places that they begin at, and a walk over them.
use Rattle.std.specs.Prelude.{◌≡◌, ℕ, ◌<◌, ◌≤◌, List, [], ◌∷◌, length, IfSome, Option, MatchOption}
use Rattle.lists.specs.declared.token.Lexeme.{Lexeme}
use Rattle.lists.specs.Trees.{Sign, group}
use Rattle.lists.specs.Bytes.{IsGroupName}
use Rattle.lists.specs.Tokens.{Spells}
use Rattle.lists.specs.Lexemes.{sign, Gap, TokenAt, Next}

-- the tokens of a text from a place on, each with the place that it begins at, to the text's end
pub data Placed (text : List ℕ) : ℕ → List (ℕ × Sign) → Type 0 where
  none : {at : ℕ} → Gap text at (length text) → Placed text at []
  more : {at place end : ℕ} {s : Sign} {ps : List (ℕ × Sign)} → TokenAt text at place end s → Placed text end ps → Placed text at ((place, s) ∷ ps)

-- the signs, without their places
abbrev pub signs_of : List (ℕ × Sign) → List Sign
signs_of [] = []
signs_of (p ∷ ps) = p.1 ∷ signs_of ps

-- the tokens of a text have one row of places at most, and their signs are exactly those that spell the text
pub record OnePlacing (text : List ℕ) : Type 0 where
  pub one : (ps qs : List (ℕ × Sign)) → Placed text 0 ps → Placed text 0 qs → ps ≡ qs
  pub spells : (ps : List (ℕ × Sign)) → Placed text 0 ps → Spells text (signs_of ps)
  pub placed : (ss : List Sign) → Spells text ss → (ps : List (ℕ × Sign)) × (Placed text 0 ps × (signs_of ps ≡ ss))

-- One step of a walk over the tokens: it gives the first that is left, and the rest is left; or none is left. The
-- walk stands behind the token that it gives, and at the text's end where none is left.
pub record Walks (text : List ℕ) (at : ℕ) (given : Option Lexeme) (text' : List ℕ) (at' : ℕ) : Type 0 where
  pub kept : text' ≡ text
  pub found : Next text at given
  pub token : (ps : List (ℕ × Sign)) → Placed text at ps → MatchOption given (ps ≡ []) (λ l. (rest : List (ℕ × Sign)) × ((ps ≡ (l.place, sign l.token) ∷ rest) × Placed text at' rest))
  pub group : IfSome given (λ l. (g : List ℕ) → sign l.token ≡ group g → IsGroupName g)
  pub end : MatchOption given (at' ≡ length text) (λ l. at' ≡ l.end)
  pub onward : IfSome given (λ _. (at < at') × (at' ≤ length text))
