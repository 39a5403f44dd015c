-- A list text is signs with blanks between them.
use Rattle.std.specs.Prelude.{◌≡◌, ℕ, List, [], ◌∷◌, ◌++◌, Some}
use Rattle.names.specs.Words.{word_byte, Word}
use Rattle.lists.specs.Trees.{Sign, atom, word, group}
use Rattle.lists.specs.Bytes.{IsGroupName, blanks, sign_of, Past}

-- The bytes show the sign, and the rest follows them. A word goes on as long as word bytes do;
-- blanks may stand in the braces on both sides of a group name.
pub data Shows : List ℕ → List ℕ → Sign → Type 0 where
  shows_word : {w rest : List ℕ} → Word w → Past word_byte rest → Shows w rest (atom (word w))
  shows_mark : {b : ℕ} {rest : List ℕ} {s : Sign} → sign_of b ≡ Some s → Shows (b ∷ []) rest s
  shows_group : {g rest : List ℕ} (x y : ℕ) → IsGroupName g → Shows (123 ∷ (blanks x ++ (g ++ (blanks y ++ (125 ∷ []))))) rest (group g)

-- the signs of a text, in order
pub data Spells : List ℕ → List Sign → Type 0 where
  ends : (n : ℕ) → Spells (blanks n) []
  next : {bytes rest : List ℕ} {s : Sign} {ss : List Sign} (n : ℕ) → Shows bytes rest s → Spells rest ss → Spells (blanks n ++ (bytes ++ rest)) (s ∷ ss)
