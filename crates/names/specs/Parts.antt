-- Walking the parts of a name, from its front.
use Rattle.std.specs.Prelude.{◌≡◌, ℕ, ◌<◌, ◌≤◌, true, false, List, [], ◌∷◌, ◌++◌, length, None, Option, MatchOption, slice_index}
use Rattle.names.specs.declared.part.Part.{Part as WalkedPart}
use Rattle.names.specs.declared.part.Part.TheVariants.{Word, Dot, At, Plus}
use Rattle.names.specs.Words.{word_byte}
use Rattle.names.specs.Names.{Part, word, dot, at, plus, spell, Steps}

-- the part that a walk shows
abbrev pub part_of : WalkedPart → Part
part_of (Word w) = word w.now
part_of Dot = dot
part_of At = at
part_of Plus = plus

-- a part of a name begins at the place, or the name ends there
abbrev pub AtPart : List ℕ → ℕ → Type 0
AtPart text place = (front back : List Part) × (Steps (front ++ back) × ((spell (front ++ back) ≡ text) × (place ≡ length (spell front))))

-- the word bytes from a place on end at another
pub record WordEnd (text : List ℕ) (place end : ℕ) : Type 0 where
  pub forward : place ≤ end
  pub within : end ≤ length text
  pub bytes : (k : ℕ) → place ≤ k → k < end → word_byte (slice_index text k) ≡ true
  pub past : end < length text → word_byte (slice_index text end) ≡ false

-- One step of a walk that stands at a place of a text. Where the text is a name's and a part of it begins at the
-- place, the step gives the place and the part, and then stands behind it. At the end it gives none, and stays.
pub record Walks (text : List ℕ) (place : ℕ) (given : Option (ℕ × WalkedPart)) (text' : List ℕ) (place' : ℕ) : Type 0 where
  pub kept : text' ≡ text
  pub part : (front : List Part) (p : Part) (back : List Part) → Steps (front ++ (p ∷ back)) → spell (front ++ (p ∷ back)) ≡ text → place ≡ length (spell front) → MatchOption given ⊥ (λ g. (g.0 ≡ place) × (part_of g.1 ≡ p) × (place' ≡ length (spell (front ++ (p ∷ [])))))
  pub end : length text ≤ place → (given ≡ None) × (place' ≡ place)
