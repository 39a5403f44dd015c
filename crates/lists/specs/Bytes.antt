-- The bytes of list texts.
use Rattle.std.specs.Prelude.{◌≡◌, ℕ, ◌-◌, ◌<◌, ◌≤◌, Bool, true, false, cond, ◌||◌, List, [], ◌∷◌, length, take, drop, replicate, Some, None, Option, ◌==◌}
use Rattle.std.specs.List.{AllByRecursion}
use Rattle.names.specs.Words.{word_byte}
use Rattle.lists.specs.Trees.{Sign, atom, dot, at, plus, any, open_bracket, close_bracket, star, bar}

-- group names have word bytes, `$`, `/` and `.`
unfoldable pub group_byte : ℕ → Bool
group_byte b = word_byte b || b == 36 || b == 47 || b == 46

-- a group name is 1 to 32 of them
pub record IsGroupName (g : List ℕ) : Type 0 where
  pub some : 0 < length g
  pub few : length g ≤ 32
  pub bytes : AllByRecursion (λ b. group_byte b ≡ true) g

abbrev pub blanks : ℕ → List ℕ
blanks n = replicate n 32

-- the sign that a byte is by itself
unfoldable pub sign_of : ℕ → Option Sign
sign_of b =
    cond (b == 46) (Some (atom dot)) (cond (b == 64) (Some (atom at)) (cond (b == 43) (Some (atom plus)) (cond (b == 33) (Some (atom any)) (cond (b == 40) (Some open_bracket) (cond (b == 41) (Some close_bracket) (cond (b == 42) (Some star) (cond (b == 124) (Some bar) None)))))))

-- the text does not begin with a byte of this kind
abbrev pub Past : (ℕ → Bool) → List ℕ → Type 0
Past p [] = Unit {0}
Past p (b ∷ bs) = p b ≡ false

-- the part of a text from one place to another
abbrev pub part : List ℕ → ℕ → ℕ → List ℕ
part text i j = take (j - i) (drop i text)

-- a test tells of each byte whether it is of a kind
abbrev pub Tells : (ℕ → Bool → Type 0) → (ℕ → Bool) → Type 0
Tells answers p = (b : ℕ) (answer : Bool) → answers b answer → answer ≡ p b

-- all the bytes of the text from a place on that are of a kind, up to the first that is not
pub record Run (p : ℕ → Bool) (text : List ℕ) (i j : ℕ) : Type 0 where
  pub forward : i ≤ j
  pub within : j ≤ length text
  pub bytes : AllByRecursion (λ b. p b ≡ true) (part text i j)
  pub past : Past p (drop j text)
