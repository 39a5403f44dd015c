-- Words: 1 to 32 bytes out of a–z, A–Z, 0–9, `-` and `_`.
use Rattle.std.specs.Prelude.{◌≡◌, ℕ, ◌+◌, ◌<◌, ◌≤◌, Bool, true, cond, ◌&&◌, ◌||◌, List, [], ◌∷◌, ◌++◌, length, ◌==◌, nat_le}
use Rattle.std.specs.List.{AllByRecursion}

unfoldable pub word_byte : ℕ → Bool
word_byte b = (nat_le 97 b && nat_le b 122) || (nat_le 65 b && nat_le b 90) || (nat_le 48 b && nat_le b 57) || b == 45 || b == 95

abbrev pub WordBytes : List ℕ → Type 0
WordBytes w = AllByRecursion (λ b. word_byte b ≡ true) w

pub record Word (w : List ℕ) : Type 0 where
  pub some : 0 < length w
  pub few : length w ≤ 32
  pub bytes : WordBytes w

-- words joined by single bytes of some kind
pub data Joined (joins : ℕ → Bool) : List ℕ → Type 0 where
  lone : {w : List ℕ} → Word w → Joined joins w
  linked : {w t : List ℕ} {m : ℕ} → Word w → joins m ≡ true → Joined joins t → Joined joins (w ++ (m ∷ t))

-- how many bytes are of some kind
abbrev pub count_of : (ℕ → Bool) → List ℕ → ℕ
count_of p [] = 0
count_of p (b ∷ bs) = cond (p b) 1 0 + count_of p bs
