-- Paths.
use Rattle.std.specs.Prelude.{◌≡◌, ℕ, ◌<◌, ◌≤◌, List, ◌∷◌, ◌++◌, length, slice_index, ◌≢◌}
use Rattle.names.specs.Words.{Word}

-- a path is one or more times `/` and a word
pub data IsPath : List ℕ → Type 0 where
  one : {w : List ℕ} → Word w → IsPath (47 ∷ w)
  more : {w path : List ℕ} → Word w → IsPath path → IsPath (47 ∷ (w ++ path))

-- a lawful path has at most 64 bytes
pub record LawfulPath (text : List ℕ) : Type 0 where
  pub form : IsPath text
  pub short : length text ≤ 64

-- a path lies above another, which goes on there with `/`
pub record LiesAbove (up path : List ℕ) : Type 0 where
  pub above : ∥ LawfulPath up ∥₁
  pub below : ∥ LawfulPath path ∥₁
  pub rest : List ℕ
  pub joint : path ≡ up ++ (47 ∷ rest)

-- the longest path that lies above another
pub record IsParent (up path : List ℕ) : Type 0 where
  pub above : LiesAbove up path
  pub longest : (other : List ℕ) → LiesAbove other path → length other ≤ length up

-- the place of the last `/` of a text
pub record LastSlash (text : List ℕ) (place : ℕ) : Type 0 where
  pub within : place < length text
  pub here : slice_index text place ≡ 47
  pub last : (i : ℕ) → place < i → i < length text → slice_index text i ≢ 47
