-- The places after a history: which lists are posted, and which list is in force for a path.
use Rattle.std.specs.Prelude.{ℕ, ◌+◌, ◌-◌, ◌==◌, cond, List, [], ◌∷◌, ◌++◌, map, is_some, Some, None, Option, unwrap_or}
use Rattle.std.specs.Option.{option_map}
use Rattle.std.specs.Str.{bytes_eq}
use Rattle.histories.specs.Histories.{History, Post, Unpost}

-- the lists that are posted at a path: its own, and the one for what lies below, where it was given
pub record Lists : Type 0 where
  pub own : List ℕ
  pub second : Option (List ℕ)

-- the list for what lies below: the second, or the own where the second is absent
abbrev pub list_below : Lists → List ℕ
list_below lists = unwrap_or lists.second lists.own

-- which lists are posted at each path
abbrev pub Postings : Type 0
Postings = List ℕ → Option Lists

-- a post sets both lists of its path, and an unpost takes them away
abbrev pub posted : History → Postings
posted [] path = None
posted (Post at own second ∷ past) path = cond (bytes_eq at path) (Some (record { own = own; second = second })) (posted past path)
posted (Unpost at ∷ past) path = cond (bytes_eq at path) None (posted past path)
posted (_ ∷ past) path = posted past path

-- how many paths have lists: each takes a row, and an unpost frees it
abbrev pub places : History → ℕ
places [] = 0
places (Post at own second ∷ past) = cond (is_some (posted past at)) (places past) (places past + 1)
places (Unpost at ∷ past) = places past - 1
places (_ ∷ past) = places past

-- what stands before each `/` of a text, the longest first
abbrev pub fronts : List ℕ → List (List ℕ)
fronts [] = []
fronts (b ∷ rest) = map (λ front. b ∷ front) (fronts rest) ++ cond (b == 47) ([] ∷ []) []

-- the paths that are made of a path's first words, the longest first
abbrev pub paths_above : List ℕ → List (List ℕ)
paths_above [] = []
paths_above (b ∷ rest) = map (λ front. b ∷ front) (fronts rest)

abbrev pub or_next : Option (List ℕ) → Option (List ℕ) → Option (List ℕ)
or_next (Some list) next = Some list
or_next None next = next

-- the list that the first posted one of these paths has for what lies below it
abbrev pub first_below : Postings → List (List ℕ) → Option (List ℕ)
first_below postings [] = None
first_below postings (up ∷ ups) = or_next (option_map list_below (postings up)) (first_below postings ups)

-- the list in force for a path: its own if it is posted; else the longest posted path above it decides
abbrev pub in_force : Postings → List ℕ → Option (List ℕ)
in_force postings path = or_next (option_map (λ lists. lists.own) (postings path)) (first_below postings (paths_above path))

abbrev pub list_in_force : History → List ℕ → Option (List ℕ)
list_in_force past path = in_force (posted past) path
