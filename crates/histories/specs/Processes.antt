-- The processes after a history: which numbers were given, which processes run, and what their names are.
use Rattle.std.specs.Prelude.{ℕ, ◌+◌, ◌-◌, ◌==◌, cond, List, [], ◌∷◌, ◌++◌, Some, None, Option}
use Rattle.std.specs.Option.{option_map}
use Rattle.histories.specs.Histories.{Call, History, Start, Spawn, SpawnInRole, SpawnItself, End}

-- the name that a spawn makes: `parent+program`, or in a role `parent@role+program`
abbrev pub spawned : List ℕ → List ℕ → List ℕ
spawned parent program = parent ++ 43 ∷ program

abbrev pub spawned_in_role : List ℕ → List ℕ → List ℕ → List ℕ
spawned_in_role parent role program = parent ++ 64 ∷ role ++ 43 ∷ program

-- how many numbers were given: start and the three spawns give the next one each
abbrev pub given : History → ℕ
given [] = 0
given (Start program ∷ past) = given past + 1
given (Spawn parent program ∷ past) = given past + 1
given (SpawnInRole parent role program ∷ past) = given past + 1
given (SpawnItself parent program ∷ past) = given past + 1
given (_ ∷ past) = given past

-- the number that the next process gets
abbrev pub next_number : History → ℕ
next_number past = given past + 1

-- the number that a call gives after a history, if it gives one
abbrev pub number_given : Call → History → Option ℕ
number_given (Start program) past = Some (next_number past)
number_given (Spawn parent program) past = Some (next_number past)
number_given (SpawnInRole parent role program) past = Some (next_number past)
number_given (SpawnItself parent program) past = Some (next_number past)
number_given _ past = None

-- The name of the process that runs under a number. A start or a spawn enters the name of its form under the next number, and
-- an end strikes its process out.
abbrev pub name_of : History → ℕ → Option (List ℕ)
name_of [] p = None
name_of (Start program ∷ past) p = cond (next_number past == p) (Some program) (name_of past p)
name_of (Spawn parent program ∷ past) p =
    cond (next_number past == p) (option_map (λ name. spawned name program) (name_of past parent)) (name_of past p)
name_of (SpawnInRole parent role program ∷ past) p =
    cond (next_number past == p) (option_map (λ name. spawned_in_role name role program) (name_of past parent)) (name_of past p)
name_of (SpawnItself parent program ∷ past) p = cond (next_number past == p) (Some program) (name_of past p)
name_of (End process ∷ past) p = cond (process == p) None (name_of past p)
name_of (_ ∷ past) p = name_of past p

-- how many processes run: each takes a row, and an end frees it
abbrev pub running : History → ℕ
running [] = 0
running (Start program ∷ past) = running past + 1
running (Spawn parent program ∷ past) = running past + 1
running (SpawnInRole parent role program ∷ past) = running past + 1
running (SpawnItself parent program ∷ past) = running past + 1
running (End process ∷ past) = running past - 1
running (_ ∷ past) = running past
