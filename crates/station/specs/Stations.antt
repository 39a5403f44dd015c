-- A station as it is after a history, and what a call leaves of it.
use Rattle.std.specs.Prelude.{◌≡◌, ℕ, ◌+◌, List, [], ◌∷◌, length, Option, Result, Ok, Err}
use Rattle.std.specs.Option.{option_map}
use Rattle.faults.specs.declared.fault.Fault.{Fault}
use Rattle.texts.specs.Shown.{shown}
use Rattle.registers.specs.Rows.{found}
use Rattle.registers.specs.Registers.{rows_in_use, Puts, Kept, Same}
use Rattle.histories.specs.Histories.{Call, History}
use Rattle.histories.specs.Processes.{given, name_of, running}
use Rattle.histories.specs.Places.{Lists, Postings, posted, places}
use Rattle.station.specs.declared.process.Process.{Process}
use Rattle.station.specs.declared.place.Place.{Place}
use Rattle.station.specs.declared.station.Station.{Station}

-- what the rows say: the name of a process, and the lists of a path
abbrev pub number_of : Process → List ℕ
number_of process = process.number.0 ∷ []

abbrev pub name_at : List Process → ℕ → Option (List ℕ)
name_at rows p = option_map (λ (process : Process). shown process.name.text) (found number_of rows (p ∷ []))

abbrev pub path_of : Place → List ℕ
path_of place = shown place.path.text

abbrev pub lists_of : Place → Lists
lists_of place = record { own = shown place.own.text; second = option_map (λ list. shown list.text) place.second }

abbrev pub lists_at : List Place → Postings
lists_at rows path = option_map lists_of (found path_of rows path)

-- the station has the names, the lists and the numbers of this history, and takes as many rows
pub record StationAfter (past : History) (s : Station) : Type 0 where
  pub names : (p : ℕ) → name_at (rows_in_use s.processes) p ≡ name_of past p
  pub lists : (path : List ℕ) → lists_at (rows_in_use s.places) path ≡ posted past path
  pub numbers : s.given ≡ given past
  pub process_rows : length (rows_in_use s.processes) ≡ running past
  pub place_rows : length (rows_in_use s.places) ≡ places past

-- the history after a call: longer by the call, unless it was refused
abbrev pub told : {A : Type 0} → Result A Fault → Call → History → History
told (Ok answer) call past = call ∷ past
told (Err fault) call past = past

-- nothing has changed
pub record SameStation (old new : Station) : Type 0 where
  pub processes : Same old.processes new.processes
  pub places : Same old.places new.places
  pub numbers : new.given ≡ old.given

-- no row past the processes that run has changed, and no place
pub record ProcessesKept (old new : Station) : Type 0 where
  pub processes : Kept old.processes new.processes
  pub places : Same old.places new.places

-- no row past the places has changed, and no process and no number
pub record PlacesKept (old new : Station) : Type 0 where
  pub processes : Same old.processes new.processes
  pub places : Kept old.places new.places
  pub numbers : new.given ≡ old.given

-- the rows are the ones that were lent
pub record SameRows (old new : Station) : Type 0 where
  pub processes : new.processes.rows.ghost_name ≡ old.processes.rows.ghost_name
  pub places : new.places.rows.ghost_name ≡ old.places.rows.ghost_name

-- a process of this name is entered under the next number
pub record Enters (name : List ℕ) (old new : Station) : Type 0 where
  pub row : Process
  pub numbered : row.number.0 ≡ old.given + 1
  pub named : shown row.name.text ≡ name
  pub put : Puts number_of row old.processes new.processes
  pub kept : ProcessesKept old new
  pub numbers : new.given ≡ old.given + 1
