-- A station after a process was entered.
use Rattle.std.proofs.Common.{◌≡◌, ℕ, ◌+◌, ◌<◌, ◌==◌, true, false, cond, List, [], ◌∷◌, length, Some, None, Option, Result, Ok, Err, IfOk, OnErr, refl, sym, ap, ◌∙◌, subst, arith, ⊎_elim}
use Rattle.std.proofs.lemmas.Bool.{cond-false, cond-true, cases_Bool}
use Rattle.std.proofs.lemmas.Bool.Decides.{nat_tests}
use Rattle.std.proofs.lemmas.Option.{none-some}
use Rattle.std.specs.Option.{option_map}
use Rattle.faults.specs.declared.fault.Fault.{Fault}
use Rattle.texts.specs.Shown.{shown}
use Rattle.registers.specs.Rows.{found}
use Rattle.registers.specs.Registers.{rows_in_use, more}
use Rattle.histories.specs.Histories.{Call, History, Start, Spawn, SpawnInRole, SpawnItself}
use Rattle.histories.specs.Processes.{given, name_of, running, spawned, spawned_in_role}
use Rattle.histories.specs.Places.{posted, places}
use Rattle.histories.proofs.Numbers.{next_free}
use Rattle.station.specs.declared.process.Process.{Process}
use Rattle.station.specs.declared.station.Station.{Station}
use Rattle.station.specs.Checks.{ProcessRowFault}
use Rattle.station.specs.Answers.{OfProcess}
use Rattle.station.specs.Stations.{number_of, name_at, StationAfter, told, SameStation, Enters}

-- what a call that enters a process of this name adds to a history
pub record Adds (past : History) (call : Call) (name : List ℕ) : Type 0 where
  pub gives : given (call ∷ past) ≡ given past + 1
  pub takes : running (call ∷ past) ≡ running past + 1
  pub names : (p : ℕ) → name_of (call ∷ past) p ≡ cond (given past + 1 == p) (Some name) (name_of past p)
  pub lists : (path : List ℕ) → posted (call ∷ past) path ≡ posted past path
  pub rows : places (call ∷ past) ≡ places past

map_none : {A B : Type 0} (f : A → B) (o : Option A) → option_map f o ≡ None → o ≡ None
map_none f None h = refl
map_none f (Some x) h = absurd (none-some (f x) (sym h))

-- no row has the next number
pub next_row_free : (past : History) (s : Station) → StationAfter past s → found number_of (rows_in_use s.processes) ((s.given + 1) ∷ []) ≡ None
next_row_free past s h = map_none _ _ (h.names (s.given + 1) ∙ ap (λ (n : ℕ). name_of past (n + 1)) h.numbers ∙ next_free past)

same_number : (n p : ℕ) → (n == p) ≡ true → n ≡ p
same_number n p h = grind (arith, nat_tests)

other_key : (n p : ℕ) → (n == p) ≡ false → (let P : List ℕ = p ∷ [] in P) ≡ n ∷ [] → ⊥
other_key n p h e = let k : p ≡ n = cc in grind (arith, nat_tests)

entered_name : (name : List ℕ) (old new : Station) → Enters name old new → (p : ℕ) → name_at (rows_in_use new.processes) p ≡ cond (old.given + 1 == p) (Some name) (name_at (rows_in_use old.processes) p)
entered_name name old new e p =
    let at : ℕ → Option (List ℕ) = name_at (rows_in_use new.processes) in
    ⊎_elim
    (λ t. let is : e.row.number.0 ≡ p = e.numbered ∙ same_number (old.given + 1) p t in
    ap at (sym is) ∙ ap (option_map (λ (process : Process). shown process.name.text)) e.put.own ∙ ap Some e.named ∙ sym (cond-true _ _ _ t))
    (λ f. ap (option_map (λ (process : Process). shown process.name.text)) (e.put.others (p ∷ []) (λ k. other_key (old.given + 1) p f (k ∙ ap (λ (n : ℕ). n ∷ []) e.numbered))) ∙ sym (cond-false _ _ _ f))
    (cases_Bool (old.given + 1 == p))

entered_rows : (past : History) (name : List ℕ) (old new : Station) → Enters name old new → StationAfter past old → length (rows_in_use new.processes) ≡ running past + 1
entered_rows past name old new e h =
    let free : found number_of (rows_in_use old.processes) (number_of e.row) ≡ None = ap (λ (n : ℕ). found number_of (rows_in_use old.processes) (n ∷ [])) e.numbered ∙ next_row_free past old h in
    e.put.count ∙ ap (λ o. length (rows_in_use old.processes) + more o) free ∙ ap (λ (n : ℕ). n + 1) h.process_rows

pub entered_after : (past : History) (call : Call) (name : List ℕ) (old new : Station) → Adds past call name → Enters name old new → StationAfter past old → StationAfter (call ∷ past) new
entered_after past call name old new adds e h = record {
  names = λ p. entered_name name old new e p ∙ ap (λ (n : ℕ). cond (n + 1 == p) (Some name) (name_at (rows_in_use old.processes) p)) h.numbers ∙ ap (cond (given past + 1 == p) (Some name)) (h.names p) ∙ sym (adds.names p);
  lists = λ path. rw (e.kept.places.rows, e.kept.places.used) (h.lists path ∙ sym (adds.lists path));
  numbers = e.numbers ∙ ap (λ (n : ℕ). n + 1) h.numbers ∙ sym adds.gives;
  process_rows = entered_rows past name old new e h ∙ sym adds.takes;
  place_rows = rw (e.kept.places.rows, e.kept.places.used) (h.place_rows ∙ sym adds.rows);
}

pub same_after : (past : History) (old new : Station) → SameStation old new → StationAfter past old → StationAfter past new
same_after past old new s h = record {
  names = λ p. rw (s.processes.rows, s.processes.used) (h.names p);
  lists = λ path. rw (s.places.rows, s.places.used) (h.lists path);
  numbers = s.numbers ∙ h.numbers;
  process_rows = rw (s.processes.rows, s.processes.used) h.process_rows;
  place_rows = rw (s.places.rows, s.places.used) h.place_rows;
}

-- whatever the entering answers
pub told_after : {A : Type 0} (past : History) (call : Call) (name : List ℕ) (old new : Station) (result : Result A Fault) → Adds past call name → IfOk result (λ _. Enters name old new) → OnErr result (SameStation old new) → StationAfter past old → StationAfter (told result call past) new
told_after past call name old new (Ok x) adds e s h = entered_after past call name old new adds e h
told_after past call name old new (Err f) adds e s h = same_after past old new s h

-- where a row takes the next number, a row was free and a number left
pub no_row_fault : (past : History) (old : Station) → StationAfter past old → (found number_of (rows_in_use old.processes) ((old.given + 1) ∷ []) ≡ None → length (rows_in_use old.processes) < length old.processes.rows.now) → (old.given ≡ 4294967295 → ⊥) → (f : Fault) → ProcessRowFault past f → ⊥
no_row_fault past old h room left f r =
    let lt = room (next_row_free past old h) in
    ⊎_elim
    (λ k. omega (arith, lt, k, h.process_rows, old.process_rows))
    (λ k. left (h.numbers ∙ k))
    r.due

-- the process runs, so the rest decides
pub of_process : {A : Type 0} (o : Option (List ℕ)) (name : List ℕ) (result : Result A Fault) (Rest : List ℕ → Type 0) → o ≡ Some name → Rest name → OfProcess o result Rest
of_process o name result Rest is rest = subst (λ o. OfProcess o result Rest) (sym is) rest

pub start_adds : (past : History) (program : List ℕ) → Adds past (Start program) program
start_adds past program = record { gives = refl; takes = refl; names = λ p. refl; lists = λ path. refl; rows = refl }

pub itself_adds : (past : History) (p : ℕ) (program : List ℕ) → Adds past (SpawnItself p program) program
itself_adds past p program = record { gives = refl; takes = refl; names = λ q. refl; lists = λ path. refl; rows = refl }

pub spawn_adds : (past : History) (p : ℕ) (parent program : List ℕ) → name_of past p ≡ Some parent → Adds past (Spawn p program) (spawned parent program)
spawn_adds past p parent program is = record {
  gives = refl;
  takes = refl;
  names = λ q. ap (λ o. cond (given past + 1 == q) (option_map (λ name. spawned name program) o) (name_of past q)) is;
  lists = λ path. refl;
  rows = refl;
}

pub role_adds : (past : History) (p : ℕ) (parent role program : List ℕ) → name_of past p ≡ Some parent → Adds past (SpawnInRole p role program) (spawned_in_role parent role program)
role_adds past p parent role program is = record {
  gives = refl;
  takes = refl;
  names = λ q. ap (λ o. cond (given past + 1 == q) (option_map (λ name. spawned_in_role name role program) o) (name_of past q)) is;
  lists = λ path. refl;
  rows = refl;
}
