-- The rows in use are those of the processes that run, and of the posted paths.
use Rattle.std.proofs.Common.{◌≡◌, ℕ, Bool, true, false, cond, List, [], ◌∷◌, length, map, is_some, Some, None, Option, refl, sym, ap, ◌∙◌, ⊎_elim, inl, inr}
use Rattle.std.proofs.lemmas.Bool.{cases_Bool, cond-true, cond-false}
use Rattle.std.proofs.lemmas.List.{length-map}
use borrow.Author.Tests.{clash}
use Rattle.std.specs.Option.{option_map}
use Rattle.registers.specs.Order.{same}
use Rattle.registers.specs.Rows.{Rising, found}
use Rattle.registers.specs.Registers.{rows_in_use}
use Rattle.registers.proofs.Orders.{same_self, same_equal}
use Rattle.registers.proofs.Sorts.{Sorted, from_rising}
use Rattle.registers.proofs.Tables.{ahead_none}
use Rattle.histories.specs.Histories.{History}
use Rattle.histories.specs.Processes.{name_of, running}
use Rattle.histories.specs.Places.{posted, places}
use Rattle.station.specs.declared.process.Process.{Process}
use Rattle.station.specs.declared.station.Station.{Station}
use Rattle.station.specs.Stations.{path_of, lists_of, StationAfter}
use Rattle.station.specs.Laws.{Among, Distinct, HasKeys, RowsCounted}

is_some_map : {A B : Type 0} (f : A → B) (o : Option A) → is_some (option_map f o) ≡ is_some o
is_some_map f None = refl
is_some_map f (Some x) = refl

some_cond : {A : Type 0} (b : Bool) (x : A) (o : Option A) → is_some o ≡ true → is_some (cond b (Some x) o) ≡ true
some_cond true x o h = refl
some_cond false x o h = h

-- rows whose keys are made from labels, one key from one label
module _ {R K : Type 0} (label : R → K) (code : K → List ℕ) (apart : (j k : K) → code j ≡ code k → j ≡ k) where
  abbrev key : R → List ℕ
  key row = code (label row)

  some_among : (rows : List R) (k : K) → is_some (found key rows (code k)) ≡ true → Among k (map label rows)
  some_among [] k h = absurd (clash h)
  some_among (x ∷ rows) k h =
      ⊎_elim
      (λ t. inl (sym (apart (label x) k (same_equal (key x) (code k) t))))
      (λ f. inr (some_among rows k (sym (ap is_some (cond-false _ _ _ f)) ∙ h)))
      (cases_Bool (same (key x) (code k)))

  among_some : (rows : List R) (k : K) → Among k (map label rows) → is_some (found key rows (code k)) ≡ true
  among_some [] k h = absurd h
  among_some (x ∷ rows) k h =
      ⊎_elim
      (λ e. ap is_some (cond-true _ _ _ (ap (λ j. same (key x) (code j)) e ∙ same_self (key x))))
      (λ i. some_cond (same (key x) (code k)) x (found key rows (code k)) (among_some rows k i))
      h

  distinct : (rows : List R) → Sorted key rows → Distinct (map label rows)
  distinct [] s = tt
  distinct (x ∷ rows) s = (
    λ i. clash (sym (ap is_some (ahead_none key (key x) rows s.0)) ∙ among_some rows (label x) i),
    distinct rows s.1,
  )

  has_keys : {V : Type 0} (table : K → Option V) (value : R → V) (rows : List R) (count : ℕ) → Rising key rows → ((k : K) → option_map value (found key rows (code k)) ≡ table k) → length rows ≡ count → HasKeys table count
  has_keys table value rows count rise is size = record {
    keys = map label rows;
    distinct = distinct rows (from_rising key rows rise);
    all = λ k.
        let e : is_some (table k) ≡ is_some (found key rows (code k)) = ap is_some (sym (is k)) ∙ is_some_map value (found key rows (code k)) in
        (λ h. some_among rows k (sym e ∙ h), λ i. e ∙ among_some rows k i);
    counted = length-map rows label ∙ size;
  }

pub rows_counted : (past : History) (s : Station) → StationAfter past s → RowsCounted past
rows_counted past s h = record {
  running = has_keys (λ (process : Process). process.number.0) (λ n. n ∷ []) (λ j k e. cc) (name_of past) _ (rows_in_use s.processes) (running past) s.processes.ordered h.names h.process_rows;
  places = has_keys path_of (λ path. path) (λ j k e. e) (posted past) lists_of (rows_in_use s.places) (places past) s.places.ordered h.lists h.place_rows;
}
