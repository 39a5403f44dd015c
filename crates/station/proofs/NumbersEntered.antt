-- A number that is answered is the next one, and the process that was asked for has it.
use Rattle.std.proofs.Common.{◌≡◌, ℕ, ◌==◌, true, List, Some, None, Option, Ok, refl, sym, ap, ◌∙◌, arith, inl, inr}
use Rattle.std.proofs.lemmas.Bool.{cond-true}
use Rattle.std.proofs.lemmas.Bool.Decides.{nat_tests}
use Rattle.faults.specs.declared.fault.Fault.{Fault}
use Rattle.names.specs.Faults.{NameFault, PartialFault}
use Rattle.histories.specs.Histories.{Call, History, Start, Spawn, SpawnInRole, SpawnItself}
use Rattle.histories.specs.Processes.{next_number, number_given, name_of, spawned, spawned_in_role}
use Rattle.station.specs.declared.number.ProcessNumber.{ProcessNumber}
use Rattle.station.specs.Checks.{Unless, InText, ProcessRowFault}
use Rattle.station.specs.Answers.{EntryAnswer, OfProcess, StartAnswer}
use Rattle.station.specs.Laws.{Entered, EnteredBy, NumbersEntered}
use Rattle.station.proofs.Entries.{Adds, start_adds, itself_adds, spawn_adds, role_adds}

same_is : (n p : ℕ) → n ≡ p → (n == p) ≡ true
same_is n p h = grind (arith, nat_tests)

-- what is answered is no fault, so the rest holds
passed : {A : Type 0} (Found : Fault → Type 0) (x : A) (Rest : Type 0) → Unless Found (Ok x) Rest → Rest
passed Found x Rest (inl h) = let e = h.1.1 in cc
passed Found x Rest (inr h) = h.1

of_some : {A : Type 0} (o : Option (List ℕ)) (x : A) (Rest : List ℕ → Type 0) → OfProcess o (Ok x) Rest → (name : List ℕ) × ((o ≡ Some name) × Rest name)
of_some None x Rest h = cc
of_some (Some name) x Rest h = (name, (refl, h))

module _ (past : History) (n : ProcessNumber) where
  entry_number : (name : List ℕ) → EntryAnswer past name (Ok n) → n.0 ≡ next_number past
  entry_number name h = let e = passed (ProcessRowFault past) n _ (passed (NameFault name) n _ h) in cc

  entered : (call : Call) (name : List ℕ) → Adds past call name → number_given call past ≡ Some (next_number past) → EntryAnswer past name (Ok n) → Entered past call name n.0
  entered call name adds is h =
      let e = entry_number name h in
      record { number_is_next = is ∙ ap Some (sym e); named = adds.names n.0 ∙ cond-true _ _ _ (same_is (next_number past) n.0 (sym e)) }

  entered_by : (parent : ℕ) (call : Call) (made : List ℕ → List ℕ) → ((name : List ℕ) → name_of past parent ≡ Some name → Adds past call (made name)) → number_given call past ≡ Some (next_number past) → (name : List ℕ) × ((name_of past parent ≡ Some name) × EntryAnswer past (made name) (Ok n)) → EnteredBy past parent call made n.0
  entered_by parent call made adds is w = (w.0, (w.1.0, entered call (made w.0) (adds w.0 w.1.0) is w.1.1))

  start_entry : (program : List ℕ) → StartAnswer past program (Ok n) → EntryAnswer past program (Ok n)
  start_entry program h = passed (PartialFault program) n _ h

pub numbers_entered : (past : History) (n : ProcessNumber) → NumbersEntered past n
numbers_entered past n = record {
  start = λ program h. entered past n (Start program) program (start_adds past program) refl (start_entry past n program h);
  spawn = λ parent program h.
      let w = of_some (name_of past parent) n _ h in
      entered_by past n parent (Spawn parent program) (λ name. spawned name program) (λ name is. spawn_adds past parent name program is) refl
      (w.0, (w.1.0, passed (PartialFault program) n _ w.1.1));
  spawn_in_role = λ parent role program h.
      let w = of_some (name_of past parent) n _ h in
      entered_by past n parent (SpawnInRole parent role program) (λ name. spawned_in_role name role program) (λ name is. role_adds past parent name role program is) refl
      (w.0, (w.1.0, passed (InText 1 (PartialFault role)) n _ (passed (PartialFault program) n _ w.1.1)));
  spawn_itself = λ parent program h.
      let w = of_some (name_of past parent) n _ h in
      entered_by past n parent (SpawnItself parent program) (λ name. program) (λ name is. itself_adds past parent program) refl
      (w.0, (w.1.0, start_entry past n program w.1.1));
}
