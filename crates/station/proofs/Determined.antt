-- A history determines the answers.
use Rattle.std.proofs.Common.{◌≡◌, ℕ, List, Some, None, Option, Result, Ok, Err, IsOk, refl, sym, ap, ◌∙◌, subst, inl, inr}
use denote.Ref.{Bor}
use Rattle.faults.specs.declared.fault.Fault.{Fault}
use Rattle.names.specs.Faults.{NameFault, PartialFault, PathFault}
use Rattle.names.proofs.OneFault.{one_name_fault, one_partial_fault, one_path_fault}
use Rattle.lists.specs.declared.list.AccessList.{AccessList}
use Rattle.lists.specs.Faults.{ListFault}
use Rattle.lists.proofs.OneFault.{one_fault}
use Rattle.histories.specs.Histories.{History}
use Rattle.histories.specs.Processes.{name_of, spawned, spawned_in_role}
use Rattle.histories.specs.Places.{Lists, posted, list_in_force}
use Rattle.station.specs.Checks.{Unless, InText, SecondFault, ProcessRowFault, PlaceRowFault}
use Rattle.station.specs.Answers.{EntryAnswer, OfProcess, OfPlace, StartAnswer, Lent}
use Rattle.station.specs.Laws.{One, SameLent, Determined}

abbrev OneFault : (Fault → Type 0) → Type 0
OneFault Found = (f g : Fault) → Found f → Found g → f ≡ g

-- where a check finds one fault at most, answers are alike if what is left of them is
unless_alike : {A : Type 0} (Alike : Result A Fault → Result A Fault → Type 0) (Found : Fault → Type 0) (Rest : Result A Fault → Type 0) → ((r : Result A Fault) → Alike r r) → OneFault Found → ((r s : Result A Fault) → Rest r → Rest s → Alike r s) → (r s : Result A Fault) → Unless Found r (Rest r) → Unless Found s (Rest s) → Alike r s
unless_alike Alike Found Rest self one rest r s (inl h) (inl k) = subst (Alike r) (h.1.1 ∙ ap Err (one h.0 k.0 h.1.0 k.1.0) ∙ sym k.1.1) (self r)
unless_alike Alike Found Rest self one rest r s (inl h) (inr k) = absurd (k.0 h.0 h.1.0)
unless_alike Alike Found Rest self one rest r s (inr h) (inl k) = absurd (h.0 k.0 k.1.0)
unless_alike Alike Found Rest self one rest r s (inr h) (inr k) = rest r s h.1 k.1

unless_one : {A : Type 0} (Found : Fault → Type 0) (Rest : Result A Fault → Type 0) → OneFault Found → One Rest → One (λ r. Unless Found r (Rest r))
unless_one Found Rest one rest = unless_alike (λ r s. r ≡ s) Found Rest (λ r. refl) one rest

text_one : (n : ℕ) (Found : Fault → Type 0) → OneFault Found → OneFault (InText n Found)
text_one n Found one f g h k = h.1.1 ∙ ap (λ (e : Fault). let t : Fault = record { kind = e.kind; text = n; place = e.place } in t) (one h.0 k.0 h.1.0 k.1.0) ∙ sym k.1.1

second_one : (second : Option (List ℕ)) → OneFault (SecondFault second)
second_one None f g h k = absurd h
second_one (Some text) f g h k = text_one 1 (ListFault text) (one_fault text) f g h k

entry_one : (past : History) (name : List ℕ) → One (EntryAnswer past name)
entry_one past name =
    unless_one (NameFault name) _ (one_name_fault name)
    (unless_one (ProcessRowFault past) _ (λ f g h k. h.told ∙ sym k.told)
    (λ r s h k. h ∙ sym k))

of_one : {A : Type 0} (o : Option (List ℕ)) (Rest : List ℕ → Result A Fault → Type 0) → ((name : List ℕ) → One (Rest name)) → One (λ r. OfProcess o r (λ name. Rest name r))
of_one None Rest one r s h k = h ∙ sym k
of_one (Some name) Rest one r s h k = one name r s h k

ok_one : One {A = Unit} (λ r. IsOk r)
ok_one (Ok x) (Ok y) h k = refl
ok_one (Ok x) (Err g) h k = cc
ok_one (Err f) s h k = cc

place_one : (o : Option Lists) → One (OfPlace o)
place_one None r s h k = h ∙ sym k
place_one (Some lists) r s h k = ok_one r s h k

start_one : (past : History) (program : List ℕ) → One (StartAnswer past program)
start_one past program = unless_one (PartialFault program) _ (one_partial_fault program) (entry_one past program)

same_lent : (r : Result (Bor AccessList) Fault) → SameLent r r
same_lent (Ok lent) = refl
same_lent (Err f) = refl

lent_one : (o : Option (List ℕ)) (r s : Result (Bor AccessList) Fault) → Lent o r → Lent o s → SameLent r s
lent_one None r s h k = subst (SameLent r) (h ∙ sym k) (same_lent r)
lent_one (Some list) (Ok lent) (Ok other) h k = h ∙ sym k
lent_one (Some list) (Ok lent) (Err g) h k = absurd k
lent_one (Some list) (Err f) s h k = absurd h

pub determined : (past : History) → Determined past
determined past = record {
  start = start_one past;
  spawn = λ parent program. of_one (name_of past parent) _ (λ name.
      unless_one (PartialFault program) _ (one_partial_fault program)
      (entry_one past (spawned name program)));
  spawn_in_role = λ parent role program. of_one (name_of past parent) _ (λ name.
      unless_one (PartialFault program) _ (one_partial_fault program)
      (unless_one (InText 1 (PartialFault role)) _ (text_one 1 (PartialFault role) (one_partial_fault role))
      (entry_one past (spawned_in_role name role program))));
  spawn_itself = λ parent program. of_one (name_of past parent) _ (λ name. start_one past program);
  end = λ process. of_one (name_of past process) _ (λ name. ok_one);
  post = λ path own second.
      unless_one (PathFault path) _ (one_path_fault path)
      (unless_one (ListFault own) _ (one_fault own)
      (unless_one (SecondFault second) _ (second_one second)
      (unless_one (PlaceRowFault past path) _ (λ f g h k. h.told ∙ sym k.told)
      ok_one)));
  unpost = λ path. unless_one (PathFault path) _ (one_path_fault path) (place_one (posted past path));
  force = λ path. unless_alike SameLent (PathFault path) _ same_lent (one_path_fault path) (lent_one (list_in_force past path));
}
