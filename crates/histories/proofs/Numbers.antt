-- Numbers and names over all histories.
use Rattle.std.proofs.Common.{◌≡◌, ◌≢◌, ℕ, ◌+◌, ◌<◌, ◌≤◌, ◌==◌, Bool, true, false, cond, List, [], ◌∷◌, ◌++◌, Some, None, Option, refl, sym, ap, ◌∙◌, arith, ⊎_elim}
use Rattle.std.proofs.lemmas.Bool.{cond-false, cases_Bool}
use Rattle.std.proofs.lemmas.Bool.Decides.{nat_tests}
use Rattle.std.proofs.lemmas.Option.{same_Some, none-some}
use Rattle.histories.specs.Histories.{Call, History, Start, Spawn, SpawnInRole, SpawnItself, End}
use Rattle.histories.specs.Processes.{given, number_given, name_of}
use Rattle.histories.specs.Laws.{NumbersGivenOnce, NumbersOfProcesses, NamesStay, EndsStay}

-- a call gives the next number, or none and then no number is gone
data Gives (call : Call) (past : History) : Type 0 where
  next : number_given call past ≡ Some (given past + 1) → given (call ∷ past) ≡ given past + 1 → Gives call past
  none : number_given call past ≡ None → given (call ∷ past) ≡ given past → Gives call past

gives : (call : Call) (past : History) → Gives call past
gives (Start program) past = next refl refl
gives (Spawn parent program) past = next refl refl
gives (SpawnInRole parent role program) past = next refl refl
gives (SpawnItself parent program) past = next refl refl
gives _ past = none refl refl

grows : (call : Call) (past : History) → given past ≤ given (call ∷ past)
grows call past = elim (gives call past) [ next n g ↦ omega (arith, g) | none n g ↦ omega (arith, g) ]

pub given_grows : (between past : History) → given past ≤ given (between ++ past)
given_grows [] past = omega arith
given_grows (call ∷ between) past = let h = given_grows between past in let k = grows call (between ++ past) in omega (arith, h, k)

-- the number that is given is the next
number_next : (call : Call) (past : History) (n : ℕ) → number_given call past ≡ Some n → (n ≡ given past + 1) × (given (call ∷ past) ≡ n)
number_next call past n h = elim (gives call past) [
  | next e g ↦ (same_Some n (given past + 1) (sym h ∙ e), g ∙ same_Some (given past + 1) n (sym e ∙ h))
  | none e g ↦ absurd (none-some n (sym e ∙ h))
]

pub numbers_given_once : NumbersGivenOnce
numbers_given_once past between earlier later m n h k =
    let first = number_next earlier past m h in
    let second = number_next later (between ++ earlier ∷ past) n k in
    let grown = given_grows between (earlier ∷ past) in
    omega (arith, first.0, first.1, second.0, grown)

same_number : (n p : ℕ) → (n == p) ≡ true → n ≡ p
same_number n p h = grind (arith, nat_tests)

other_number : (n p : ℕ) → (n ≡ p → ⊥) → (n == p) ≡ false
other_number n p h = ⊎_elim (λ e. absurd (h (same_number n p e))) (λ e. e) (cases_Bool (n == p))

-- what is entered under the next number has a number that is given
entered : (past grown : History) (p : ℕ) (made : Option (List ℕ)) (name : List ℕ) → given grown ≡ given past + 1 → cond (given past + 1 == p) made (name_of past p) ≡ Some name → (name_of past p ≡ Some name → (0 < p) × (p ≤ given past)) → (0 < p) × (p ≤ given grown)
entered past grown p made name g h ih =
    ⊎_elim
    (λ e. let is = same_number (given past + 1) p e in (omega (arith, is), omega (arith, is, g)))
    (λ e. let w = ih (sym (cond-false _ _ _ e) ∙ h) in (w.0, omega (arith, w.1, g)))
    (cases_Bool (given past + 1 == p))

struck : (b : Bool) (o : Option (List ℕ)) (name : List ℕ) → cond b None o ≡ Some name → o ≡ Some name
struck true o name h = absurd (none-some name h)
struck false o name h = h

pub numbers_of_processes : NumbersOfProcesses
numbers_of_processes [] p name h = absurd (none-some name h)
numbers_of_processes (Start program ∷ past) p name h = entered past (Start program ∷ past) p _ name refl h (numbers_of_processes past p name)
numbers_of_processes (Spawn parent program ∷ past) p name h = entered past (Spawn parent program ∷ past) p _ name refl h (numbers_of_processes past p name)
numbers_of_processes (SpawnInRole parent role program ∷ past) p name h = entered past (SpawnInRole parent role program ∷ past) p _ name refl h (numbers_of_processes past p name)
numbers_of_processes (SpawnItself parent program ∷ past) p name h = entered past (SpawnItself parent program ∷ past) p _ name refl h (numbers_of_processes past p name)
numbers_of_processes (End process ∷ past) p name h = numbers_of_processes past p name (struck (process == p) _ name h)
numbers_of_processes (_ ∷ past) p name h = numbers_of_processes past p name h

-- a call names no process anew that has a number given before, unless it is its end
kept : (call : Call) (past : History) (p : ℕ) → p ≤ given past → call ≢ End p → name_of (call ∷ past) p ≡ name_of past p
kept (Start program) past p le ne = cond-false _ _ _ (other_number (given past + 1) p (λ e. omega (arith, e, le)))
kept (Spawn parent program) past p le ne = cond-false _ _ _ (other_number (given past + 1) p (λ e. omega (arith, e, le)))
kept (SpawnInRole parent role program) past p le ne = cond-false _ _ _ (other_number (given past + 1) p (λ e. omega (arith, e, le)))
kept (SpawnItself parent program) past p le ne = cond-false _ _ _ (other_number (given past + 1) p (λ e. omega (arith, e, le)))
kept (End process) past p le ne = cond-false _ _ _ (other_number process p (λ e. ne (ap End e)))
kept _ past p le ne = refl

pub names_stay : NamesStay
names_stay past [] p le h = refl
names_stay past (call ∷ between) p le h =
    let grown = given_grows between past in
    kept call (between ++ past) p (omega (arith, le, grown)) h.0 ∙ names_stay past between p le h.1

-- what has no name is given none by an end
none_struck : (b : Bool) (o : Option (List ℕ)) → o ≡ None → cond b None o ≡ None
none_struck true o h = refl
none_struck false o h = h

stays_none : (call : Call) (past : History) (p : ℕ) → p ≤ given past → name_of past p ≡ None → name_of (call ∷ past) p ≡ None
stays_none (Start program) past p le h = kept (Start program) past p le (λ e. cc) ∙ h
stays_none (Spawn parent program) past p le h = kept (Spawn parent program) past p le (λ e. cc) ∙ h
stays_none (SpawnInRole parent role program) past p le h = kept (SpawnInRole parent role program) past p le (λ e. cc) ∙ h
stays_none (SpawnItself parent program) past p le h = kept (SpawnItself parent program) past p le (λ e. cc) ∙ h
stays_none (End process) past p le h = none_struck (process == p) _ h
stays_none _ past p le h = h

pub ends_stay : EndsStay
ends_stay past [] p le h = h
ends_stay past (call ∷ between) p le h =
    let grown = given_grows between past in
    stays_none call (between ++ past) p (omega (arith, le, grown)) (ends_stay past between p le h)

free_by : (past : History) (o : Option (List ℕ)) → name_of past (given past + 1) ≡ o → o ≡ None
free_by past None h = refl
free_by past (Some name) h = let w = numbers_of_processes past (given past + 1) name h in absurd (omega (arith, w.1))

-- the next number names no process
pub next_free : (past : History) → name_of past (given past + 1) ≡ None
next_free past = free_by past (name_of past (given past + 1)) refl
