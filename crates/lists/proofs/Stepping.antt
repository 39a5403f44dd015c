-- A step of a walk over tokens.
use Rattle.std.proofs.Common.{◌≡◌, ℕ, ◌-◌, ◌<◌, ◌≤◌, Bool, true, false, List, [], ◌∷◌, length, IfSome, MatchOption, Some, None, Ok, Err, Option, Result, sym, refl, ap, ◌∙◌, subst, arith}
use borrow.Author.Tests.{clash}
use Rattle.std.specs.List.{AllByRecursion}
use Rattle.std.specs.Result.{result_ok}
use Rattle.faults.specs.declared.fault.Fault.{Fault}
use Rattle.lists.specs.declared.token.Lexeme.{Lexeme}
use Rattle.lists.specs.Trees.{Sign, atom, group, open_bracket, close_bracket, star, bar}
use Rattle.lists.specs.Bytes.{IsGroupName}
use Rattle.lists.specs.Tokens.{Shows, shows_word, shows_mark, shows_group}
use Rattle.lists.specs.Lexemes.{TokenAt, Next, Passes, is_blank}
use Rattle.lists.specs.Placed.{Placed, none, more, Walks}
use Rattle.lists.proofs.Machine.{sign_cases}
use Rattle.lists.proofs.Segments.{part_none, past_end}
use Rattle.lists.proofs.Placing.{token_unique, token_inside, placed_unique, fault_apart}

-- whether a sign is a group's
abbrev is_group : Sign → Bool
is_group (atom a) = false
is_group (group g) = true
is_group open_bracket = false
is_group close_bracket = false
is_group star = false
is_group bar = false

-- a group's sign is shown by a group name alone
shown_name : {u rest : List ℕ} {s : Sign} → Shows u rest s → (g : List ℕ) → s ≡ group g → IsGroupName g
shown_name (shows_word h p) g e = absurd (clash (ap is_group e))
shown_name (shows_mark {b = b} {s = s} is) g e = absurd (clash (sym (sign_cases (λ b s. is_group s ≡ false) refl refl refl refl refl refl refl refl b s is) ∙ ap is_group e))
shown_name (shows_group {g = h} x y name) g e = let same : h ≡ g = cc in subst IsGroupName same name

-- what is left after the first token
rest_left : (text : List ℕ) (at : ℕ) {p e : ℕ} {s : Sign} {ps : List (ℕ × Sign)} → TokenAt text at p e s → Placed text at ps → (rest : List (ℕ × Sign)) × ((ps ≡ (p, s) ∷ rest) × Placed text e rest)
rest_left text at t (none g) = absurd (token_inside text at g t)
rest_left text at t (more {ps = rest} t' r) =
    let u = token_unique text at t' t in
    (rest, ((λ i. (u.0 i, u.1.1 i) ∷ rest), subst (λ k. Placed text k rest) u.1.0 r))

-- nothing is left at the text's end
end_left : (text : List ℕ) → Placed text (length text) []
end_left text =
    let n = length text in
    none (record { forward = omega arith; within = omega arith; bytes = subst (AllByRecursion (λ b. is_blank b ≡ true)) (sym (part_none text n)) tt; past = past_end is_blank text n (omega arith) })

-- what a step does, and that the rest can be walked
pub record Stepped (text : List ℕ) (at : ℕ) (given : Option Lexeme) (at' : ℕ) : Type 0 where
  pub walks : Walks text at given text at'
  pub on : (ps : List (ℕ × Sign)) × Placed text at ps → (ps : List (ℕ × Sign)) × Placed text at' ps
  pub inside : at' ≤ length text
  pub falls : IfSome given (λ _. Unit {0} × Unit {0} × (length text - at' < length text - at))

pub stepped : (text : List ℕ) (at : ℕ) (given : Option Lexeme) (at' : ℕ) → Next text at given → MatchOption given (at' ≡ length text) (λ l. at' ≡ l.end) → Stepped text at given at'
stepped text at None at' g end = record {
  walks = record { kept = refl; found = g; token = λ ps r. placed_unique text at r (none g); group = tt; end = end; onward = tt };
  on = λ r. ([], subst (λ k. Placed text k []) (sym end) (end_left text));
  inside = omega arith;
  falls = tt;
}
stepped text at (Some l) at' t end = record {
  walks = record {
    kept = refl;
    found = t;
    token = λ ps r. let left = rest_left text at t r in (left.0, (left.1.0, subst (λ k. Placed text k left.0) (sym end) left.1.1));
    group = shown_name t.shows;
    end = end;
    onward = (omega (arith, t.gap.forward, t.some), omega (arith, t.within));
  };
  on = λ r. let left = rest_left text at t r.1 in (left.0, subst (λ k. Placed text k left.0) (sym end) left.1.1);
  inside = omega (arith, t.within);
  falls = (tt, tt, omega (arith, t.gap.forward, t.some, t.within));
}

-- what a reader found, and where it stands then
pub passed : (text : List ℕ) (at : ℕ) (r : Result (Option Lexeme) Fault) (given : Option Lexeme) (to : ℕ) → Passes text at to r → Some given ≡ result_ok r → Next text at given × MatchOption given (to ≡ length text) (λ l. to ≡ l.end)
passed text at (Ok o) None to p e = let same : o ≡ None = cc in subst (λ x. Passes text at to (Ok x)) same p
passed text at (Ok o) (Some l) to p e = let same : o ≡ Some l = cc in subst (λ x. Passes text at to (Ok x)) same p
passed text at (Err f) given to p e = let z : ◌≡◌ {A = ℕ} 0 1 = cc in absurd (omega arith)

-- where tokens go on to the text's end, a reader takes a step
pub passes_some : (text : List ℕ) (at : ℕ) (r : Result (Option Lexeme) Fault) (at' : ℕ) → (ps : List (ℕ × Sign)) × Placed text at ps → Passes text at at' r → None ≡ result_ok r → ⊥
passes_some text at (Ok o) at' row p e = let z : ◌≡◌ {A = ℕ} 0 1 = cc in omega arith
passes_some text at (Err f) at' row p e = fault_apart text at row.1 p.0
