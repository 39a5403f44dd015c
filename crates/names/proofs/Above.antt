-- A path lies above another where a slash goes on behind it.
use Rattle.std.proofs.Common.{◌≡◌, ◌≢◌, ℕ, ◌+◌, ◌<◌, ◌≤◌, List, [], ◌∷◌, ◌++◌, length, get_or, take, drop, slice_index, Some, None, Option, sym, refl, ap, ◌∙◌, subst, ⊎_elim, arith}
use mathlib.Core.HLevel.{⊥_prop}
use mathlib.Core.Logic.{∥∥₁_map, ∥∥₁_elim}
use Rattle.std.proofs.lemmas.Bool.{cases_lt}
use Rattle.std.proofs.lemmas.List.{take-append-drop, drop_more, length-take-le, length-append}
use Rattle.names.specs.Words.{Joined}
use Rattle.names.specs.Machine.{run}
use Rattle.names.specs.Paths.{IsPath, LawfulPath, LiesAbove, IsParent, LastSlash}
use Rattle.names.proofs.Machine.{run_append, never}
use Rattle.names.proofs.Chains.{step, reads, step_due, chain_reads, chain_of}
use Rattle.names.proofs.Forms.{slash_byte, slash_apart}
use Rattle.names.proofs.Slashes.{path_of, joined_of}

-- what stands before a slash is joined words too
front_joined : (u r : List ℕ) → Joined slash_byte (u ++ (47 ∷ r)) → Joined slash_byte u
front_joined u r c =
    let a = chain_reads slash_byte slash_apart c in
    by (reads slash_byte u) refl a.0 (sym (run_append (step slash_byte) (Some 0) u (47 ∷ r)) ∙ a.2)
  where
    by : (o : Option ℕ) → reads slash_byte u ≡ o → (k : ℕ) → run (step slash_byte) o (47 ∷ r) ≡ Some k → Joined slash_byte u
    by None e k h = absurd (never (step slash_byte) r h)
    by (Some m) e k h = ⊎_elim (λ some. chain_of slash_byte u m some e) (λ none. absurd (never (step slash_byte) r (sym (ap (λ o. run (step slash_byte) o r) (step_due slash_byte m 47 (slash_apart 47 refl) (omega arith))) ∙ h))) (cases_lt 0 m)

-- what stands before a slash of a path is a path, unless nothing does
pub front_path : {path : List ℕ} (up rest : List ℕ) → LawfulPath path → path ≡ up ++ (47 ∷ rest) → 0 < length up → LawfulPath up
front_path [] rest h e some = absurd (omega arith)
front_path {path} (b ∷ u) rest h e some =
    let j = joined_of h.form in
    let whole : ◌≡◌ {A = List ℕ} (b ∷ (u ++ (47 ∷ rest))) (47 ∷ j.0) = sym e ∙ j.1.0 in
    let first : b ≡ 47 = ap (λ l. get_or l 0 0) whole in
    let words : u ++ (47 ∷ rest) ≡ j.0 = ap (drop 1) whole in
    let form : IsPath (47 ∷ u) = path_of (front_joined u rest (subst (Joined slash_byte) (sym words) j.1.1)) in
    record { form = subst (λ c. IsPath (c ∷ u)) (sym first) form; short = omega (arith, length-append (b ∷ u) (47 ∷ rest), h.short, ap length e) }

-- a path that lies above another ends at a slash of it, and has some bytes
slash_behind : (up rest : List ℕ) → slice_index (up ++ (47 ∷ rest)) (length up) ≡ 47
slash_behind [] rest = refl
slash_behind (b ∷ up) rest = slash_behind up rest

above_place : (up path : List ℕ) → LiesAbove up path → slice_index path (length up) ≡ 47
above_place up path a = ap (λ t. slice_index t (length up)) a.joint ∙ slash_behind up a.rest

above_short : (up path : List ℕ) → LiesAbove up path → length up < length path
above_short up path a = omega (arith, length-append up (47 ∷ a.rest), ap length a.joint)

pub above_some : (up path : List ℕ) → LiesAbove up path → length up ≡ 0 → ⊥
above_some up path a none = ∥∥₁_elim a.above ⊥_prop (λ h. let j = joined_of h.form in omega (arith, ap length j.1.0))

-- no path lies above one without a slash, and none that ends behind the last slash
pub none_above : (path : List ℕ) → ((i : ℕ) → i < length path → slice_index path i ≢ 47) → (up : List ℕ) → LiesAbove up path → ⊥
none_above path lacks up a = lacks (length up) (above_short up path a) (above_place up path a)

pub above_bound : (path : List ℕ) (place : ℕ) → LastSlash path place → (up : List ℕ) → LiesAbove up path → length up ≤ place
above_bound path place s up a = ⊎_elim (λ past. absurd (s.last (length up) past (above_short up path a) (above_place up path a))) (λ le. omega arith) (cases_lt place (length up))

-- a text that is cut at a slash
cut : (path : List ℕ) (place : ℕ) → LastSlash path place → path ≡ take place path ++ (47 ∷ drop (place + 1) path)
cut path place s = sym (take-append-drop place path) ∙ ap (λ l. take place path ++ l) (drop_more path place 0 s.within ∙ ap (λ b. b ∷ drop (place + 1) path) s.here)

front_long : (path : List ℕ) (place : ℕ) → LastSlash path place → length (take place path) ≡ place
front_long path place s = length-take-le place path (omega (arith, s.within))

pub parent_lawful : (path : List ℕ) (place : ℕ) → LastSlash path place → 0 < place → ∥ LawfulPath path ∥₁ → ∥ LawfulPath (take place path) ∥₁
parent_lawful path place s some h = ∥∥₁_map h (λ l. front_path (take place path) (drop (place + 1) path) l (cut path place s) (omega (arith, front_long path place s)))

-- what stands before the last slash is the parent
pub parent_of : (path : List ℕ) (place : ℕ) → LastSlash path place → 0 < place → ∥ LawfulPath path ∥₁ → IsParent (take place path) path
parent_of path place s some h = record {
  above = record { above = parent_lawful path place s some h; below = h; rest = drop (place + 1) path; joint = cut path place s };
  longest = λ other a. omega (arith, front_long path place s, above_bound path place s other a);
}
