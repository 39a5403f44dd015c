-- The paths above a path are those that lie above it, the longest first.
use Rattle.std.proofs.Common.{◌≡◌, ℕ, ◌<◌, ◌≤◌, ◌==◌, Bool, true, false, cond, List, [], ◌∷◌, ◌++◌, length, length-append, refl, sym, ap, ◌∙◌, subst, arith, append_assoc, ⊎_elim, inl}
use Rattle.std.proofs.lemmas.Bool.Decides.{nat_tests}
use mathlib.Core.Logic.{∥∥₁_map}
use Rattle.names.specs.Paths.{LawfulPath, LiesAbove, IsParent}
use Rattle.names.proofs.Above.{front_path, above_some}
use Rattle.histories.specs.Places.{fronts, paths_above}
use Rattle.histories.proofs.Members.{In, in_left, in_right, in_either, in_longer, longer_in, Falling, longer, longer_falling, falling_both}

slash : (b : ℕ) → (b == 47) ≡ true → b ≡ 47
slash b h = grind (arith, nat_tests)

last_front : (b : ℕ) (up : List ℕ) (t : Bool) → (b == 47) ≡ t → In up (cond t ([] ∷ []) []) → (up ≡ []) × (b ≡ 47)
last_front b up true e h = (⊎_elim (λ i. i) (λ i. absurd i) h, slash b e)
last_front b up false e h = absurd h

-- what stands before a slash
fronts_sound : (text up : List ℕ) → In up (fronts text) → (rest : List ℕ) × (text ≡ up ++ 47 ∷ rest)
fronts_sound [] up h = absurd h
fronts_sound (b ∷ text) up h =
    ⊎_elim
    (λ k. let w = longer_in b up (fronts text) k in
    let ih = fronts_sound text w.0 w.1.0 in
    (ih.0, ap (λ t. b ∷ t) ih.1 ∙ ap (λ t. t ++ 47 ∷ ih.0) (sym w.1.1)))
    (λ k. let w = last_front b up (b == 47) refl k in
    (text, ap (λ c. c ∷ text) w.1 ∙ ap (λ t. t ++ 47 ∷ text) (sym w.0)))
    (in_either up (longer b (fronts text)) (cond (b == 47) ([] ∷ []) []) h)

fronts_whole : (up rest : List ℕ) → In up (fronts (up ++ 47 ∷ rest))
fronts_whole [] rest = in_right [] (longer 47 (fronts rest)) ([] ∷ []) (inl refl)
fronts_whole (b ∷ up) rest = in_left (b ∷ up) (longer b (fronts (up ++ 47 ∷ rest))) _ (in_longer b up (fronts (up ++ 47 ∷ rest)) (fronts_whole up rest))

last_falling : (t : Bool) → Falling (cond t ([] ∷ []) [])
last_falling true = (λ y h. absurd h, tt)
last_falling false = tt

pub fronts_falling : (text : List ℕ) → Falling (fronts text)
fronts_falling [] = tt
fronts_falling (b ∷ text) =
    falling_both (longer b (fronts text)) (cond (b == 47) ([] ∷ []) []) (longer_falling b (fronts text) (fronts_falling text)) (last_falling (b == 47))
    (λ x y i j.
    let w = longer_in b x (fronts text) i in
    let e = ap length w.1.1 in
    let k = ap length (last_front b y (b == 47) refl j).0 in
    omega (arith, e, k))

-- the paths above a path lie above it, and no others do
pub above_lie : (path up : List ℕ) → ∥ LawfulPath path ∥₁ → In up (paths_above path) → LiesAbove up path
above_lie [] up lawful h = absurd h
above_lie (b ∷ text) up lawful h =
    let w = longer_in b up (fronts text) h in
    let s = fronts_sound text w.0 w.1.0 in
    let joined : b ∷ text ≡ up ++ 47 ∷ s.0 = ap (λ t. b ∷ t) s.1 ∙ ap (λ t. t ++ 47 ∷ s.0) (sym w.1.1) in
    let some = ap length w.1.1 in
    record {
      above = ∥∥₁_map lawful (λ l. front_path up s.0 l joined (omega (arith, some)));
      below = lawful;
      rest = s.0;
      joint = joined;
    }

pub lie_above : (path up : List ℕ) → LiesAbove up path → In up (paths_above path)
lie_above path [] h = absurd (above_some [] path h refl)
lie_above path (b ∷ u) h = subst (λ t. In (b ∷ u) (paths_above t)) (sym h.joint) (in_longer b u (fronts (u ++ 47 ∷ h.rest)) (fronts_whole u h.rest))

pub above_falling : (path : List ℕ) → Falling (paths_above path)
above_falling [] = tt
above_falling (b ∷ text) = longer_falling b (fronts text) (fronts_falling text)

-- what lies above a path is shorter
pub lie_shorter : (path up : List ℕ) → LiesAbove up path → length up < length path
lie_shorter path up h = let e = ap length h.joint in omega (arith, e, length-append up (47 ∷ h.rest))

longer_both : (b : ℕ) (xs ys : List (List ℕ)) → longer b (xs ++ ys) ≡ longer b xs ++ longer b ys
longer_both b [] ys = refl
longer_both b (x ∷ xs) ys = ap (λ l. (b ∷ x) ∷ l) (longer_both b xs ys)

-- what stands before a slash has the same fronts, and the text longer ones besides
fronts_split : (u rest : List ℕ) → (more : List (List ℕ)) × (fronts (u ++ 47 ∷ rest) ≡ more ++ (u ∷ fronts u))
fronts_split [] rest = (longer 47 (fronts rest), refl)
fronts_split (b ∷ u) rest =
    let s = fronts_split u rest in
    let last = cond (b == 47) ([] ∷ []) [] in (
      longer b s.0,
      ap (λ l. longer b l ++ last) s.1 ∙ ap (λ l. l ++ last) (longer_both b s.0 (u ∷ fronts u)) ∙ append_assoc (longer b s.0) ((b ∷ u) ∷ longer b (fronts u)) last,
    )

above_split : (path up : List ℕ) → LiesAbove up path → (more : List (List ℕ)) × (paths_above path ≡ more ++ (up ∷ paths_above up))
above_split path [] h = absurd (above_some [] path h refl)
above_split path (b ∷ u) h =
    let s = fronts_split u h.rest in
    (longer b s.0, ap paths_above h.joint ∙ ap (longer b) s.1 ∙ longer_both b s.0 (u ∷ fronts u))

-- the first of falling texts is the longest
no_more : (more : List (List ℕ)) (up : List ℕ) (ups : List (List ℕ)) → Falling (more ++ (up ∷ ups)) → ((other : List ℕ) → In other (more ++ (up ∷ ups)) → length other ≤ length up) → more ++ (up ∷ ups) ≡ up ∷ ups
no_more [] up ups fall le = refl
no_more (x ∷ more) up ups fall le =
    let lt : length up < length x = fall.0 up (in_right up more (up ∷ ups) (inl refl)) in
    let k : length x ≤ length up = le x (inl refl) in
    absurd (omega (arith, lt, k))

-- above a path lies its parent, and what lies above that
pub above_parent : (path up : List ℕ) → ∥ LawfulPath path ∥₁ → IsParent up path → paths_above path ≡ up ∷ paths_above up
above_parent path up lawful h =
    let s = above_split path up h.above in
    s.1 ∙ no_more s.0 up (paths_above up) (subst Falling s.1 (above_falling path)) (λ other i. h.longest other (above_lie path other lawful (subst (In other) (sym s.1) i)))

none_in : (ups : List (List ℕ)) → ((up : List ℕ) → In up ups → ⊥) → ups ≡ []
none_in [] h = refl
none_in (up ∷ ups) h = absurd (h up (inl refl))

-- above a path without a parent lies none
pub above_none : (path : List ℕ) → ∥ LawfulPath path ∥₁ → ((up : List ℕ) → LiesAbove up path → ⊥) → paths_above path ≡ []
above_none path lawful none = none_in (paths_above path) (λ up i. none up (above_lie path up lawful i))
