-- A path is a slash and words joined by slashes.
use Rattle.std.proofs.Common.{◌≡◌, ℕ, ◌+◌, ◌<◌, ◌≤◌, true, nat_eq, List, [], ◌∷◌, ◌++◌, length, get_or, take, drop, take-append-drop, sym, refl, ap, ◌∙◌, subst, add-one, arith, eqb-true}
use Rattle.std.specs.Cmp.Lexicographic.{pointwise, same_text}
use Rattle.faults.specs.declared.fault.Fault.{Fault}
use Rattle.faults.specs.declared.kind.Kind.TheVariants.{PathUnlawful}
use Rattle.names.specs.Language.{Begins, Stuck}
use Rattle.names.specs.Words.{word_byte, Word, Joined, lone, linked}
use Rattle.names.specs.Paths.{IsPath, one, more}
use Rattle.names.specs.Faults.{fault, PathFault, stuck_path}
use Rattle.names.specs.Joints.{Unjoined}
use Rattle.names.proofs.Forms.{slash_byte}

pub path_of : {t : List ℕ} → Joined slash_byte t → IsPath (47 ∷ t)
path_of (lone h) = one h
path_of (linked {w = w} {t = t} {m = m} h is c) = subst (λ b. IsPath (47 ∷ (w ++ (b ∷ t)))) (sym (eqb-true m 47 is)) (more h (path_of c))

pub joined_of : {p : List ℕ} → IsPath p → (t : List ℕ) × ((p ≡ 47 ∷ t) × Joined slash_byte t)
joined_of (one {w = w} h) = (w, (refl, lone h))
joined_of (more {w = w} {path = path} h p) = let r = joined_of p in (w ++ path, (refl, subst (λ u. Joined slash_byte (w ++ u)) (sym r.1.0) (linked h refl r.1.1)))

tail : List ℕ → List ℕ
tail [] = []
tail (b ∷ bs) = bs

pub joined_rest : (t : List ℕ) → IsPath (47 ∷ t) → Joined slash_byte t
unfolding tail
joined_rest t p = let r = joined_of p in subst (Joined slash_byte) (sym (ap tail r.1.0)) r.1.1

-- past its slash, a path goes on as joined words do
path_stuck : (t : List ℕ) (p : ℕ) → Stuck (Joined slash_byte) t p → Stuck IsPath (47 ∷ t) (p + 1)
path_stuck t p s = record {
  within = omega (arith, s.within);
  before = subst (λ k. Begins IsPath (take k (47 ∷ t))) (sym (add-one p)) (s.before.0, path_of s.before.1);
  beyond = λ lt b.
      let b' : Begins IsPath (47 ∷ take (p + 1) t) = subst (λ k. Begins IsPath (take k (47 ∷ t))) (add-one (p + 1)) b in
      s.beyond (omega arith) (b'.0, joined_rest _ b'.1);
  short = λ e m. s.short (omega arith) (joined_rest t m);
}

pub path_slip : (text t : List ℕ) (f : Fault) → text ≡ 47 ∷ t → length text ≤ 64 → Unjoined slash_byte t f → PathFault text (fault PathUnlawful (f.place + 1))
path_slip text t f e le s =
    let k : f.place ≡ s.place = ap (λ g. g.place) s.told in
    subst (λ p. PathFault text (fault PathUnlawful (p + 1))) (sym k) (stuck_path le (subst (λ u. Stuck IsPath u (s.place + 1)) (sym e) (path_stuck t s.place s.stuck)))

-- what a text begins with, and the rest
pub slashed : (text words : List ℕ) → true ≡ pointwise nat_eq (take 1 text) (47 ∷ []) → words ≡ drop 1 text → text ≡ 47 ∷ words
slashed text words found rest = let begun = same_text (take 1 text) (47 ∷ []) found in sym (take-append-drop 1 text) ∙ (λ i. begun i ++ sym rest i)

letter : Word (97 ∷ [])
unfolding word_byte
letter = record { some = omega arith; few = omega arith; bytes = (refl, tt) }

-- a path begins with a slash
pub path_first : (text : List ℕ) → length text ≤ 64 → (take 1 text ≡ 47 ∷ [] → ⊥) → PathFault text (fault PathUnlawful 0)
path_first text le other = stuck_path le (record {
  within = omega arith;
  before = (47 ∷ 97 ∷ [], one letter);
  beyond = λ lt b. first text b.0 other lt (joined_of b.1);
  short = λ e p. let r = joined_of p in omega (arith, ap length r.1.0);
})
  where
    first : (u rest : List ℕ) → (take 1 u ≡ 47 ∷ [] → ⊥) → 0 < length u → (t : List ℕ) × ((take (0 + 1) u ++ rest ≡ 47 ∷ t) × Joined slash_byte t) → ⊥
    first [] rest out lt r = omega arith
    first (b ∷ u) rest out lt r = out (ap (λ l. get_or l 0 0 ∷ []) r.1.0)
