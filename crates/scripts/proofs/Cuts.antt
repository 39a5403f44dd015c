-- A text is cut at its first byte of a kind in one way, and where it has such a byte.
use Rattle.std.proofs.Common.{◌≡◌, ℕ, suc, List, [], ◌∷◌, ◌++◌, length, get_or, sym, refl, ap, ◌∙◌, subst, arith}
use Rattle.std.proofs.lemmas.List.{length-append, get_or_at}
use Rattle.scripts.specs.Lines.{Lacks, Cut}

-- a text that is cut at a byte has it
pub cut_has : {x : ℕ} {text before after : List ℕ} → Cut x text before after → Lacks x text → ⊥
cut_has {x = x} {before = a} {after = b} cut lacks =
    subst (Lacks x) cut.whole lacks (length a) (simp length-append (omega arith)) (get_or_at a x b 0 (length a) refl)

once : (x : ℕ) (a b c d : List ℕ) → Lacks x a → Lacks x c → a ++ (x ∷ b) ≡ c ++ (x ∷ d) → (a ≡ c) × (b ≡ d)
once x [] b [] d h k e = (refl, cc)
once x [] b (y ∷ c) d h k e = absurd (k 0 (omega arith) (ap (λ l. get_or l 0 0) (sym e)))
once x (y ∷ a) b [] d h k e = absurd (h 0 (omega arith) (ap (λ l. get_or l 0 0) e))
once x (y ∷ a) b (z ∷ c) d h k e =
    let r = once x a b c d (λ i lt. h (suc i) (omega arith)) (λ i lt. k (suc i) (omega arith)) (cc) in
    let same = r.0 in
    (cc, r.1)

pub cut_once : {x : ℕ} {text a b c d : List ℕ} → Cut x text a b → Cut x text c d → (a ≡ c) × (b ≡ d)
cut_once {x = x} {a = a} {b = b} {c = c} {d = d} p q = once x a b c d p.first q.first (sym p.whole ∙ q.whole)
