-- Whether parts are a partial name is decided.
use Rattle.std.proofs.Common.{◌≡◌, ℕ, ◌<◌, List, [], ◌∷◌, length, refl, inl, inr, arith}
use Rattle.names.specs.Words.{word_byte, WordBytes, Word}
use Rattle.names.specs.Names.{Part, word, dot, at, plus, Partial, single, dotted}
use Rattle.names.proofs.Deciding.{Decided}
use Rattle.positions.proofs.Digits.{has_or_not}
use Rattle.runs.specs.declared.relation.Runs.{Runs}
use Rattle.runs.specs.Runs.{Ends}
use Rattle.std.specs.List.{slice_range}
use Rattle.name_parts.specs.Slices.{Spans}
use Rattle.name_parts.proofs.Mere.{decide_lt, decide_le, decide_true, decide_pair, decide_as}
use Rattle.name_parts.proofs.Standing.{kind}

bytes_or_not : (w : List ℕ) → Decided (WordBytes w)
bytes_or_not [] = inl tt
bytes_or_not (b ∷ w) = decide_pair (decide_true (word_byte b)) (bytes_or_not w)

lawful_or_not : (w : List ℕ) → Decided (Word w)
lawful_or_not w =
    decide_as (decide_pair (decide_lt 0 (length w)) (decide_pair (decide_le (length w) 32) (bytes_or_not w))) (λ (some, (few, bytes)). record { some = some; few = few; bytes = bytes }) (λ h. (h.some, (h.few, h.bytes)))

-- how a partial name begins
begins : {ps : List Part} → Partial ps → 0 < length ps
begins (single h) = omega arith
begins (dotted h p) = omega arith

first_word : {q : Part} {ps : List Part} → Partial (q ∷ ps) → kind q ≡ 0
first_word (single h) = refl
first_word (dotted h p) = refl

first_lawful : {w : List ℕ} {ps : List Part} → Partial (word w ∷ ps) → Word w
first_lawful (single h) = h
first_lawful (dotted h p) = h

second_dot : {w : List ℕ} {q : Part} {ps : List Part} → Partial (word w ∷ q ∷ ps) → kind q ≡ 1
second_dot (dotted h p) = refl

behind_dot : {w : List ℕ} {ps : List Part} → Partial (word w ∷ dot ∷ ps) → Partial ps
behind_dot (dotted h p) = p

partial_or_not : (ps : List Part) → Decided (Partial ps)
partial_or_not [] = inr (λ p. omega (arith, begins p))
partial_or_not (dot ∷ ps) = inr (λ p. omega (arith, first_word p))
partial_or_not (at ∷ ps) = inr (λ p. omega (arith, first_word p))
partial_or_not (plus ∷ ps) = inr (λ p. omega (arith, first_word p))
partial_or_not (word w ∷ []) = decide_as (lawful_or_not w) (λ h. single h) first_lawful
partial_or_not (word w ∷ word v ∷ ps) = inr (λ p. omega (arith, second_dot p))
partial_or_not (word w ∷ at ∷ ps) = inr (λ p. omega (arith, second_dot p))
partial_or_not (word w ∷ plus ∷ ps) = inr (λ p. omega (arith, second_dot p))
partial_or_not (word w ∷ dot ∷ ps) = decide_as (decide_pair (lawful_or_not w) (partial_or_not ps)) (λ (h, p). dotted h p) (λ p. (first_lawful p, behind_dot p))

pub spans_or_not : (ps : List Part) (i j : ℕ) → Decided (Spans ps Partial i j)
spans_or_not ps i j =
    decide_as (decide_pair (decide_le i j) (decide_pair (decide_le j (length ps)) (partial_or_not (slice_range ps i j)))) (λ (forward, (within, run)). record { forward = forward; within = within; run = run }) (λ s. (s.forward, (s.within, s.run)))

pub ends_or_not : (r : Runs) (i j : ℕ) → Decided (Ends r i j)
ends_or_not r i j = decide_pair (decide_lt i r.count) (has_or_not _ j)
