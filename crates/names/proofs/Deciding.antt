-- Whether a text is a lawful name is decided by reading it, so the mere statement that it is one gives its parts.
use Rattle.std.proofs.Common.{◌≡◌, ℕ, zero, suc, ◌≤◌, ◌⊎◌, List, length, Some, None, Option, refl, inl, inr, ⊎_elim, arith}
use mathlib.Core.HLevel.{⊥_prop}
use mathlib.Core.Logic.{∥∥₁_elim}
use Rattle.std.proofs.lemmas.Bool.{cases_lt}
use Rattle.names.specs.Words.{Joined, count_of}
use Rattle.names.specs.Names.{LawfulName}
use Rattle.names.specs.Faults.{mark_byte}
use Rattle.names.proofs.Chains.{reads, chain_reads, chain_of}
use Rattle.names.proofs.Checks.{name_lawful, parts_counted}
use Rattle.names.proofs.Forms.{mark_apart, name_joined}

-- a statement is decided by a proof of it or of its contrary
abbrev pub Decided : Type 0 → Type 0
Decided P = P ⊎ (P → ⊥)

-- what is decided may be taken from the mere statement
pub from_mere : (P : Type 0) → Decided P → ∥ P ∥₁ → P
from_mere P d h = ⊎_elim (λ p. p) (λ never. absurd (∥∥₁_elim h ⊥_prop never)) d

module _ (text : List ℕ) where
  -- words joined by marks are read to the end of a word
  by_reading : (o : Option ℕ) → reads mark_byte text ≡ o → Decided (Joined mark_byte text)
  by_reading None e = inr (λ j. let r = chain_reads mark_byte mark_apart j in let z : ◌≡◌ {A = ℕ} 0 1 = cc r.2 in omega arith)
  by_reading (Some zero) e = inr (λ j. let r = chain_reads mark_byte mark_apart j in let z : r.0 ≡ 0 = cc r.2 in omega (arith, r.1))
  by_reading (Some (suc k)) e = inl (chain_of mark_byte text (suc k) (omega arith) e)

  joined_of : LawfulName text → Joined mark_byte text
  joined_of n = name_joined (record { parts = n.0; form = n.1.form; spelling = n.1.spelling })

  pub decide_name : Decided (LawfulName text)
  decide_name =
      ⊎_elim
      (λ over. inr (λ n. omega (arith, n.1.short)))
      (λ short. ⊎_elim
      (λ many. inr (λ n. omega (arith, parts_counted text _ refl n.0 n.1, n.1.few)))
      (λ few. ⊎_elim (λ j. inl (name_lawful text short j few)) (λ never. inr (λ n. never (joined_of n))) (by_reading (reads mark_byte text) refl))
      (cases_lt 31 (count_of mark_byte text)))
      (cases_lt 255 (length text))

  -- a text that is merely a lawful name is one, with its parts
  pub lawful_name : ∥ LawfulName text ∥₁ → LawfulName text
  lawful_name = from_mere (LawfulName text) decide_name

  -- so it has no more marks than a name may have
  pub marks_few : ∥ LawfulName text ∥₁ → count_of mark_byte text ≤ 31
  marks_few h = let n = lawful_name h in omega (arith, parts_counted text _ refl n.0 n.1, n.1.few)
