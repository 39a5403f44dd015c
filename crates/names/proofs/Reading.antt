-- What the machine tells of a text: joined words, or the first byte that cannot go on.
use Rattle.std.proofs.Common.{◌≡◌, ℕ, ◌+◌, ◌<◌, ◌≤◌, Bool, true, false, cond, ◌&&◌, eqb, List, length, get_or, take, Some, None, Option, sym, ap, ◌∙◌, ⊎_elim, arith}
use Rattle.std.proofs.lemmas.List.{drop_more, drop_all}
use Rattle.std.proofs.lemmas.Bool.{cases_Bool, cases_lt}
use Rattle.faults.specs.declared.fault.Fault.{Fault}
use Rattle.faults.specs.declared.kind.Kind.TheVariants.{ByteNotAllowed, WordMissing, WordTooLong}
use Rattle.names.specs.Words.{word_byte, Joined}
use Rattle.names.specs.Faults.{fault, mark_byte, kind_of, kind_at}
use Rattle.names.specs.Joints.{Unjoined}
use Rattle.names.specs.Machine.{next}
use Rattle.names.proofs.Machine.{run_more, blocked, ended}
use Rattle.names.proofs.Chains.{step, reads, accepts, begins, chain_reads, due, step_full, step_due, step_other}

-- a byte that neither goes on with the word nor joins
pub stops : (takes : ℕ → Bool) (k b : ℕ) → (word_byte b ≡ true → 32 ≤ k) → (0 < k → takes b ≡ false) → step takes k b ≡ None
stops takes k b full apart_from =
    ⊎_elim
    (λ isw. step_full takes k b isw (full isw))
    (λ out. ⊎_elim (λ some. step_other takes k b out (apart_from some)) (λ none. step_due takes k b out (omega arith)) (cases_lt 0 k))
    (cases_Bool (word_byte b))

module _ (joint : ℕ → Bool) (apart : (b : ℕ) → joint b ≡ true → word_byte b ≡ false) (text : List ℕ) where
  -- the machine has read the bytes before i
  pub goes_on : (i k k' : ℕ) → i < length text → reads joint (take i text) ≡ Some k → step joint k (get_or text i 0) ≡ Some k' → reads joint (take (i + 1) text) ≡ Some k'
  goes_on i k k' lt h s = run_more (step joint) (Some 0) text i lt ∙ ap (λ o. next (step joint) o (get_or text i 0)) h ∙ s

  kind_here_lem : (i k : ℕ) → i < length text → reads joint (take i text) ≡ Some k → kind_at text i ≡ (let b = get_or text i 0 in cond (word_byte b) WordTooLong (cond (mark_byte b && eqb k 0) WordMissing ByteNotAllowed))
  kind_here_lem i k lt h =
      let b = get_or text i 0 in
      ap (kind_of (take i text)) (drop_more text i 0 lt) ∙ ap (λ d. cond (word_byte b) WordTooLong (cond (mark_byte b && d) WordMissing ByteNotAllowed)) (due joint (take i text) k h)

  pub slip_here : (i k : ℕ) (f : Fault) → i < length text → reads joint (take i text) ≡ Some k → step joint k (get_or text i 0) ≡ None → f ≡ fault (let b = get_or text i 0 in cond (word_byte b) WordTooLong (cond (mark_byte b && eqb k 0) WordMissing ByteNotAllowed)) i → Unjoined joint text f
  slip_here i k f lt h s e = record {
    place = i;
    stuck = blocked (step joint) 0 (Joined joint) (accepts joint apart) (begins joint) text i k lt h s;
    told = e ∙ ap (λ k. fault k i) (sym (kind_here_lem i k lt h));
  }

  pub slip_end : (f : Fault) → reads joint text ≡ Some 0 → f ≡ fault WordMissing (length text) → Unjoined joint text f
  slip_end f h e = record {
    place = length text;
    stuck = ended (step joint) 0 (Joined joint) (accepts joint apart) (begins joint) text 0 h (λ t. let r = chain_reads joint apart t in let z : r.0 ≡ 0 = same r.0 0 (sym r.2 ∙ h) in omega (arith, r.1));
    told = e ∙ ap (λ k. fault k (length text)) (sym (ap (kind_of (take (length text) text)) (drop_all (length text) text (omega arith))));
  }
    where
      same : (a b : ℕ) → ◌≡◌ {A = Option ℕ} (Some a) (Some b) → a ≡ b
      same a b p = cc
