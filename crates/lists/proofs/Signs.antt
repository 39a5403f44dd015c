-- What the machine of signs reads.
use Rattle.std.proofs.Common.{◌≡◌, ℕ, ◌+◌, ◌<◌, ◌≤◌, Bool, true, false, List, [], ◌∷◌, ◌++◌, Some, None, Option, refl, ap, ◌∙◌, arith}
use Rattle.std.proofs.lemmas.Bool.{cond-true, lt-ltb}
use Rattle.lists.specs.Machine.{At, within, sign_step}
use Rattle.lists.specs.Trees.{Sign, open_bracket, close_bracket, star, bar, Item, plain, bracket, starred, named, Seq, one, then, Alts, only, or, item_signs, seq_signs, alts_signs, item_depth, seq_depth, alts_depth}

abbrev pub sign_next : Option At → Sign → Option At
sign_next None s = None
sign_next (Some a) s = sign_step a s

abbrev pub sign_run : Option At → List Sign → Option At
sign_run o [] = o
sign_run o (s ∷ ss) = sign_run (sign_next o s) ss

-- no sign leads on from a refusal
pub sign_run_none : (t : List Sign) → sign_run None t ≡ None
sign_run_none [] = refl
sign_run_none (s ∷ ss) = sign_run_none ss

-- a run over two parts is the second's after the first's
pub sign_run_append : (o : Option At) (s t : List Sign) → sign_run o (s ++ t) ≡ sign_run (sign_run o s) t
sign_run_append o [] t = refl
sign_run_append o (x ∷ s) t = sign_run_append (sign_next o x) s t

-- one run after another
run_both : (o p q : Option At) (s t : List Sign) → sign_run o s ≡ p → sign_run p t ≡ q → sign_run o (s ++ t) ≡ q
run_both o p q s t e f = sign_run_append o s t ∙ ap (λ r. sign_run r t) e ∙ f

-- a bracket opens where fewer than 16 are open, and closes where one is
pub step_open : (d : ℕ) (due : Bool) → d < 16 → sign_step (within d due) open_bracket ≡ Some (within (d + 1) true)
step_open d due lt = cond-true _ _ _ (lt-ltb d 16 lt)

pub step_close : (d : ℕ) → sign_step (within (d + 1) false) close_bracket ≡ Some (within d false)
step_close d = cond-true _ _ _ (lt-ltb 0 (d + 1) (omega arith)) ∙ ap (λ n. Some (within n false)) (omega arith)

-- the signs of a tree are read, and after them no item is due
mutual
  pub run_item : (x : Item) (d : ℕ) (due : Bool) → d + item_depth x ≤ 16 → sign_run (Some (within d due)) (item_signs x) ≡ Some (within d false)
  run_item (plain a) d due le = refl
  run_item (bracket l) d due le =
      ap (λ o. sign_run o (alts_signs l ++ (close_bracket ∷ []))) (step_open d due (omega arith))
      ∙ run_both _ _ _ (alts_signs l) (close_bracket ∷ []) (run_alts l (d + 1) true (omega arith)) (step_close d)
  run_item (starred x) d due le = run_both _ _ _ (item_signs x) (star ∷ []) (run_item x d due le) refl
  run_item (named g) d due le = refl

  run_seq : (s : Seq) (d : ℕ) (due : Bool) → d + seq_depth s ≤ 16 → sign_run (Some (within d due)) (seq_signs s) ≡ Some (within d false)
  run_seq (one x) d due le = run_item x d due le
  run_seq (then s x) d due le = run_both _ _ _ (seq_signs s) (item_signs x) (run_seq s d due (omega arith)) (run_item x d false (omega arith))

  pub run_alts : (l : Alts) (d : ℕ) (due : Bool) → d + alts_depth l ≤ 16 → sign_run (Some (within d due)) (alts_signs l) ≡ Some (within d false)
  run_alts (only s) d due le = run_seq s d due le
  run_alts (or l s) d due le = run_both _ _ _ (alts_signs l) (bar ∷ seq_signs s) (run_alts l d due (omega arith)) (run_seq s d true (omega arith))
