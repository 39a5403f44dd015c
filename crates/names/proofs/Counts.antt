-- How many bytes are of some kind, and where they are.
use Rattle.std.proofs.Common.{◌≡◌, ℕ, zero, suc, ◌+◌, ◌<◌, ◌≤◌, Bool, true, cond, List, [], ◌∷◌, ◌++◌, length, get_or, take, drop, take-append-drop, drop-cons, Some, None, Option, MatchOption, slice_get, filter, sym, refl, ap, ◌∙◌, subst, arith}
use Rattle.std.specs.List.{enumerate_from}
use Rattle.std.specs.Option.{option_map}
use Rattle.std.proofs.lemmas.Bool.{cond_both}
use Rattle.std.proofs.lemmas.List.{take_more}
use Rattle.names.specs.Words.{count_of}
use Rattle.names.specs.Joints.{JointAt}

module _ (p : ℕ → Bool) where
  pub count_append : (s t : List ℕ) → count_of p (s ++ t) ≡ count_of p s + count_of p t
  count_append [] t = omega arith
  count_append (b ∷ s) t = omega (arith, count_append s t)

  -- a byte more of a text counts if it is of the kind
  pub count_more : (text : List ℕ) (i : ℕ) → i < length text → count_of p (take (i + 1) text) ≡ count_of p (take i text) + cond (p (get_or text i 0)) 1 0
  count_more text i lt = ap (count_of p) (take_more text i 0 lt) ∙ count_append (take i text) (get_or text i 0 ∷ []) ∙ omega arith

  -- the bytes of the kind in a text that begins at a place, each with its place
  abbrev placed : ℕ → List ℕ → List (ℕ × ℕ)
  placed start text = filter (λ e. p e.1) (enumerate_from start text)

  -- what is found at some byte of the kind
  abbrev Found : ℕ → List ℕ → ℕ → Option (ℕ × ℕ) → Type 0
  Found start text n found = MatchOption found (count_of p text ≤ n) (λ e. (k : ℕ) × (e.0 ≡ start + k) × JointAt p text n k)

  -- behind one byte more
  found_behind : (start b : ℕ) (text : List ℕ) (m n : ℕ) (found : Option (ℕ × ℕ)) → cond (p b) 1 0 + m ≡ n → Found (start + 1) text m found → Found start (b ∷ text) n found
  found_behind start b text m n None e few = omega (arith, e, few)
  found_behind start b text m n (Some x) e (k, at, here) =
      (suc k, omega (arith, at), record { within = omega (arith, here.within); is_joint = here.is_joint; before = ap (λ v. cond (p b) 1 0 + v) here.before ∙ e })

  found_here : (start b : ℕ) (text : List ℕ) (n : ℕ) → p b ≡ true → ((m : ℕ) → Found (start + 1) text m (slice_get (placed (start + 1) text) m)) → Found start (b ∷ text) n (slice_get ((start, b) ∷ placed (start + 1) text) n)
  found_here start b text zero is behind = (0, omega arith, record { within = omega arith; is_joint = is; before = refl })
  found_here start b text (suc n) is behind = found_behind start b text n (suc n) _ (ap {B = ℕ} (λ v. cond v 1 0 + n) is ∙ omega arith) (behind n)

  found_at : (start : ℕ) (text : List ℕ) (n : ℕ) → Found start text n (slice_get (placed start text) n)
  found_at start [] n = omega arith
  found_at start (b ∷ text) n =
      cond_both (p b) ((start, b) ∷ placed (start + 1) text) (placed (start + 1) text) (λ l. Found start (b ∷ text) n (slice_get l n))
      (λ is. found_here start b text n is (found_at (start + 1) text))
      (λ no. found_behind start b text n n _ (ap {B = ℕ} (λ v. cond v 1 0 + n) no ∙ omega arith) (found_at (start + 1) text n))

  -- the place of the byte of the kind that has n others before it
  pub nth_place : {A : Type 0} (shown : A → ℕ × ℕ) (text : List ℕ) (n : ℕ) (found : Option A) → option_map shown found ≡ slice_get (placed 0 text) n → MatchOption (option_map (λ x. (shown x).0) found) (count_of p text ≤ n) (JointAt p text n)
  nth_place shown text n None is = subst (Found 0 text n) (sym is) (found_at 0 text n)
  nth_place shown text n (Some x) is =
      let (k, at, here) = subst (Found 0 text n) (sym is) (found_at 0 text n) in
      let same : k ≡ (shown x).0 = omega (arith, at) in
      subst (JointAt p text n) same here

  -- it is one byte of the kind more
  pub joint_more : (text : List ℕ) (n place : ℕ) → JointAt p text n place → n < count_of p text
  joint_more text n place j =
      let split : take place text ++ (get_or text place 0 ∷ drop (suc place) text) ≡ text = ap (λ t. take place text ++ t) (sym (drop-cons text place 0 j.within)) ∙ take-append-drop place text in
      omega (arith, ap (count_of p) split, count_append (take place text) (get_or text place 0 ∷ drop (suc place) text), j.before, ap {B = ℕ} (λ v. cond v 1 0) j.is_joint)
