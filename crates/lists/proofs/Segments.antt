-- Parts of a text, one after another.
use Rattle.std.proofs.Common.{◌≡◌, ℕ, suc, ◌+◌, ◌-◌, ◌<◌, ◌≤◌, Bool, true, false, eqb, List, [], ◌∷◌, ◌++◌, length, get_or, take, drop, sym, refl, ap, ◌∙◌, subst, arith, length-drop, take-append-drop, eqb-true}
use Rattle.std.proofs.Math.Seq.{take-add}
use Rattle.std.proofs.lemmas.List.{drop_more, drop_all, drop-drop, take_more, length-take-le, get_or-drop}
use Rattle.std.specs.List.{AllByRecursion}
use Rattle.std.proofs.lemmas.Bool.{cond_both}
use Rattle.std.proofs.lemmas.List.Sums.{prefix_len-le-length}
use Rattle.std.specs.List.{prefix_len}
use Rattle.lists.specs.Bytes.{part, Past, Run, blanks}

pub part_length : (text : List ℕ) (i j : ℕ) → i ≤ j → j ≤ length text → length (part text i j) ≡ j - i
part_length text i j le within = length-take-le (j - i) (drop i text) (omega (arith, length-drop i text))

pub part_more : (text : List ℕ) (i j : ℕ) → i ≤ j → j < length text → part text i (j + 1) ≡ part text i j ++ (get_or text j 0 ∷ [])
part_more text i j le lt =
    let n : j + 1 - i ≡ (j - i) + 1 = omega arith in
    let at : i + (j - i) ≡ j = omega arith in
    ap (λ k. take k (drop i text)) n
    ∙ take_more (drop i text) (j - i) 0 (omega (arith, length-drop i text))
    ∙ ap (λ b. part text i j ++ (b ∷ [])) (get_or-drop i text (j - i) 0 ∙ ap (λ k. get_or text k 0) at)

-- a part and what follows it
pub drop_part : (text : List ℕ) (i j : ℕ) → i ≤ j → drop i text ≡ part text i j ++ drop j text
drop_part text i j le =
    let at : i + (j - i) ≡ j = omega arith in
    sym (take-append-drop (j - i) (drop i text)) ∙ ap (λ u. part text i j ++ u) (drop-drop (j - i) i text ∙ ap (λ k. drop k text) at)

-- a part of two parts
pub part_join : (text : List ℕ) (i j k : ℕ) → i ≤ j → j ≤ k → part text i k ≡ part text i j ++ part text j k
part_join text i j k le le' =
    let n : (j - i) + (k - j) ≡ k - i = omega arith in
    let at : i + (j - i) ≡ j = omega arith in
    sym (ap (λ m. take m (drop i text)) n) ∙ take-add (j - i) (k - j) (drop i text) ∙ ap (λ u. part text i j ++ take (k - j) u) (drop-drop (j - i) i text ∙ ap (λ m. drop m text) at)

pub part_none : (text : List ℕ) (i : ℕ) → part text i i ≡ []
part_none text i = let e : i - i ≡ 0 = omega arith in ap (λ n. take n (drop i text)) e

-- one byte
pub part_one : (text : List ℕ) (i : ℕ) → i < length text → part text i (i + 1) ≡ get_or text i 0 ∷ []
part_one text i lt = part_more text i i (omega arith) lt ∙ ap (λ u. u ++ (get_or text i 0 ∷ [])) (part_none text i)

-- what does not begin with a byte of a kind
pub past_byte : (p : ℕ → Bool) (text : List ℕ) (j : ℕ) → j < length text → p (get_or text j 0) ≡ false → Past p (drop j text)
past_byte p text j lt e = subst (Past p) (sym (drop_more text j 0 lt)) e

pub past_end : (p : ℕ → Bool) (text : List ℕ) (j : ℕ) → length text ≤ j → Past p (drop j text)
past_end p text j le = subst (Past p) (sym (drop_all j text le)) tt

pub past_at : (p : ℕ → Bool) (text : List ℕ) (j : ℕ) → j < length text → Past p (drop j text) → p (get_or text j 0) ≡ false
past_at p text j lt h = subst (Past p) (drop_more text j 0 lt) h

-- bytes that are all blank are blanks
pub all_blanks : (t : List ℕ) → AllByRecursion (λ b. eqb b 32 ≡ true) t → t ≡ blanks (length t)
all_blanks [] h = refl
all_blanks (b ∷ t) h = λ i. eqb-true b 32 h.0 i ∷ all_blanks t h.1 i

-- the bytes of a kind that a text begins with are a run
pub prefix_bytes : (p : ℕ → Bool) (t : List ℕ) → AllByRecursion (λ b. p b ≡ true) (take (prefix_len p t) t)
prefix_bytes p [] = tt
prefix_bytes p (b ∷ t) = cond_both (p b) _ _ (λ n. AllByRecursion (λ x. p x ≡ true) (take n (b ∷ t))) (λ is. let more : 1 + prefix_len p t ≡ suc (prefix_len p t) = omega arith in rw more (is, prefix_bytes p t)) (λ _. tt)

prefix_past : (p : ℕ → Bool) (t : List ℕ) → Past p (drop (prefix_len p t) t)
prefix_past p [] = tt
prefix_past p (b ∷ t) = cond_both (p b) _ _ (λ n. Past p (drop n (b ∷ t))) (λ _. let more : 1 + prefix_len p t ≡ suc (prefix_len p t) = omega arith in rw more (prefix_past p t)) (λ other. other)

pub prefix_run : (p : ℕ → Bool) (text : List ℕ) (i n : ℕ) → i ≤ length text → prefix_len p (drop i text) ≡ n → Run p text i (i + n)
prefix_run p text i n le e =
    let size : i + n - i ≡ prefix_len p (drop i text) = omega arith in
    record {
      forward = omega arith;
      within = omega (arith, prefix_len-le-length p (drop i text), length-drop i text);
      bytes = subst (λ k. AllByRecursion (λ b. p b ≡ true) (take k (drop i text))) (sym size) (prefix_bytes p (drop i text));
      past = subst (Past p) (ap (λ k. drop k (drop i text)) e ∙ drop-drop n i text) (prefix_past p (drop i text));
    }
