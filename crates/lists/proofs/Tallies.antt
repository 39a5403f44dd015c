-- What the machine's state tells of the text that it has read: whether braces are open, and how many brackets.
use Rattle.std.proofs.Common.{◌≡◌, ℕ, ◌+◌, Bool, true, false, cond, eqb, ltb, List, [], ◌∷◌, Some, None, Option, sym, refl, ap, ◌∙◌, subst, arith, ltb-true, eqb-true}
use Rattle.std.proofs.lemmas.Bool.{cond-true, cond-false, cond_both}
use Rattle.names.specs.Words.{word_byte, count_of}
use Rattle.names.proofs.Machine.{never}
use Rattle.lists.specs.Trees.{Sign, atom, dot, at, plus, any, open_bracket, close_bracket, star, bar}
use Rattle.lists.specs.Bytes.{group_byte, sign_of}
use Rattle.lists.specs.Faults.{braced_after}
use Rattle.lists.specs.Machine.{At, within, sign_step, State, out, word, brace, name, braced, item, lift, signed, out_step, braced_step, byte_step, reads}
use Rattle.lists.proofs.Machine.{apart, sign_cases}

abbrev pub is_brace : State → Bool
is_brace (out a) = false
is_brace (word a k) = false
is_brace (brace a) = true
is_brace (name a k) = true
is_brace (braced a) = true

abbrev pub depth_at : At → ℕ
depth_at (within d due) = d

abbrev pub depth : State → ℕ
depth (out a) = depth_at a
depth (word a k) = depth_at a
depth (brace a) = depth_at a
depth (name a k) = depth_at a
depth (braced a) = depth_at a

abbrev pub opens : ℕ → Bool
opens b = eqb b 40

abbrev pub closes : ℕ → Bool
closes b = eqb b 41

-- a byte after a state, where braces are open or not and d brackets are
abbrev Braces : ℕ → Bool → Bool
Braces b v = cond (eqb b 123) true (cond (eqb b 125) false v)

record Tells (b : ℕ) (v : Bool) (d : ℕ) (s : State) : Type 0 where
  braces : Braces b v ≡ is_brace s
  brackets : d + cond (opens b) 1 0 ≡ depth s + cond (closes b) 1 0

abbrev Told : ℕ → Bool → ℕ → Option State → Type 0
Told b v d None = Unit {0}
Told b v d (Some s) = Tells b v d s

-- a byte that is no brace and no bracket changes neither
record Plain (b : ℕ) : Type 0 where
  braces : (v : Bool) → Braces b v ≡ v
  brackets : (d : ℕ) → d + cond (opens b) 1 0 ≡ d + cond (closes b) 1 0

plain : {b : ℕ} → Plain b → (s : State) → Tells b (is_brace s) (depth s) s
plain p s = record { braces = p.braces (is_brace s); brackets = p.brackets (depth s) }

plain_at : (b k : ℕ) → b ≡ k → Plain k → Plain b
plain_at b k e = subst Plain (sym e)

plain_blank : Plain 32
plain_blank = record { braces = λ v. refl; brackets = λ d. refl }

plain_of : (p : ℕ → Bool) (b : ℕ) → p b ≡ true → p 123 ≡ false → p 125 ≡ false → p 40 ≡ false → p 41 ≡ false → Plain b
plain_of p b is h i j k = record {
  braces = λ v. cond-false _ _ _ (apart p b 123 is h) ∙ cond-false _ _ _ (apart p b 125 is i);
  brackets = λ d. ap {B = ℕ} (λ t. d + cond t 1 0) (apart p b 40 is j) ∙ sym (ap {B = ℕ} (λ t. d + cond t 1 0) (apart p b 41 is k));
}

plain_word : (b : ℕ) → word_byte b ≡ true → Plain b
unfolding word_byte
plain_word b is = plain_of word_byte b is refl refl refl refl

plain_group : (b : ℕ) → group_byte b ≡ true → Plain b
unfolding group_byte word_byte
plain_group b is = plain_of group_byte b is refl refl refl refl

-- what a sign does to the brackets
abbrev Signed : ℕ → Sign → Type 0
Signed b s = (a : At) → Told b false (depth_at a) (lift (sign_step a s))

signed_open : Signed 40 open_bracket
signed_open (within d due) =
    cond_both (ltb d 16) _ _ (λ o. Told 40 false d (lift o))
    (λ _. record { braces = refl; brackets = omega arith })
    (λ _. tt)

signed_close : Signed 41 close_bracket
signed_close (within d true) = tt
signed_close (within d false) =
    cond_both (ltb 0 d) _ _ (λ o. Told 41 false d (lift o))
    (λ e. record { braces = refl; brackets = omega (arith, ltb-true 0 d e) })
    (λ _. tt)

signed_star : Signed 42 star
signed_star (within d true) = tt
signed_star (within d false) = record { braces = refl; brackets = refl }

signed_bar : Signed 124 bar
signed_bar (within d true) = tt
signed_bar (within d false) = record { braces = refl; brackets = refl }

signed_atom : (b : ℕ) (s : Sign) → ((d : ℕ) (due : Bool) → sign_step (within d due) s ≡ Some (within d false)) → Plain b → Signed b s
signed_atom b s e p (within d due) = subst (λ o. Told b false d (lift o)) (sym (e d due)) (plain p (out (within d false)))

signed_byte : (b : ℕ) (s : Sign) → sign_of b ≡ Some s → Signed b s
signed_byte =
    sign_cases Signed
    (signed_atom 46 (atom dot) (λ d due. refl) (record { braces = λ v. refl; brackets = λ d. refl }))
    (signed_atom 64 (atom at) (λ d due. refl) (record { braces = λ v. refl; brackets = λ d. refl }))
    (signed_atom 43 (atom plus) (λ d due. refl) (record { braces = λ v. refl; brackets = λ d. refl }))
    (signed_atom 33 (atom any) (λ d due. refl) (record { braces = λ v. refl; brackets = λ d. refl }))
    signed_open
    signed_close
    signed_star
    signed_bar

item_depth : (a : At) → depth_at (item a) ≡ depth_at a
item_depth (within d due) = refl

told_signed : (b : ℕ) (a : At) (o : Option Sign) → sign_of b ≡ o → Told b false (depth_at a) (signed a o)
told_signed b a None e = tt
told_signed b a (Some s) e = signed_byte b s e a

told_out : (a : At) (b : ℕ) → Told b false (depth_at a) (out_step a b)
told_out a b =
    cond_both (eqb b 32) _ _ (Told b false (depth_at a))
    (λ e. plain (plain_at b 32 (eqb-true b 32 e) plain_blank) (out a))
    (λ _. cond_both (word_byte b) _ _ (Told b false (depth_at a))
    (λ e. let p = plain_word b e in record { braces = p.braces false; brackets = p.brackets (depth_at a) ∙ ap (λ n. n + cond (closes b) 1 0) (sym (item_depth a)) })
    (λ _. cond_both (eqb b 123) _ _ (Told b false (depth_at a))
    (λ e. record { braces = cond-true _ _ _ e; brackets = ap {B = ℕ} (λ x. depth_at a + cond (opens x) 1 0) (eqb-true b 123 e) ∙ sym (ap {B = ℕ} (λ x. depth_at (item a) + cond (closes x) 1 0) (eqb-true b 123 e) ∙ ap (λ n. n + 0) (item_depth a)) })
    (λ _. told_signed b a (sign_of b) refl)))

told_braced : (a : At) (b : ℕ) → Told b true (depth_at a) (braced_step a b)
told_braced a b =
    cond_both (eqb b 32) _ _ (Told b true (depth_at a))
    (λ e. plain (plain_at b 32 (eqb-true b 32 e) plain_blank) (braced a))
    (λ _. cond_both (eqb b 125) _ _ (Told b true (depth_at a))
    (λ e. subst (λ x. Tells x true (depth_at a) (out a)) (sym (eqb-true b 125 e)) (record { braces = refl; brackets = refl }))
    (λ _. tt))

told : (s : State) (b : ℕ) → Told b (is_brace s) (depth s) (byte_step s b)
told (out a) b = told_out a b
told (word a k) b =
    cond_both (word_byte b) _ _ (Told b false (depth_at a))
    (λ e. cond_both (ltb k 32) _ _ (Told b false (depth_at a)) (λ _. plain (plain_word b e) (word a (k + 1))) (λ _. tt))
    (λ _. told_out a b)
told (brace a) b =
    cond_both (eqb b 32) _ _ (Told b true (depth_at a))
    (λ e. plain (plain_at b 32 (eqb-true b 32 e) plain_blank) (brace a))
    (λ _. cond_both (group_byte b) _ _ (Told b true (depth_at a)) (λ e. plain (plain_group b e) (name a 1)) (λ _. tt))
told (name a k) b =
    cond_both (group_byte b) _ _ (Told b true (depth_at a))
    (λ e. cond_both (ltb k 32) _ _ (Told b true (depth_at a)) (λ _. plain (plain_group b e) (name a (k + 1))) (λ _. tt))
    (λ _. told_braced a b)
told (braced a) b = told_braced a b

-- over a whole text
pub record Tally (s : State) (t : List ℕ) (s' : State) : Type 0 where
  pub braces : braced_after (is_brace s) t ≡ is_brace s'
  pub brackets : depth s + count_of opens t ≡ depth s' + count_of closes t

pub tally : (t : List ℕ) (s s' : State) → reads (Some s) t ≡ Some s' → Tally s t s'
tally [] s s' e = let same : s ≡ s' = cc in record { braces = ap is_brace same; brackets = ap (λ x. depth x + 0) same }
tally (b ∷ t) s s' e = more (byte_step s b) (told s b) e (λ x. tally t x s')
  where
    more : (o : Option State) → Told b (is_brace s) (depth s) o → reads o t ≡ Some s' → ((x : State) → reads (Some x) t ≡ Some s' → Tally x t s') → Tally s (b ∷ t) s'
    more None h r on = absurd (never byte_step t r)
    more (Some x) h r on =
        let q = on x r in
        record { braces = ap (λ v. braced_after v t) h.braces ∙ q.braces; brackets = omega (arith, h.brackets, q.brackets) }
