-- What the machine reads: words, group names and marks with blanks between them.
use Rattle.std.proofs.Common.{◌≡◌, ℕ, zero, suc, ◌+◌, ◌<◌, ◌≤◌, Bool, true, false, eqb, List, [], ◌∷◌, ◌++◌, length, Some, None, Option, sym, refl, ap, ◌∙◌, subst, append_assoc, arith, lt-ltb, ne_eqb, eqb-true}
use borrow.Author.Tests.{clash}
use Rattle.std.proofs.lemmas.Bool.{cond-true, cond-false, cond_both}
use Rattle.std.specs.List.{AllByRecursion}
use Rattle.names.specs.Words.{word_byte, WordBytes, Word}
use Rattle.names.proofs.Machine.{run_append, run_none}
use Rattle.lists.specs.Trees.{Sign, atom, dot, at, plus, any, open_bracket, close_bracket, star, bar}
use Rattle.lists.specs.Bytes.{group_byte, IsGroupName, blanks, sign_of, Past}
use Rattle.lists.specs.Tokens.{Shows, shows_word, shows_mark, shows_group, Spells, ends, next}
use Rattle.lists.specs.Machine.{At, within, sign_step, State, out, word, brace, name, braced, item, lift, signed, out_step, byte_step, reads}
use Rattle.lists.proofs.Signs.{sign_run, sign_run_none}

-- the reading has come to a place between signs, or to the end of a word
abbrev pub Rests : State → At → Type 0
Rests (out a) c = a ≡ c
Rests (word a k) c = a ≡ c
Rests (brace a) c = ⊥
Rests (name a k) c = ⊥
Rests (braced a) c = ⊥

abbrev pub Lands : Option State → At → Type 0
Lands None c = ⊥
Lands (Some s) c = Rests s c

pub lands_none : (t : List ℕ) (c : At) → Lands (reads None t) c → ⊥
lands_none t c h = subst (λ o. Lands o c) (run_none byte_step t) h

pub reads_append : (o : Option State) (s t : List ℕ) → reads o (s ++ t) ≡ reads (reads o s) t
reads_append o s t = run_append byte_step o s t

-- bytes of the kinds are apart
pub blank_out : word_byte 32 ≡ false
unfolding word_byte
blank_out = refl

pub brace_out : word_byte 123 ≡ false
unfolding word_byte
brace_out = refl

pub blank_ungrouped : group_byte 32 ≡ false
unfolding group_byte word_byte
blank_ungrouped = refl

pub close_ungrouped : group_byte 125 ≡ false
unfolding group_byte word_byte
close_ungrouped = refl

pub apart : (p : ℕ → Bool) (b k : ℕ) → p b ≡ true → p k ≡ false → eqb b k ≡ false
apart p b k is other = ne_eqb b k (λ e. clash (sym other ∙ ap p (sym e) ∙ is))

-- what each step does
pub out_word : (a : At) (b : ℕ) → word_byte b ≡ true → out_step a b ≡ Some (word (item a) 1)
out_word a b is = cond-false _ _ _ (apart word_byte b 32 is blank_out) ∙ cond-true _ _ _ is

pub out_brace : (a : At) → out_step a 123 ≡ Some (brace (item a))
out_brace a = cond-false _ _ _ brace_out

-- the eight bytes that are signs by themselves
same_sign : (x y : Sign) → ◌≡◌ {A = Option Sign} (Some x) (Some y) → x ≡ y
same_sign x y e = cc

pub sign_cases : (Q : ℕ → Sign → Type 0) → Q 46 (atom dot) → Q 64 (atom at) → Q 43 (atom plus) → Q 33 (atom any) → Q 40 open_bracket → Q 41 close_bracket → Q 42 star → Q 124 bar → (b : ℕ) (s : Sign) → sign_of b ≡ Some s → Q b s
unfolding sign_of
sign_cases Q d a p n o c m v b s e =
    let P : Option Sign → Type 0 = λ r. r ≡ Some s → Q b s in
    let is : (k : ℕ) (x : Sign) → Q k x → eqb b k ≡ true → Some x ≡ Some s → Q b s = λ k x q h r. subst (Q b) (same_sign x s r) (subst (λ y. Q y x) (sym (eqb-true b k h)) q) in
    cond_both (eqb b 46) _ _ P (is 46 (atom dot) d)
    (λ _. cond_both (eqb b 64) _ _ P (is 64 (atom at) a)
    (λ _. cond_both (eqb b 43) _ _ P (is 43 (atom plus) p)
    (λ _. cond_both (eqb b 33) _ _ P (is 33 (atom any) n)
    (λ _. cond_both (eqb b 40) _ _ P (is 40 open_bracket o)
    (λ _. cond_both (eqb b 41) _ _ P (is 41 close_bracket c)
    (λ _. cond_both (eqb b 42) _ _ P (is 42 star m)
    (λ _. cond_both (eqb b 124) _ _ P (is 124 bar v)
    (λ _ r. let z : ◌≡◌ {A = ℕ} 0 1 = cc in absurd (omega arith)))))))))
    e

-- such a byte is neither blank, nor of a word, nor a brace
abbrev pub Apart : ℕ → Sign → Type 0
Apart b s = (eqb b 32 ≡ false) × ((word_byte b ≡ false) × (eqb b 123 ≡ false))

pub sign_apart : (b : ℕ) (s : Sign) → sign_of b ≡ Some s → Apart b s
unfolding word_byte
sign_apart = sign_cases Apart (refl, (refl, refl)) (refl, (refl, refl)) (refl, (refl, refl)) (refl, (refl, refl)) (refl, (refl, refl)) (refl, (refl, refl)) (refl, (refl, refl)) (refl, (refl, refl))

pub out_sign : (a : At) (b : ℕ) (s : Sign) → sign_of b ≡ Some s → out_step a b ≡ signed a (Some s)
out_sign a b s e =
    let h = sign_apart b s e in
    cond-false _ _ _ h.0 ∙ cond-false _ _ _ h.1.0 ∙ cond-false _ _ _ h.1.1 ∙ ap (signed a) e

-- blanks change nothing between signs and in braces
pub reads_blanks : (s : State) → byte_step s 32 ≡ Some s → (n : ℕ) → reads (Some s) (blanks n) ≡ Some s
reads_blanks s e zero = refl
reads_blanks s e (suc n) = ap (λ o. reads o (blanks n)) e ∙ reads_blanks s e n

-- bytes of a kind are read to their end, where each is one byte more of a word or a group name
reads_kind : (p : ℕ → Bool) (at_byte : ℕ → State) → ((k b : ℕ) → p b ≡ true → k < 32 → byte_step (at_byte k) b ≡ Some (at_byte (k + 1))) → (w : List ℕ) (k : ℕ) → AllByRecursion (λ b. p b ≡ true) w → k + length w ≤ 32 → reads (Some (at_byte k)) w ≡ Some (at_byte (k + length w))
reads_kind p at_byte step [] k bs le = ap (λ n. Some (at_byte n)) (omega arith)
reads_kind p at_byte step (b ∷ w) k bs le =
    ap (λ o. reads o w) (step k b bs.0 (omega arith)) ∙ reads_kind p at_byte step w (k + 1) bs.1 (omega arith) ∙ ap (λ n. Some (at_byte n)) (omega arith)

-- a word is read to its end
reads_word : (a : At) (w : List ℕ) (k : ℕ) → WordBytes w → k + length w ≤ 32 → reads (Some (word a k)) w ≡ Some (word a (k + length w))
reads_word a = reads_kind word_byte (word a) (λ k b is lt. cond-true _ _ _ is ∙ cond-true _ _ _ (lt-ltb k 32 lt))

pub out_reads_word : (a : At) (w : List ℕ) → Word w → reads (Some (out a)) w ≡ Some (word (item a) (length w))
out_reads_word a [] h = absurd (omega (arith, h.some))
out_reads_word a (b ∷ w) h =
    ap (λ o. reads o w) (out_word a b h.bytes.0) ∙ reads_word (item a) w 1 h.bytes.1 (omega (arith, h.few)) ∙ ap (λ n. Some (word (item a) n)) (omega arith)

-- and so is a group name
reads_name : (a : At) (g : List ℕ) (k : ℕ) → AllByRecursion (λ b. group_byte b ≡ true) g → k + length g ≤ 32 → reads (Some (name a k)) g ≡ Some (name a (k + length g))
reads_name a = reads_kind group_byte (name a) (λ k b is lt. cond-true _ _ _ is ∙ cond-true _ _ _ (lt-ltb k 32 lt))

pub brace_reads_name : (a : At) (g : List ℕ) → IsGroupName g → reads (Some (brace a)) g ≡ Some (name a (length g))
brace_reads_name a [] h = absurd (omega (arith, h.some))
brace_reads_name a (b ∷ g) h =
    ap (λ o. reads o g) (cond-false _ _ _ (apart group_byte b 32 h.bytes.0 blank_ungrouped) ∙ cond-true _ _ _ h.bytes.0)
    ∙ reads_name a g 1 h.bytes.1 (omega (arith, h.few))
    ∙ ap (λ n. Some (name a n)) (omega arith)

-- blanks after a group name, and the closing brace
name_reads_blanks : (a : At) (k n : ℕ) (rest : List ℕ) → reads (Some (name a k)) (blanks n ++ (125 ∷ rest)) ≡ reads (Some (out a)) rest
name_reads_blanks a k zero rest = ap (λ o. reads o rest) (cond-false _ _ _ close_ungrouped)
name_reads_blanks a k (suc n) rest =
    ap (λ o. reads o (blanks n ++ (125 ∷ rest))) (cond-false _ _ _ blank_ungrouped)
    ∙ reads_append (Some (braced a)) (blanks n) (125 ∷ rest)
    ∙ ap (λ o. reads o (125 ∷ rest)) (reads_blanks (braced a) refl n)

pub reads_group : (a : At) (g rest : List ℕ) (x y : ℕ) → IsGroupName g → reads (Some (out a)) (123 ∷ (blanks x ++ (g ++ (blanks y ++ (125 ∷ rest))))) ≡ reads (Some (out (item a))) rest
reads_group a g rest x y h =
    let c = item a in
    ap (λ o. reads o (blanks x ++ (g ++ (blanks y ++ (125 ∷ rest))))) (out_brace a)
    ∙ reads_append (Some (brace c)) (blanks x) (g ++ (blanks y ++ (125 ∷ rest)))
    ∙ ap (λ o. reads o (g ++ (blanks y ++ (125 ∷ rest)))) (reads_blanks (brace c) refl x)
    ∙ reads_append (Some (brace c)) g (blanks y ++ (125 ∷ rest))
    ∙ ap (λ o. reads o (blanks y ++ (125 ∷ rest))) (brace_reads_name c g h)
    ∙ name_reads_blanks c (length g) y rest

-- after a word that word bytes do not go on, reading goes on as between signs
pub word_past : (a c : At) (k : ℕ) (rest : List ℕ) → Past word_byte rest → Lands (reads (Some (out a)) rest) c → Lands (reads (Some (word a k)) rest) c
word_past a c k [] p h = h
word_past a c k (b ∷ rest) p h = subst (λ o. Lands (reads o rest) c) (sym (cond-false _ _ _ p)) h

-- a group reference before the rest of a text
pub group_bytes : (g rest : List ℕ) (x y : ℕ) → (123 ∷ (blanks x ++ (g ++ (blanks y ++ (125 ∷ []))))) ++ rest ≡ 123 ∷ (blanks x ++ (g ++ (blanks y ++ (125 ∷ rest))))
group_bytes g rest x y =
    ap (λ t. 123 ∷ t)
    (append_assoc (blanks x) (g ++ (blanks y ++ (125 ∷ []))) rest
    ∙ ap (λ t. blanks x ++ t) (append_assoc g (blanks y ++ (125 ∷ [])) rest ∙ ap (λ t. g ++ t) (append_assoc (blanks y) (125 ∷ []) rest)))

-- the machine reads what spells signs that the machine of signs reads
signed_lands : (o : Option At) (ss : List Sign) (rest : List ℕ) (c : At) → sign_run o ss ≡ Some c → ((a : At) → sign_run (Some a) ss ≡ Some c → Lands (reads (Some (out a)) rest) c) → Lands (reads (lift o) rest) c
signed_lands None ss rest c e on = let z : ◌≡◌ {A = ℕ} 0 1 = let y = sym (sign_run_none ss) ∙ e in cc in absurd (omega arith)
signed_lands (Some a) ss rest c e on = on a e

show_reads : {u rest : List ℕ} {s : Sign} → Shows u rest s → (ss : List Sign) (a c : At) → sign_run (sign_step a s) ss ≡ Some c → ((x : At) → sign_run (Some x) ss ≡ Some c → Lands (reads (Some (out x)) rest) c) → Lands (reads (Some (out a)) (u ++ rest)) c
show_reads (shows_word {w = w} {rest = rest} h p) ss (within d due) c e on =
    subst (λ o. Lands o c) (sym (reads_append (Some (out (within d due))) w rest ∙ ap (λ o. reads o rest) (out_reads_word (within d due) w h)))
    (word_past (within d false) c (length w) rest p (on (within d false) e))
show_reads (shows_mark {b = b} {rest = rest} {s = s} is) ss a c e on = subst (λ o. Lands (reads o rest) c) (sym (out_sign a b s is)) (signed_lands (sign_step a s) ss rest c e on)
show_reads (shows_group {g = g} {rest = rest} x y h) ss (within d due) c e on =
    subst (λ o. Lands o c) (sym (ap (reads (Some (out (within d due)))) (group_bytes g rest x y) ∙ reads_group (within d due) g rest x y h)) (on (within d false) e)

pub spells_reads : {t : List ℕ} {ss : List Sign} → Spells t ss → (a c : At) → sign_run (Some a) ss ≡ Some c → Lands (reads (Some (out a)) t) c
spells_reads (ends n) a c e = subst (λ o. Lands o c) (sym (reads_blanks (out a) refl n)) (cc)
spells_reads (next {bytes = bytes} {rest = rest} {ss = ss} n sh sp) a c e =
    subst (λ o. Lands o c) (sym (reads_append (Some (out a)) (blanks n) (bytes ++ rest) ∙ ap (λ o. reads o (bytes ++ rest)) (reads_blanks (out a) refl n)))
    (show_reads sh ss a c e (λ x f. spells_reads sp x c f))
