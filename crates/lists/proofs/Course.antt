-- Readings that follow one another.
use Rattle.std.proofs.Common.{◌≡◌, ℕ, zero, suc, ◌-◌, ◌≤◌, Bool, false, ◌⊎◌, List, [], ◌∷◌, length, take, drop, Some, Option, sym, refl, ap, ◌∙◌, subst, inl, inr, ⊎_elim, arith}
use Rattle.std.proofs.lemmas.Bool.{cond-false}
use Rattle.names.specs.Words.{word_byte}
use Rattle.lists.specs.Trees.{Sign}
use Rattle.lists.specs.Bytes.{part, Past}
use Rattle.lists.specs.Tokens.{Shows, shows_word, shows_mark, shows_group}
use Rattle.lists.specs.Lexemes.{Gap, TokenAt}
use Rattle.lists.specs.Machine.{At, within, sign_step, State, out, word, brace, name, braced, lift, byte_step, reads, Stands, Leads}
use Rattle.lists.proofs.Machine.{Rests, reads_append, reads_blanks, out_sign, out_reads_word, reads_group}
use Rattle.lists.proofs.Segments.{part_length, part_join, part_none}
use Rattle.lists.proofs.Lexing.{gap_blanks}
use Rattle.lists.proofs.Tallies.{is_brace, depth}

past_take : (p : ℕ → Bool) (n : ℕ) (t : List ℕ) → Past p t → Past p (take n t)
past_take p zero t h = tt
past_take p (suc n) [] h = tt
past_take p (suc n) (b ∷ t) h = h

-- reading on from a word's end is reading on between signs
word_on : (a : At) (n : ℕ) (u : List ℕ) → Past word_byte u → (reads (Some (word a n)) u ≡ reads (Some (out a)) u) ⊎ (u ≡ [])
word_on a n [] h = inr refl
word_on a n (b ∷ u) h = inl (ap (λ o. reads o u) (cond-false _ _ _ h))

-- two states that read on alike: one of them may be at a word's end
pub data Alike : State → State → List ℕ → Type 0 where
  same : {s : State} {rest : List ℕ} → Alike s s rest
  ended : {a : At} {n : ℕ} {rest : List ℕ} → Past word_byte rest → Alike (out a) (word a n) rest

pub alike_stands : {q s : State} {rest : List ℕ} (c : At) → Alike q s rest → Stands q c rest → Stands s c rest
alike_stands c same h = h
alike_stands c (ended p) h = (h, p)

pub alike_step : {q s : State} (b : ℕ) (rest : List ℕ) → Alike q s (b ∷ rest) → byte_step s b ≡ byte_step q b
alike_step b rest same = refl
alike_step b rest (ended p) = cond-false _ _ _ p

pub alike_brace : {q s : State} {rest : List ℕ} → Alike q s rest → is_brace s ≡ is_brace q
alike_brace same = refl
alike_brace (ended p) = refl

pub alike_depth : {q s : State} {rest : List ℕ} → Alike q s rest → depth s ≡ depth q
alike_depth same = refl
alike_depth (ended p) = refl

-- from where a reading stands, the next goes on
pub onward : (text : List ℕ) (j k : ℕ) (s : State) (a : At) (q : State) → j ≤ k → k ≤ length text → Stands s a (drop j text) → reads (Some (out a)) (part text j k) ≡ Some q → (s' : State) × ((reads (Some s) (part text j k) ≡ Some s') × Alike q s' (drop k text))
onward text j k (out x) a q le within_text st r = (q, (ap (λ c. reads (Some (out c)) (part text j k)) st ∙ r, same))
onward text j k (word x n) a q le within_text st r =
    ⊎_elim
    (λ e. (q, (e ∙ ap (λ c. reads (Some (out c)) (part text j k)) st.0 ∙ r, same)))
    (λ none.
    let at_end : k ≡ j = omega (arith, part_length text j k le within_text, ap length none) in
    let q-is : q ≡ out a = some_same q (out a) (sym r ∙ ap (reads (Some (out a))) none) in (
      word a n,
      (
        ap (reads (Some (word x n))) none ∙ ap (λ c. Some (word c n)) st.0,
        subst (λ z. Alike z (word a n) (drop k text)) (sym q-is) (ended (subst (λ m. Past word_byte (drop m text)) (sym at_end) st.1)),
      ),
    ))
    (word_on x n (part text j k) (past_take word_byte (k - j) (drop j text) st.1))
  where
    some_same : (x y : State) → ◌≡◌ {A = Option State} (Some x) (Some y) → x ≡ y
    some_same x y e = cc
onward text j k (brace x) a q le within_text st r = absurd st
onward text j k (name x n) a q le within_text st r = absurd st
onward text j k (braced x) a q le within_text st r = absurd st

pub leads_join : {text : List ℕ} {i j k : ℕ} {a b c : At} → Leads text i j a b → Leads text j k b c → Leads text i k a c
leads_join {text} {i} {j} {k} {a} {b} {c} p q =
    let o = onward text j k p.state b q.state q.forward q.within_text p.stands q.reading in
    record {
      forward = omega (arith, p.forward, q.forward);
      within_text = q.within_text;
      state = o.0;
      reading = ap (reads (Some (out a))) (part_join text i j k p.forward q.forward) ∙ reads_append (Some (out a)) (part text i j) (part text j k) ∙ ap (λ x. reads x (part text j k)) p.reading ∙ o.1.0;
      stands = alike_stands c o.1.1 q.stands;
    }

pub leads_none : (text : List ℕ) (i : ℕ) (a : At) → i ≤ length text → Leads text i i a a
leads_none text i a le = record { forward = omega arith; within_text = le; state = out a; reading = ap (reads (Some (out a))) (part_none text i); stands = refl }

-- blanks lead nowhere else
pub gap_reads : (text : List ℕ) (i j : ℕ) (a : At) → Gap text i j → reads (Some (out a)) (part text i j) ≡ Some (out a)
gap_reads text i j a g = ap (reads (Some (out a))) (gap_blanks text i j g) ∙ reads_blanks (out a) refl (j - i)

pub gap_leads : (text : List ℕ) (i j : ℕ) (a : At) → Gap text i j → Leads text i j a a
gap_leads text i j a g = record { forward = g.forward; within_text = g.within; state = out a; reading = gap_reads text i j a g; stands = refl }

-- a token leads where its sign does
same_at : (x y : At) → ◌≡◌ {A = Option At} (Some x) (Some y) → x ≡ y
same_at x y e = cc

shows_leads : {u rest : List ℕ} {s : Sign} → Shows u rest s → (a c : At) → sign_step a s ≡ Some c → (st : State) × ((reads (Some (out a)) u ≡ Some st) × Stands st c rest)
shows_leads (shows_word {w = w} h p) (within d due) c e = (word (within d false) (length w), (out_reads_word (within d due) w h, (same_at (within d false) c e, p)))
shows_leads (shows_mark {b = b} {s = s} is) a c e = (out c, (out_sign a b s is ∙ ap lift e, refl))
shows_leads (shows_group {g = g} x y h) (within d due) c e = (out c, (reads_group (within d due) g [] x y h ∙ ap (λ z. Some (out z)) (same_at (within d false) c e), refl))

pub token_leads : (text : List ℕ) (from place end : ℕ) (s : Sign) (a c : At) → TokenAt text from place end s → sign_step a s ≡ Some c → Leads text from end a c
token_leads text from place end s a c t e =
    let r = shows_leads t.shows a c e in
    leads_join (gap_leads text from place a t.gap) (record { forward = omega (arith, t.some); within_text = t.within; state = r.0; reading = r.1.0; stands = r.1.1 })

-- where a reading stands it lands
pub stands_lands : (s : State) (c : At) (rest : List ℕ) → Stands s c rest → Rests s c
stands_lands (out a) c rest h = h
stands_lands (word a k) c rest h = h.0
stands_lands (brace a) c rest h = h
stands_lands (name a k) c rest h = h
stands_lands (braced a) c rest h = h
