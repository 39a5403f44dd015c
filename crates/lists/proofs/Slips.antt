-- Each fault of the check, from what the reader found.
use Rattle.std.proofs.Common.{◌≡◌, ℕ, zero, suc, ◌+◌, ◌-◌, ◌<◌, ◌≤◌, Bool, true, false, cond, ◌||◌, eqb, ltb, List, [], ◌∷◌, ◌++◌, length, get_or, take, drop, Some, None, Err, Option, sym, refl, ap, ◌∙◌, subst, ⊎_elim, arith, le-ltb, eqb-true}
use Rattle.std.proofs.lemmas.List.{take_all, take_rest}
use Rattle.std.proofs.lemmas.List.Edits.{get_or-between}
use Rattle.std.proofs.lemmas.Bool.{cond-true, cond-false, cases_Bool}
use Rattle.std.specs.List.{AllByRecursion}
use Rattle.faults.specs.declared.fault.Fault.{Fault}
use Rattle.faults.specs.declared.kind.Kind.{Kind}
use Rattle.faults.specs.declared.kind.Kind.TheVariants.{ByteNotAllowedInList, WordTooLongInList, ItemMissing, BracketUnmatched, BracketsTooDeep, GroupNameUnlawful}
use Rattle.names.specs.Words.{word_byte, Word}
use Rattle.names.specs.Faults.{fault}
use Rattle.lists.specs.Trees.{Sign, atom, word as word-atom, dot, at, plus, any, group, open_bracket, close_bracket, star, bar}
use Rattle.lists.specs.Bytes.{group_byte, IsGroupName, blanks, sign_of, part, Past}
use Rattle.lists.specs.Tokens.{Shows, shows_word, shows_mark, shows_group}
use Rattle.lists.specs.declared.token.Token.{Token}
use Rattle.lists.specs.declared.token.Token.TheVariants.{Word as Token-Word, Dot, At as Token-At, Plus, Any, Open, Close, Star, Bar, Group}
use Rattle.lists.specs.Lexemes.{sign, Gap, is_blank, is_closing, TokenAt, NoSign, TokenFault, bad_byte, long_word, no_name, long_name, no_brace}
use Rattle.lists.specs.Faults.{unmatched, kind_here, Slip, unclosed}
use Rattle.lists.specs.Machine.{Closes, ItemStands, NotBlank, BracketOpens, At, within, sign_step, State, out, word, brace, name, braced, item, lift, signed, byte_step, reads, start, Stands, Leads, Enters, ListRead, ItemRead}
use Rattle.lists.proofs.Signs.{step_open, step_close}
use Rattle.lists.proofs.Machine.{Lands, reads_append, reads_blanks, out_sign, out_brace, out_reads_word, brace_reads_name, blank_ungrouped, sign_cases}
use Rattle.lists.proofs.Viable.{reads_item, closes_item}
use Rattle.lists.proofs.Segments.{part_length, part_join, part_none, part_one, part_more, past_at}
use Rattle.lists.proofs.Elements.{every_front}
use Rattle.lists.proofs.Lexing.{gap_blanks}
use Rattle.lists.proofs.Tallies.{is_brace, depth}
use Rattle.lists.proofs.Course.{alike_brace, alike_depth, gap_reads, gap_leads, leads_join, token_leads, stands_lands}
use Rattle.lists.proofs.Halts.{item_list, Halt, Stop, halt_slip, stop_halt, kind_braced, kind_byte, kind_end, unmatched_none, unmatched_some, due_unfinished}

-- the byte that is a sign by itself
abbrev byte_of : Sign → ℕ
byte_of (atom (word-atom w)) = 0
byte_of (atom dot) = 46
byte_of (atom at) = 64
byte_of (atom plus) = 43
byte_of (atom any) = 33
byte_of (group g) = 0
byte_of open_bracket = 40
byte_of close_bracket = 41
byte_of star = 42
byte_of bar = 124

-- a sign that is a byte by itself
abbrev pub Mark : Sign → Type 0
Mark (atom (word-atom w)) = ⊥
Mark (atom dot) = Unit {0}
Mark (atom at) = Unit {0}
Mark (atom plus) = Unit {0}
Mark (atom any) = Unit {0}
Mark (group g) = ⊥
Mark open_bracket = Unit {0}
Mark close_bracket = Unit {0}
Mark star = Unit {0}
Mark bar = Unit {0}

sign_byte : (b : ℕ) (s : Sign) → sign_of b ≡ Some s → b ≡ byte_of s
sign_byte = sign_cases (λ b s. b ≡ byte_of s) refl refl refl refl refl refl refl refl

-- the kind of fault at each byte
kind_open : (front rest : List ℕ) → BracketsTooDeep ≡ kind_here front (40 ∷ rest)
unfolding word_byte
kind_open front rest = refl

kind_close : (front rest : List ℕ) → cond (unmatched front) BracketUnmatched ItemMissing ≡ kind_here front (41 ∷ rest)
unfolding word_byte
kind_close front rest = refl

kind_star : (front rest : List ℕ) → ItemMissing ≡ kind_here front (42 ∷ rest)
unfolding word_byte
kind_star front rest = refl

kind_bar : (front rest : List ℕ) → ItemMissing ≡ kind_here front (124 ∷ rest)
unfolding word_byte
kind_bar front rest = refl

kind_other : (b : ℕ) (front rest : List ℕ) → NoSign b → ByteNotAllowedInList ≡ kind_here front (b ∷ rest)
unfolding sign_of
kind_other b front rest n =
    sym (cond-false _ _ _ n.no_word
    ∙ cond-false _ _ _ (unlike 40 open_bracket refl)
    ∙ cond-false _ _ _ (unlike 41 close_bracket refl)
    ∙ cond-false _ _ _ ((λ i. unlike 42 star refl i || unlike 124 bar refl i)))
  where
    unlike : (k : ℕ) (s : Sign) → sign_of k ≡ Some s → eqb b k ≡ false
    unlike k s is =
        ⊎_elim
        (λ e. let z : ◌≡◌ {A = Option Sign} None (Some s) = sym n.no_mark ∙ ap sign_of (eqb-true b k e) ∙ is in let y : ◌≡◌ {A = ℕ} 0 1 = cc in absurd (omega arith))
        (λ e. e)
        (cases_Bool (eqb b k))

module _ (text : List ℕ) (marked : NotBlank text) where
  -- a stop in braces, and one elsewhere
  braced_slip : (from place : ℕ) (a : At) → Leads text 0 from (within 0 true) a → (s : Stop text marked from place a) → is_brace s.here ≡ true → Slip text (fault GroupNameUnlawful place)
  braced_slip from place a p s e = let h = stop_halt text marked from place a p s in halt_slip text marked place GroupNameUnlawful h.0 (kind_braced text marked place h.0 (alike_brace h.1 ∙ e))

  byte_slip : (from place : ℕ) (a : At) (k : Kind) → Leads text 0 from (within 0 true) a → (s : Stop text marked from place a) → is_brace s.here ≡ false → place < length text → ((h : Halt text marked place) → depth h.state ≡ depth s.here → k ≡ kind_here (take place text) (get_or text place 0 ∷ drop (place + 1) text)) → Slip text (fault k place)
  byte_slip from place a k p s e lt kind =
      let h = stop_halt text marked from place a p s in
      halt_slip text marked place k h.0 (kind h.0 (alike_depth h.1) ∙ kind_byte text marked place h.0 (alike_brace h.1 ∙ e) lt)

  -- a stop right after blanks
  abbrev gap_stop : (from place : ℕ) (a : At) → Gap text from place → place < length text → byte_step (out a) (get_or text place 0) ≡ None → Stop text marked from place a
  gap_stop from place a g lt e = record { forward = g.forward; inside = omega arith; here = out a; reading_on = gap_reads text from place a g; stops_here = λ _. e; ends_here = λ f. absurd (omega arith) }

  -- reading on after blanks, and after the brace at their end
  after_gap : (from p place : ℕ) (a : At) (s : State) → Gap text from p → p ≤ place → reads (Some (out a)) (part text p place) ≡ Some s → reads (Some (out a)) (part text from place) ≡ Some s
  after_gap from p place a s g le e = ap (reads (Some (out a))) (part_join text from p place g.forward le) ∙ reads_append (Some (out a)) (part text from p) (part text p place) ∙ ap (λ o. reads o (part text p place)) (gap_reads text from p a g) ∙ e

  after_brace : (from p x place : ℕ) (a : At) (s : State) → Gap text from p → p < length text → get_or text p 0 ≡ 123 → Gap text (p + 1) x → x ≤ place → reads (Some (brace (item a))) (part text x place) ≡ Some s → reads (Some (out a)) (part text from place) ≡ Some s
  after_brace from p x place a s g lt is blank le e =
      let inner : reads (Some (brace (item a))) (part text (p + 1) place) ≡ Some s = ap (reads (Some (brace (item a)))) (part_join text (p + 1) x place blank.forward le) ∙ reads_append (Some (brace (item a))) (part text (p + 1) x) (part text x place) ∙ ap (λ o. reads o (part text x place)) (ap (reads (Some (brace (item a)))) (gap_blanks text (p + 1) x blank) ∙ reads_blanks (brace (item a)) refl (x - (p + 1))) ∙ e in
      after_gap from p place a s g (omega (arith, blank.forward))
      (ap (reads (Some (out a))) (part_join text p (p + 1) place (omega arith) (omega (arith, blank.forward)) ∙ ap (λ u. u ++ part text (p + 1) place) (part_one text p lt ∙ ap (λ b. b ∷ []) is))
      ∙ ap (λ o. reads o (part text (p + 1) place)) (out_brace a)
      ∙ inner)

  -- the last of 33 bytes
  last_byte : (P : ℕ → Type 0) (p : ℕ) → p + 32 < length text → AllByRecursion P (part text p (p + 33)) → AllByRecursion P (part text p (p + 32)) × P (get_or text (p + 32) 0)
  last_byte P p lt h =
      let one_more : p + 33 ≡ p + 32 + 1 = omega arith in
      let h' = subst (AllByRecursion P) (ap (part text p) one_more ∙ part_more text p (p + 32) (omega arith) lt) h in
      (every_front P (part text p (p + 32)) _ h', last (part text p (p + 32)) h')
    where
      last : (u : List ℕ) → AllByRecursion P (u ++ (get_or text (p + 32) 0 ∷ [])) → P (get_or text (p + 32) 0)
      last [] q = q.0
      last (b ∷ u) q = last u q.1

  not_full : (n : ℕ) → n ≡ 32 → ltb n 32 ≡ false
  not_full n e = le-ltb n 32 (omega arith)

  -- what follows a group name and blanks
  after_name : (a : At) (k n : ℕ) → (s : State) × ((reads (Some (name a k)) (blanks n) ≡ Some s) × ((is_brace s ≡ true) × ((b : ℕ) → (n ≡ 0 → group_byte b ≡ false) → is_blank b ≡ false → is_closing b ≡ false → byte_step s b ≡ None)))
  after_name a k zero = (name a k, (refl, (refl, λ b g bl cl. cond-false _ _ _ (g refl) ∙ cond-false _ _ _ bl ∙ cond-false _ _ _ cl)))
  after_name a k (suc n) = (braced a, (ap (λ o. reads o (blanks n)) (cond-false _ _ _ blank_ungrouped) ∙ reads_blanks (braced a) refl n, (refl, λ b g bl cl. cond-false _ _ _ bl ∙ cond-false _ _ _ cl)))

  -- what the reader tells is a slip
  pub token_slip : (from : ℕ) (a : At) (f : Fault) → Leads text 0 from (within 0 true) a → TokenFault text from f → Slip text f
  token_slip from a f p (bad_byte {p = q} g lt n) =
      byte_slip from q a ByteNotAllowedInList p
      (gap_stop from q a g lt (cond-false _ _ _ n.no_blank ∙ cond-false _ _ _ n.no_word ∙ cond-false _ _ _ n.no_brace ∙ ap (signed a) n.no_mark))
      refl lt (λ h d. kind_other (get_or text q 0) (take q text) (drop (q + 1) text) n)
  token_slip from a f p (long_word {p = q} g lt bs) =
      let parts = last_byte (λ b. word_byte b ≡ true) q lt bs in
      let long = part_length text q (q + 32) (omega arith) (omega arith) in
      let is_word : Word (part text q (q + 32)) = record { some = omega (arith, long); few = omega (arith, long); bytes = parts.0 } in
      byte_slip from (q + 32) a WordTooLongInList p
      (record {
        forward = omega (arith, g.forward);
        inside = omega arith;
        here = word (item a) (length (part text q (q + 32)));
        reading_on = after_gap from q (q + 32) a (word (item a) (length (part text q (q + 32)))) g (omega arith) (out_reads_word a (part text q (q + 32)) is_word);
        stops_here = λ _. cond-true _ _ _ parts.1 ∙ cond-false _ _ _ (not_full (length (part text q (q + 32))) (omega (arith, long)));
        ends_here = λ e. absurd (omega arith);
      })
      refl lt (λ h d. sym (cond-true _ _ _ parts.1))
  token_slip from a f p (no_name {p = q} {x = x} g lt is blank past) =
      braced_slip from x a p
      (record {
        forward = omega (arith, g.forward, blank.forward);
        inside = blank.within;
        here = brace (item a);
        reading_on = after_brace from q x x a (brace (item a)) g lt is blank (omega arith) (ap (reads (Some (brace (item a)))) (part_none text x));
        stops_here = λ l. cond-false _ _ _ (past_at is_blank text x l blank.past) ∙ cond-false _ _ _ (past_at group_byte text x l past);
        ends_here = λ _. refl;
      })
      refl
  token_slip from a f p (long_name {p = q} {x = x} g lt is blank l bs) =
      let parts = last_byte (λ b. group_byte b ≡ true) x l bs in
      let long = part_length text x (x + 32) (omega arith) (omega arith) in
      let is_name : IsGroupName (part text x (x + 32)) = record { some = omega (arith, long); few = omega (arith, long); bytes = parts.0 } in
      braced_slip from (x + 32) a p
      (record {
        forward = omega (arith, g.forward, blank.forward);
        inside = omega arith;
        here = name (item a) (length (part text x (x + 32)));
        reading_on = after_brace from q x (x + 32) a (name (item a) (length (part text x (x + 32)))) g lt is blank (omega arith) (brace_reads_name (item a) (part text x (x + 32)) is_name);
        stops_here = λ _. cond-true _ _ _ parts.1 ∙ cond-false _ _ _ (not_full (length (part text x (x + 32))) (omega (arith, long)));
        ends_here = λ _. refl;
      })
      refl
  token_slip from a f p (no_brace {p = q} {x = x} {e = e} {y = y} g lt is blank le is_name past after close) =
      let n = after_name (item a) (length (part text x e)) (y - e) in
      braced_slip from y a p
      (record {
        forward = omega (arith, g.forward, blank.forward, after.forward);
        inside = after.within;
        here = n.0;
        reading_on =
            after_brace from q x y a n.0 g lt is blank (omega (arith, after.forward))
            (ap (reads (Some (brace (item a)))) (part_join text x e y le after.forward)
            ∙ reads_append (Some (brace (item a))) (part text x e) (part text e y)
            ∙ ap (λ o. reads o (part text e y)) (brace_reads_name (item a) (part text x e) is_name)
            ∙ ap (reads (Some (name (item a) (length (part text x e))))) (gap_blanks text e y after)
            ∙ n.1.0);
        stops_here = λ l. n.1.1.1 (get_or text y 0) (λ z. let same : e ≡ y = omega (arith, after.forward) in past_at group_byte text y l (subst (λ k. Past group_byte (drop k text)) same past)) (past_at is_blank text y l after.past) (past_at is_closing text y l close);
        ends_here = λ _. n.1.1.0;
      })
      n.1.1.0

  -- the byte of a sign that is one by itself
  pub token_byte : (from place end : ℕ) (s : Sign) → Mark s → TokenAt text from place end s → (place < length text) × ((get_or text place 0 ≡ byte_of s) × (sign_of (get_or text place 0) ≡ Some s))
  token_byte from place end s m t =
      let same : place + 0 ≡ place = omega arith in
      (omega (arith, t.some, t.within), by_shows t.shows m (get_or-between text place end 0 0 (omega (arith, t.some)) ∙ ap (λ k. get_or text k 0) same))
    where
      by_shows : {u rest : List ℕ} {x : Sign} → Shows u rest x → Mark x → get_or u 0 0 ≡ get_or text place 0 → (get_or text place 0 ≡ byte_of x) × (sign_of (get_or text place 0) ≡ Some x)
      by_shows (shows_word h p) m g = absurd m
      by_shows (shows_mark {b = b} {s = x} is) m g = (sym g ∙ sign_byte b x is, ap sign_of (sym g) ∙ is)
      by_shows (shows_group x y h) m g = absurd m

  sign_slip : (from place end : ℕ) (s : Sign) (d : ℕ) (due : Bool) (k : Kind) → Mark s → Leads text 0 from (within 0 true) (within d due) → TokenAt text from place end s → sign_step (within d due) s ≡ None → ((h : Halt text marked place) → depth h.state ≡ d → k ≡ kind_here (take place text) (byte_of s ∷ drop (place + 1) text)) → Slip text (fault k place)
  sign_slip from place end s d due k m p t none kind =
      let b = token_byte from place end s m t in
      byte_slip from place (within d due) k p (gap_stop from place (within d due) t.gap b.0 (out_sign (within d due) (get_or text place 0) s b.1.1 ∙ ap lift none)) refl b.0
      (λ h e. kind h e ∙ ap (λ x. kind_here (take place text) (x ∷ drop (place + 1) text)) (sym b.1.0))

  no_close : (due : Bool) → sign_step (within 0 due) close_bracket ≡ None
  no_close true = refl
  no_close false = refl

  unmatched_slip : (from place end : ℕ) (due : Bool) → Leads text 0 from (within 0 true) (within 0 due) → TokenAt text from place end close_bracket → Slip text (fault BracketUnmatched place)
  unmatched_slip from place end due p t = sign_slip from place end close_bracket 0 due BracketUnmatched tt p t (no_close due) (λ h e. sym (cond-true _ _ _ (unmatched_none text marked place h e)) ∙ kind_close (take place text) (drop (place + 1) text))

  -- where an item is due
  close_slip : (from place end d : ℕ) → 0 < d → Leads text 0 from (within 0 true) (within d true) → TokenAt text from place end close_bracket → Slip text (fault ItemMissing place)
  close_slip from place end d some p t = sign_slip from place end close_bracket d true ItemMissing tt p t refl (λ h e. sym (cond-false _ _ _ (unmatched_some text marked place h (omega arith))) ∙ kind_close (take place text) (drop (place + 1) text))

  due_there : {i j d : ℕ} {due due' : Bool} → due ≡ due' → Leads text i j (within 0 true) (within d due) → Leads text i j (within 0 true) (within d due')
  due_there {i} {j} {d} e p = subst (λ x. Leads text i j (within 0 true) (within d x)) e p

  pub star_slip : (from place end d : ℕ) (due : Bool) (f : Fault) → Leads text 0 from (within 0 true) (within d due) → TokenAt text from place end star → ItemStands place due (Err f) → Slip text f
  star_slip from place end d due f p t (is_due, is) = subst (Slip text) (sym is) (sign_slip from place end star d true ItemMissing tt (due_there is_due p) t refl (λ h e. kind_star (take place text) (drop (place + 1) text)))

  pub bar_slip : (from place end d : ℕ) (due : Bool) (f : Fault) → Leads text 0 from (within 0 true) (within d due) → TokenAt text from place end bar → ItemStands place due (Err f) → Slip text f
  bar_slip from place end d due f p t (is_due, is) = subst (Slip text) (sym is) (sign_slip from place end bar d true ItemMissing tt (due_there is_due p) t refl (λ h e. kind_bar (take place text) (drop (place + 1) text)))

  -- a seventeenth bracket
  is_open : (b : ℕ) → b ≡ 40 → sign_of b ≡ Some open_bracket
  unfolding sign_of
  is_open b e = ap sign_of e

  pub deep_slip : (place : ℕ) → place < length text → get_or text place 0 ≡ 40 → Enters text place 16 → Slip text (fault BracketsTooDeep place)
  deep_slip place lt is (due, p) =
      byte_slip place place (within 16 due) BracketsTooDeep p
      (record { forward = omega arith; inside = omega arith; here = out (within 16 due); reading_on = ap (reads (Some (out (within 16 due)))) (part_none text place); stops_here = λ _. out_sign (within 16 due) (get_or text place 0) open_bracket (is_open _ is); ends_here = λ e. absurd (omega arith) })
      refl lt (λ h e. kind_open (take place text) (drop (place + 1) text) ∙ ap (λ x. kind_here (take place text) (x ∷ drop (place + 1) text)) (sym is))

  -- the end where an item is due
  standing : (s : State) (c : At) (rest : List ℕ) → Stands s c rest → is_brace s ≡ false
  standing (out a) c rest h = refl
  standing (word a k) c rest h = refl
  standing (brace a) c rest h = absurd h
  standing (name a k) c rest h = absurd h
  standing (braced a) c rest h = absurd h

  pub end_slip : (from d : ℕ) (due : Bool) → Leads text 0 from (within 0 true) (within d due) → Gap text from (length text) → due ≡ true → Slip text (fault ItemMissing (length text))
  end_slip from d due p g is_due =
      let w = leads_join (due_there is_due p) (gap_leads text from (length text) (within d true) g) in
      let front : length text - 0 ≡ length text = omega arith in
      let h : Halt text marked (length text) = record { within_text = omega arith; state = w.state; reading = ap (λ n. reads start (take n text)) (sym front) ∙ w.reading; stops = λ lt. absurd (omega arith); unfinished = λ _. due_unfinished w.state d _ w.stands } in
      halt_slip text marked (length text) ItemMissing h (kind_end text marked (length text) h (standing w.state (within d true) _ w.stands) refl)

  -- a bracket leads one deeper
  pub bracket_leads : (place d : ℕ) (due : Bool) → place < length text → get_or text place 0 ≡ 40 → d < 16 → Leads text place (place + 1) (within d due) (within (d + 1) true)
  bracket_leads place d due lt is few = record {
    forward = omega arith;
    within_text = omega arith;
    state = out (within (d + 1) true);
    reading = ap (reads (Some (out (within d due)))) (part_one text place lt) ∙ out_sign (within d due) (get_or text place 0) open_bracket (is_open _ is) ∙ ap lift (step_open d due few);
    stands = refl;
  }

  -- what a reader that has passed an open bracket stands behind
  pub bracket_opens : (from place end d : ℕ) (due : Bool) → d ≤ 16 → Leads text 0 from (within 0 true) (within d due) → TokenAt text from place end open_bracket → BracketOpens text place end d
  bracket_opens from place end d due few p t =
      let b = token_byte from place end open_bracket tt t in
      record { marked = marked; shallow = few; inside = b.0; bracket = b.1.0; behind = omega (arith, t.some, part_length text place end (omega (arith, t.some)) t.within, one_byte t.shows tt); enters = (due, leads_join p (gap_leads text from place (within d due) t.gap)) }
    where
      one_byte : {u rest : List ℕ} {x : Sign} → Shows u rest x → Mark x → length u ≡ 1
      one_byte (shows_word h p) m = absurd m
      one_byte (shows_mark is) m = refl
      one_byte (shows_group x y h) m = absurd m

  -- the end of the text within a bracket
  pub unclosed_slip : (place end d : ℕ) → place < length text → get_or text place 0 ≡ 40 → d < 16 → Enters text place d → ListRead text (place + 1) (d + 1) false end → Slip text (fault BracketUnmatched place)
  unclosed_slip place end d lt is few (due, p) (at_end, r) =
      let to_end : (e : ℕ) → e ≤ d + 1 → Leads text (place + 1) (length text) (within e true) (within e false) = λ e le. subst (λ k. Leads text (place + 1) k (within e true) (within e false)) at_end (r e le) in
      let inner = to_end 0 (omega arith) in
      let i = reads_item (drop (place + 1) text) (subst (λ o. Lands o (within 0 false)) (sym (ap (reads start) (sym (take_rest text (place + 1))) ∙ inner.reading)) (stands_lands inner.state (within 0 false) _ inner.stands)) in
      let w = leads_join (leads_join p (bracket_leads place d due lt is few)) (to_end (d + 1) (omega arith)) in
      let front : length text - 0 ≡ length text = omega arith in
      let whole : reads start text ≡ Some w.state = ap (reads start) (sym (take_all (length text) text (omega arith)) ∙ ap (λ n. take n text) (sym front)) ∙ w.reading in
      unclosed (record { within = lt; bracket = is; inside = i; open_brackets = d; closes = item_list (closes_item text w.state (d + 1) whole (stands_lands w.state (within (d + 1) false) _ w.stands)) })

  -- a bracket that closes is an item
  pub bracket_read : (place end d : ℕ) → place < length text → get_or text place 0 ≡ 40 → d < 16 → ListRead text (place + 1) (d + 1) true end → ItemRead text place end d
  bracket_read place end d lt is few r = (omega (arith, (r.1 0 (omega arith)).forward), λ e due le. leads_join (bracket_leads place e due lt is (omega arith)) (r.1 e (omega arith)))

  -- what a closing bracket leads to
  pub close_read : (from at_place place end d : ℕ) (due : Bool) → ((e : ℕ) → e ≤ d → Leads text from at_place (within e true) (within e due)) → TokenAt text at_place place end close_bracket → 0 < d → due ≡ false → ListRead text from d true end
  close_read from at_place place end d due on t some had =
      (some, λ e lt. leads_join (subst (λ x. Leads text from at_place (within (e + 1) true) (within (e + 1) x)) had (on (e + 1) (omega arith))) (token_leads text at_place place end close_bracket (within (e + 1) false) (within e false) t (step_close e)))

  pub close_refused : (from place end d : ℕ) (due : Bool) (f : Fault) → Leads text 0 from (within 0 true) (within d due) → TokenAt text from place end close_bracket → Closes place d due (Err f) → Slip text f
  close_refused from place end d due f p t c =
      ⊎_elim
      (λ (none, is). subst (Slip text) (sym is) (unmatched_slip from place end due (subst (λ n. Leads text 0 from (within 0 true) (within n due)) none p) t))
      (λ (some, (is_due, is)). subst (Slip text) (sym is) (close_slip from place end d some (due_there is_due p) t))
      c

-- a token that is an item
pub item_sign : (t : Token) → (t ≡ Open → ⊥) → (t ≡ Close → ⊥) → (t ≡ Star → ⊥) → (t ≡ Bar → ⊥) → (d : ℕ) (due : Bool) → sign_step (within d due) (sign t) ≡ Some (within d false)
item_sign (Token-Word w) a b c e d due = refl
item_sign Dot a b c e d due = refl
item_sign Token-At a b c e d due = refl
item_sign Plus a b c e d due = refl
item_sign Any a b c e d due = refl
item_sign Open a b c e d due = absurd (a refl)
item_sign Close a b c e d due = absurd (b refl)
item_sign Star a b c e d due = absurd (c refl)
item_sign Bar a b c e d due = absurd (e refl)
item_sign (Group g) a b c e d due = refl
