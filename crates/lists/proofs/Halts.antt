-- Where a reading halts, the text leaves the grammar.
use Rattle.std.proofs.Common.{◌≡◌, ℕ, zero, suc, ◌+◌, ◌-◌, ◌<◌, ◌≤◌, Bool, true, false, ◌⊎◌, List, [], ◌∷◌, ◌++◌, length, get_or, take, drop, replicate, Some, None, sym, refl, ap, ◌∙◌, subst, inl, inr, ⊎_elim, append-nil, arith, le-leb}
use borrow.Author.Tests.{clash, lt-leb}
use Rattle.std.proofs.lemmas.List.{drop_more, drop_all, take_all}
use Rattle.std.proofs.lemmas.Bool.{cond-true, cond-false, cases_lt}
use Rattle.faults.specs.declared.kind.Kind.{Kind}
use Rattle.faults.specs.declared.kind.Kind.TheVariants.{ItemMissing, GroupNameUnlawful}
use Rattle.names.specs.Language.{Stuck}
use Rattle.names.specs.Words.{word_byte}
use Rattle.names.specs.Faults.{fault}
use Rattle.names.proofs.Machine.{blocked, ended}
use Rattle.lists.specs.Trees.{Sign, Tree, empty, list}
use Rattle.lists.specs.Bytes.{group_byte, blanks, part}
use Rattle.lists.specs.Tokens.{Spells, ends, next}
use Rattle.lists.specs.Texts.{ItemText, ListText, tree_signs, tree_depth}
use Rattle.lists.specs.Faults.{unmatched, kind_here, kind_at, Slip, stuck}
use Rattle.lists.specs.Machine.{NotBlank, At, within, State, out, word, brace, name, braced, byte_step, reads, start, Stands, Leads}
use Rattle.lists.proofs.Machine.{Rests, Lands, lands_none, reads_append, out_sign}
use Rattle.lists.proofs.Viable.{item_lands, accepts, viable, is_close, close_out, letter_item}
use Rattle.lists.proofs.Tallies.{is_brace, depth, tally}
use Rattle.lists.proofs.Course.{Alike, alike_step, alike_brace, onward}
use Rattle.lists.proofs.Segments.{part_join}

pub item_list : {t : List ℕ} → ItemText t → ListText t
item_list h = record { tree = list h.alts; reads = h.spells; shallow = h.shallow }

-- what spells no sign is blank
no_signs : {t : List ℕ} {ss : List Sign} → Spells t ss → ss ≡ [] → (n : ℕ) × (t ≡ blanks n)
no_signs (ends n) e = (n, refl)
no_signs (next n sh sp) e = absurd (omega (arith, ap length e))

-- a list text is a list with an item, or blank
pub list_cases : (t : List ℕ) → ListText t → ItemText t ⊎ ((n : ℕ) × (t ≡ blanks n))
list_cases t h = by_tree h.tree h.reads h.shallow
  where
    by_tree : (r : Tree) → Spells t (tree_signs r) → tree_depth r ≤ 16 → ItemText t ⊎ ((n : ℕ) × (t ≡ blanks n))
    by_tree empty s d = inr (no_signs s refl)
    by_tree (list l) s d = inl (record { alts = l; spells = s; shallow = d })

-- the front of blanks is blanks
pub blank_front : (s t : List ℕ) (n : ℕ) → s ++ t ≡ blanks n → s ≡ blanks (length s)
blank_front [] t n e = refl
blank_front (b ∷ s) t zero e = absurd (omega (arith, ap length e))
blank_front (b ∷ s) t (suc n) e = λ i. ap (λ l. get_or l 0 32) e i ∷ blank_front s t n (ap (drop 1) e) i

-- closing brackets alone never make a list of what has been read
abbrev Unfinished : State → Type 0
Unfinished s = (n : ℕ) → Lands (reads (Some s) (replicate n 41)) (within 0 false) → ⊥

step_due : (d : ℕ) → byte_step (out (within d true)) 41 ≡ None
step_due d = out_sign (within d true) 41 _ is_close

stopped : (s : State) → (Rests s (within 0 false) → ⊥) → byte_step s 41 ≡ None → Unfinished s
stopped s rest e zero l = rest l
stopped s rest e (suc n) l = lands_none (replicate n 41) (within 0 false) (subst (λ o. Lands (reads o (replicate n 41)) (within 0 false)) e l)

abbrev due_of : At → Bool
due_of (within n due) = due

not_due : (d : ℕ) → within d true ≡ within 0 false → ⊥
not_due d e = clash (sym (ap due_of e))

pub due_unfinished : (s : State) (d : ℕ) (rest : List ℕ) → Stands s (within d true) rest → Unfinished s
due_unfinished (out a) d rest h = stopped (out a) (λ e. not_due d (sym h ∙ e)) (ap (λ c. byte_step (out c) 41) h ∙ step_due d)
due_unfinished (word a k) d rest h = stopped (word a k) (λ e. not_due d (sym h.0 ∙ e)) (cond-false _ _ _ close_out ∙ ap (λ c. byte_step (out c) 41) h.0 ∙ step_due d)
due_unfinished (brace a) d rest h = absurd h
due_unfinished (name a k) d rest h = absurd h
due_unfinished (braced a) d rest h = absurd h

close_apart : group_byte 41 ≡ false
unfolding group_byte word_byte
close_apart = refl

pub brace_unfinished : (s : State) → is_brace s ≡ true → Unfinished s
brace_unfinished (out a) e = absurd (clash e)
brace_unfinished (word a k) e = absurd (clash e)
brace_unfinished (brace a) e = stopped (brace a) (λ r. r) (cond-false _ _ _ close_apart)
brace_unfinished (name a k) e = stopped (name a k) (λ r. r) (cond-false _ _ _ close_apart)
brace_unfinished (braced a) e = stopped (braced a) (λ r. r) refl

module _ (text : List ℕ) (marked : NotBlank text) where
  -- where lists with items leave off, list texts do
  list_stuck : (place : ℕ) → Stuck ItemText text place → Stuck ListText text place
  list_stuck place s = record {
    within = s.within;
    before = (s.before.0, item_list s.before.1);
    beyond = λ lt b.
        ⊎_elim
        (λ i. s.beyond lt (b.0, i))
        (λ n.
        let e = blank_front (take (place + 1) text) b.0 n.0 n.1 in
        s.beyond lt (97 ∷ [], subst (λ t. ItemText (t ++ (97 ∷ []))) (sym e) (letter_item (length (take (place + 1) text)))))
        (list_cases _ b.1);
    short = λ e l. ⊎_elim (λ i. s.short e i) (λ n. marked n.0 n.1) (list_cases text l);
  }

  -- the machine has read the text up to a place and stops there
  pub record Halt (place : ℕ) : Type 0 where
    pub within_text : place ≤ length text
    pub state : State
    pub reading : reads start (take place text) ≡ Some state
    pub stops : place < length text → byte_step state (get_or text place 0) ≡ None
    pub unfinished : place ≡ length text → Unfinished state

  whole : (place : ℕ) → place ≡ length text → take place text ≡ text
  whole place e = take_all place text (omega arith)

  no_close : (place : ℕ) → Halt place → place ≡ length text → (n : ℕ) → ListText (text ++ replicate n 41) → ⊥
  no_close place h e n l =
      ⊎_elim
      (λ i. h.unfinished e n (subst (λ o. Lands o (within 0 false)) (reads_append start text (replicate n 41) ∙ ap (λ o. reads o (replicate n 41)) (ap (reads start) (sym (whole place e)) ∙ h.reading)) (item_lands _ i)))
      (λ b. marked (length text) (blank_front text (replicate n 41) b.0 b.1))
      (list_cases _ l)

  pub halt_slip : (place : ℕ) (k : Kind) → Halt place → k ≡ kind_at text place → Slip text (fault k place)
  halt_slip place k h e =
      subst (λ x. Slip text (fault x place)) (sym e)
      (stuck
      (⊎_elim
      (λ lt. list_stuck place (blocked byte_step (out (within 0 true)) ItemText accepts viable text place h.state lt h.reading (h.stops lt)))
      (λ le.
      let at_end : place ≡ length text = omega (arith, h.within_text) in
      subst (Stuck ListText text) (sym at_end)
      (list_stuck (length text) (ended byte_step (out (within 0 true)) ItemText accepts viable text h.state (ap (reads start) (sym (whole place at_end)) ∙ h.reading) (λ i. no_close place h at_end 0 (subst ListText (sym (append-nil text)) (item_list i))))))
      (cases_lt place (length text)))
      (no_close place h))

  -- what the state tells of the kind
  pub kind_braced : (place : ℕ) (h : Halt place) → is_brace h.state ≡ true → GroupNameUnlawful ≡ kind_at text place
  kind_braced place h e = sym (cond-true _ _ _ ((tally (take place text) (out (within 0 true)) h.state h.reading).braces ∙ e))

  pub kind_byte : (place : ℕ) (h : Halt place) → is_brace h.state ≡ false → place < length text → kind_here (take place text) (get_or text place 0 ∷ drop (place + 1) text) ≡ kind_at text place
  kind_byte place h e lt = ap (kind_here (take place text)) (sym (drop_more text place 0 lt)) ∙ sym (cond-false _ _ _ ((tally (take place text) (out (within 0 true)) h.state h.reading).braces ∙ e))

  pub kind_end : (place : ℕ) (h : Halt place) → is_brace h.state ≡ false → place ≡ length text → ItemMissing ≡ kind_at text place
  kind_end place h e at_end = ap (kind_here (take place text)) (sym (drop_all place text (omega arith))) ∙ sym (cond-false _ _ _ ((tally (take place text) (out (within 0 true)) h.state h.reading).braces ∙ e))

  pub unmatched_none : (place : ℕ) (h : Halt place) → depth h.state ≡ 0 → unmatched (take place text) ≡ true
  unmatched_none place h e = le-leb _ _ (omega (arith, (tally (take place text) (out (within 0 true)) h.state h.reading).brackets))

  pub unmatched_some : (place : ℕ) (h : Halt place) → 0 < depth h.state → unmatched (take place text) ≡ false
  unmatched_some place h lt = lt-leb _ _ (omega (arith, (tally (take place text) (out (within 0 true)) h.state h.reading).brackets))

  -- a reading from where another stands halts
  pub record Stop (from place : ℕ) (a : At) : Type 0 where
    pub forward : from ≤ place
    pub inside : place ≤ length text
    pub here : State
    pub reading_on : reads (Some (out a)) (part text from place) ≡ Some here
    pub stops_here : place < length text → byte_step here (get_or text place 0) ≡ None
    pub ends_here : place ≡ length text → is_brace here ≡ true

  front : (k : ℕ) → part text 0 k ≡ take k text
  front k = let e : k - 0 ≡ k = omega arith in ap (λ n. take n text) e

  pub stop_halt : (from place : ℕ) (a : At) → Leads text 0 from (within 0 true) a → (s : Stop from place a) → (h : Halt place) × Alike s.here h.state (drop place text)
  stop_halt from place a p s =
      let o = onward text from place p.state a s.here s.forward s.inside p.stands s.reading_on in (
        record {
          within_text = s.inside;
          state = o.0;
          reading = ap (reads start) (sym (front place) ∙ part_join text 0 from place p.forward s.forward) ∙ reads_append start (part text 0 from) (part text from place) ∙ ap (λ x. reads x (part text from place)) p.reading ∙ o.1.0;
          stops = λ lt. alike_step (get_or text place 0) (drop (place + 1) text) (subst (Alike s.here o.0) (drop_more text place 0 lt) o.1.1) ∙ s.stops_here lt;
          unfinished = λ e. brace_unfinished o.0 (alike_brace o.1.1 ∙ s.ends_here e);
        },
        o.1.1,
      )
