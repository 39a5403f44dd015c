-- What the reader finds at a place.
use Rattle.std.proofs.Common.{◌≡◌, ℕ, ◌+◌, ◌-◌, ◌<◌, ◌≤◌, Bool, true, false, eqb, List, [], ◌∷◌, ◌++◌, length, get_or, drop, Some, sym, ap, ◌∙◌, subst, ⊎_elim, arith}
use borrow.Author.Tests.{clash}
use Rattle.std.proofs.lemmas.Bool.{cases_lt}
use Rattle.std.specs.List.{AllByRecursion}
use Rattle.faults.specs.declared.kind.Kind.TheVariants.{WordTooLongInList, GroupNameUnlawful}
use Rattle.names.specs.Words.{word_byte}
use Rattle.names.specs.Faults.{fault}
use Rattle.lists.specs.Trees.{Sign, atom, word, group}
use Rattle.lists.specs.Bytes.{group_byte, IsGroupName, blanks, sign_of, part, Past, Run}
use Rattle.lists.specs.Tokens.{Shows, shows_word, shows_mark, shows_group}
use Rattle.lists.specs.Lexemes.{Gap, is_closing, TokenAt, TokenFault, long_word, no_name, long_name, no_brace}
use Rattle.lists.proofs.Segments.{part_length, part_join, part_one, past_byte, past_end, past_at, all_blanks}
use Rattle.lists.proofs.Elements.{every_front}

module _ (text : List ℕ) where
  -- a run that begins with a byte of its kind has some
  run_some : (p : ℕ → Bool) (i j : ℕ) → i < length text → p (get_or text i 0) ≡ true → Run p text i j → i < j
  run_some p i j lt is r =
      ⊎_elim (λ h. h) (λ le. let same : j ≡ i = omega (arith, r.forward) in absurd (clash (sym (past_at p text i lt (subst (λ k. Past p (drop k text)) same r.past)) ∙ is))) (cases_lt i j)

  -- the first bytes of a run are of its kind
  run_front : (p : ℕ → Bool) (i j k : ℕ) → i ≤ k → k ≤ j → Run p text i j → AllByRecursion (λ b. p b ≡ true) (part text i k)
  run_front p i j k le le' r = every_front (λ b. p b ≡ true) (part text i k) (part text k j) (subst (AllByRecursion (λ b. p b ≡ true)) (part_join text i k j le le') r.bytes)

  -- a gap is blanks
  pub gap_blanks : (i j : ℕ) → Gap text i j → part text i j ≡ blanks (j - i)
  gap_blanks i j g = all_blanks (part text i j) g.bytes ∙ ap blanks (part_length text i j g.forward g.within)

  module _ (from place : ℕ) (gap : Gap text from place) (inside : place < length text) where
    pub word_token : (end : ℕ) → word_byte (get_or text place 0) ≡ true → Run word_byte text place end → end - place ≤ 32 → TokenAt text from place end (atom (word (part text place end)))
    word_token end is r few =
        let some : place < end = run_some word_byte place end inside is r in
        let long = part_length text place end r.forward r.within in
        record { gap = gap; some = some; within = r.within; shows = shows_word (record { some = omega (arith, long); few = omega (arith, long); bytes = r.bytes }) r.past }

    pub word_long : (end : ℕ) → Run word_byte text place end → 32 < end - place → TokenFault text from (fault WordTooLongInList (place + 32))
    word_long end r many = long_word gap (omega (arith, r.within)) (run_front word_byte place end (place + 33) (omega arith) (omega arith) r)

    pub mark_token : (s : Sign) → sign_of (get_or text place 0) ≡ Some s → TokenAt text from place (place + 1) s
    mark_token s is = record { gap = gap; some = omega arith; within = omega arith; shows = subst (λ u. Shows u (drop (place + 1) text) s) (sym (part_one text place inside)) (shows_mark is) }

    module _ (start end : ℕ) (brace : get_or text place 0 ≡ 123) (before : Gap text (place + 1) start) (names : Run group_byte text start end) where
      pub name_missing : end ≡ start → TokenFault text from (fault GroupNameUnlawful start)
      name_missing e = no_name gap inside brace before (subst (λ k. Past group_byte (drop k text)) e names.past)

      pub name_long : 32 < end - start → TokenFault text from (fault GroupNameUnlawful (start + 32))
      name_long many = long_name gap inside brace before (omega (arith, names.within)) (run_front group_byte start end (start + 33) (omega arith) (omega arith) names)

      module _ (some : end ≡ start → ⊥) (few : end - start ≤ 32) where
        is_name : IsGroupName (part text start end)
        is_name =
            let long = part_length text start end names.forward names.within in
            record { some = omega (arith, long, names.forward); few = omega (arith, long); bytes = names.bytes }

        module _ (close : ℕ) (after : Gap text end close) where
          pub brace_missing : (close < length text → eqb (get_or text close 0) 125 ≡ false) → TokenFault text from (fault GroupNameUnlawful close)
          brace_missing other =
              no_brace gap inside brace before names.forward is_name names.past after
              (⊎_elim (λ lt. past_byte is_closing text close lt (other lt)) (λ le. past_end is_closing text close le) (cases_lt close (length text)))

          pub group_token : close < length text → get_or text close 0 ≡ 125 → TokenAt text from place (close + 1) (group (part text start end))
          group_token lt is =
              let a = before.forward in
              let b = names.forward in
              let c = after.forward in
              let tail : part text end (close + 1) ≡ blanks (close - end) ++ (125 ∷ []) = part_join text end close (close + 1) c (omega arith) ∙ (λ i. gap_blanks end close after i ++ (part_one text close lt ∙ ap (λ x. x ∷ []) is) i) in
              let name : part text start (close + 1) ≡ part text start end ++ (blanks (close - end) ++ (125 ∷ [])) = part_join text start end (close + 1) b (omega arith) ∙ ap (λ u. part text start end ++ u) tail in
              let inner : part text (place + 1) (close + 1) ≡ blanks (start - (place + 1)) ++ (part text start end ++ (blanks (close - end) ++ (125 ∷ []))) = part_join text (place + 1) start (close + 1) a (omega arith) ∙ (λ i. gap_blanks (place + 1) start before i ++ name i) in
              let whole : part text place (close + 1) ≡ 123 ∷ (blanks (start - (place + 1)) ++ (part text start end ++ (blanks (close - end) ++ (125 ∷ [])))) = part_join text place (place + 1) (close + 1) (omega arith) (omega arith) ∙ (λ i. (part_one text place inside ∙ ap (λ x. x ∷ []) brace) i ++ inner i) in
              record { gap = gap; some = omega arith; within = omega arith; shows = subst (λ u. Shows u (drop (close + 1) text) (group (part text start end))) (sym whole) (shows_group (start - (place + 1)) (close - end) is_name) }
