-- A text has one fault at most, and none if it is lawful.
use Rattle.std.proofs.Common.{◌≡◌, ℕ, ◌+◌, ◌<◌, ◌≤◌, true, false, List, [], ◌∷◌, ◌++◌, length, get_or, drop, replicate, Some, None, Option, sym, refl, ap, ◌∙◌, subst, ⊎_elim, append-nil, add-one, arith}
use lib.ListN.{length-replicate}
use Rattle.std.proofs.lemmas.List.{drop_more, get_or-replicate}
use Rattle.std.proofs.lemmas.Bool.{cond-false, cases_lt, cases_order}
use Rattle.faults.specs.declared.fault.Fault.{Fault}
use Rattle.faults.specs.declared.kind.Kind.TheVariants.{BracketUnmatched}
use Rattle.names.specs.Language.{Stuck}
use Rattle.names.specs.Words.{count_of}
use Rattle.names.specs.Faults.{fault}
use Rattle.names.proofs.Leaving.{stuck_out, stuck_unique}
use Rattle.names.proofs.Counts.{count_append}
use Rattle.lists.specs.Bytes.{blanks, part}
use Rattle.lists.specs.Texts.{ItemText, ListText, LawfulList}
use Rattle.lists.specs.Faults.{kind_at, Unclosed, Slip, stuck, unclosed, ListFault, long, slip}
use Rattle.lists.specs.Machine.{At, within, State, out, word, brace, name, braced, byte_step, reads, start}
use Rattle.lists.proofs.Machine.{Rests, Lands, lands_none, reads_append, out_sign}
use Rattle.lists.proofs.Viable.{item_lands, is_close, close_out}
use Rattle.lists.proofs.Tallies.{depth_at, depth, opens, closes, tally}
use Rattle.lists.proofs.Segments.{drop_part}
use Rattle.lists.proofs.Halts.{list_cases, blank_front}

lands_some : (o : Option State) (c : At) → Lands o c → (s : State) × ((o ≡ Some s) × Rests s c)
lands_some None c l = absurd l
lands_some (Some s) c l = (s, (refl, l))

rests_depth : (s : State) (c : At) → Rests s c → depth s ≡ depth_at c
rests_depth (out (within d due)) c r = ap depth_at r
rests_depth (word (within d due) k) c r = ap depth_at r
rests_depth (brace a) c r = absurd r
rests_depth (name a k) c r = absurd r
rests_depth (braced a) c r = absurd r

-- as many brackets close in a list as open
balanced : (t : List ℕ) → ItemText t → count_of opens t ≡ count_of closes t
balanced t i =
    let l = lands_some (reads start t) (within 0 false) (item_lands t i) in
    omega (arith, (tally t (out (within 0 true)) l.0 l.1.0).brackets, rests_depth l.0 (within 0 false) l.1.1)

-- in no front of a list do more close
front_balanced : (s t : List ℕ) → ItemText (s ++ t) → count_of closes s ≤ count_of opens s
front_balanced s t i = found (reads start s) refl (subst (λ o. Lands o (within 0 false)) (reads_append start s t) (item_lands (s ++ t) i))
  where
    found : (o : Option State) → reads start s ≡ o → Lands (reads o t) (within 0 false) → count_of closes s ≤ count_of opens s
    found None e l = absurd (lands_none t (within 0 false) l)
    found (Some x) e l = omega (arith, (tally s (out (within 0 true)) x e).brackets)

module _ (text : List ℕ) where
  -- the innermost open bracket is one place
  inner : (p q : ℕ) → Unclosed text p → Unclosed text q → p < q → ⊥
  inner p q u v lt =
      let s = part text (p + 1) q in
      let t = drop (q + 1) text in
      let split : drop (p + 1) text ≡ s ++ (40 ∷ t) = drop_part text (p + 1) q (omega arith) ∙ ap (λ x. s ++ x) (drop_more text q 0 v.within ∙ ap (λ b. b ∷ t) v.bracket) in
      let i = subst ItemText split u.inside in
      omega (arith, front_balanced s (40 ∷ t) i, balanced (s ++ (40 ∷ t)) i, balanced t v.inside, count_append opens s (40 ∷ t), count_append closes s (40 ∷ t))

  not_blank : (p n : ℕ) → Unclosed text p → text ≡ blanks n → ⊥
  not_blank p n u e =
      let is : 32 ≡ get_or text p 0 = sym (ap (λ x. get_or x p 0) e ∙ get_or-replicate n p 32 0 (omega (arith, u.within, ap length e, length-replicate {A = ℕ} n 32))) in
      omega (arith, u.bracket)

  -- a list that lacks a closing bracket is none
  close_stops : (s : State) → Rests s (within 0 false) → byte_step s 41 ≡ None
  close_stops (out a) r = ap (λ c. byte_step (out c) 41) r ∙ out_sign (within 0 false) 41 _ is_close
  close_stops (word a k) r = cond-false _ _ _ close_out ∙ ap (λ c. byte_step (out c) 41) r ∙ out_sign (within 0 false) 41 _ is_close
  close_stops (brace a) r = absurd r
  close_stops (name a k) r = absurd r
  close_stops (braced a) r = absurd r

  unclosed_out : (p : ℕ) → Unclosed text p → ListText text → ⊥
  unclosed_out p u l =
      ⊎_elim
      (λ i.
      let at_end = lands_some (reads start text) (within 0 false) (item_lands text i) in
      let n = u.open_brackets in
      let more : replicate (n + 1) 41 ≡ 41 ∷ replicate n 41 = ap (λ k. replicate k 41) (add-one n) in
      ⊎_elim
      (λ j.
      lands_none (replicate n 41) (within 0 false)
      (subst (λ o. Lands o (within 0 false)) (ap (λ x. reads start (text ++ x)) more ∙ reads_append start text (41 ∷ replicate n 41) ∙ ap (λ o. reads o (41 ∷ replicate n 41)) at_end.1.0 ∙ ap (λ o. reads o (replicate n 41)) (close_stops at_end.0 at_end.1.1)) (item_lands _ j)))
      (λ b. not_blank p (length text) u (blank_front text _ b.0 b.1))
      (list_cases _ u.closes))
      (λ b. not_blank p b.0 u b.1)
      (list_cases text l)

  stuck_closes : (p q : ℕ) → Stuck ListText text p → (p ≡ length text → (n : ℕ) → ListText (text ++ replicate n 41) → ⊥) → Unclosed text q → ⊥
  stuck_closes p q s e u =
      ⊎_elim
      (λ lt. stuck_out ListText text (replicate (u.open_brackets + 1) 41) p s lt ([], subst ListText (sym (append-nil _)) u.closes))
      (λ le. e (omega (arith, s.within)) (u.open_brackets + 1) u.closes)
      (cases_lt p (length text))

  one_slip : (f g : Fault) → Slip text f → Slip text g → f ≡ g
  one_slip f g (stuck {place = p} s e) (stuck {place = q} t h) = ap (λ x. fault (kind_at text x) x) (stuck_unique ListText text p q s t)
  one_slip f g (stuck {place = p} s e) (unclosed {place = q} u) = absurd (stuck_closes p q s e u)
  one_slip f g (unclosed {place = p} u) (stuck {place = q} t h) = absurd (stuck_closes q p t h u)
  one_slip f g (unclosed {place = p} u) (unclosed {place = q} v) =
      ap (fault BracketUnmatched) (⊎_elim (λ e. e) (⊎_elim (λ lt. absurd (inner p q u v lt)) (λ lt. absurd (inner q p v u lt))) (cases_order p q))

  no_slip : (f : Fault) → Slip text f → ListText text → ⊥
  no_slip f (stuck {place = p} s e) l = ⊎_elim (λ lt. stuck_out ListText text [] p s lt ([], subst ListText (sym (append-nil _ ∙ append-nil text)) l)) (λ le. s.short (omega (arith, s.within)) l) (cases_lt p (length text))
  no_slip f (unclosed {place = p} u) l = unclosed_out p u l

  pub one_fault : (f g : Fault) → ListFault text f → ListFault text g → f ≡ g
  one_fault f g (long a) (long b) = refl
  one_fault f g (long a) (slip le s) = absurd (omega arith)
  one_fault f g (slip le s) (long b) = absurd (omega arith)
  one_fault f g (slip le s) (slip le' t) = one_slip f g s t

  pub no_fault : (f : Fault) → ListFault text f → LawfulList text → ⊥
  no_fault f (long a) l = omega (arith, l.short)
  no_fault f (slip le s) l = no_slip f s l.form
