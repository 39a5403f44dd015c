use Rattle.std.proofs.Common.{◌≡◌, ℕ, ◌<◌, ◌≤◌, true, false, cond, get_or, take, Some, sym, ap, ◌∙◌, ⊎_elim, arith}
use borrow.Author.Tests.{clash}
use Rattle.std.proofs.lemmas.List.{take_all}
use Rattle.std.proofs.lemmas.Bool.{cases_Bool}
use Rattle.names.specs.Words.{word_byte, count_of}
use Rattle.names.specs.Faults.{fault}
use Rattle.names.proofs.Chains.{reads, step_word, step_join, chain_of}
use Rattle.names.proofs.Counts.{count_more}
use Rattle.names.proofs.Reading.{stops, goes_on, slip_here, slip_end}
use Rattle.names.proofs.joint.check_joined.Goals as goal
use Rattle.names.proofs.joint.check_joined.Goals.{else-letters-gt0-via-then-letters-gt0+else-joins, else-letters-gt0-via-else-letters-gt0, then-is_word_byte+then-letters-lt-MAX_WORD_BYTES, else-is_word_byte+then-letters-gt0+then-joins, else-is_word_byte-via-then-is_word_byte+else-letters-lt-MAX_WORD_BYTES, else-is_word_byte-via-else-is_word_byte}

pub returns-else-letters-gt0 : goal.returns-else-letters-gt0
returns-else-letters-gt0 g c = λ joint tells.
    let b = get_or c.args.text.now c.loop-i.i 0 in
    let full : word_byte b ≡ true → 32 ≤ c.loop-i.letters = λ isw. elim c.else-is_word_byte.branch [ else-is_word_byte-via-then-is_word_byte+else-letters-lt-MAX_WORD_BYTES w ↦ w.if-letters-lt-MAX_WORD_BYTES.false | else-is_word_byte-via-else-is_word_byte w ↦ absurd (clash (w.if-is_word_byte.ensures ∙ isw)) ] in
    let parted : 0 < c.loop-i.letters → joint b ≡ false = λ some. elim c.else-letters-gt0.branch [ else-letters-gt0-via-then-letters-gt0+else-joins w ↦ sym (tells.answers b false w.if-joins.ensures) | else-letters-gt0-via-else-letters-gt0 w ↦ absurd (omega (arith, w.if-letters-gt0.false)) ] in
    slip_here joint tells.apart c.args.text.now c.loop-i.i c.loop-i.letters c.at.result c.loop-i-test.true (c.loop-i.invariant.0 joint tells).0 (stops joint c.loop-i.letters b full parted) (c.at.ensures ∙ ap (λ k. fault k c.loop-i.i) c.kind_of.ensures)

pub loop-i-preserved : goal.loop-i-preserved
loop-i-preserved g c =
    let text = c.args.text.now in
    let i = c.loop-i.i in
    let b = get_or text i 0 in
    let k = c.loop-i.letters in
    elim c.if-is_word_byte.branch [
      | then-is_word_byte+then-letters-lt-MAX_WORD_BYTES w ↦ (
        λ joint tells.
            let (read, counted) = c.loop-i.invariant.0 joint tells in
            let no : joint b ≡ false = ⊎_elim (λ e. absurd (clash (sym (tells.apart b e) ∙ sym w.if-is_word_byte.ensures))) (λ e. e) (cases_Bool (joint b)) in (
              goes_on joint tells.apart text i k _ c.loop-i-test.true read (step_word joint k b (sym w.if-is_word_byte.ensures) w.if-letters-lt-MAX_WORD_BYTES.true ∙ ap Some (sym w.letters-is)),
              w.count-is ∙ omega (arith, counted, count_more joint text i c.loop-i-test.true, ap {B = ℕ} (λ v. cond v 1 0) no),
            ),
        omega (arith, w.count-is, c.loop-i.invariant.1),
      )
      | else-is_word_byte+then-letters-gt0+then-joins w ↦ (
        λ joint tells.
            let (read, counted) = c.loop-i.invariant.0 joint tells in
            let is : joint b ≡ true = sym (tells.answers b true w.if-joins.ensures) in (
              goes_on joint tells.apart text i k _ c.loop-i-test.true read (step_join joint k b (tells.apart b is) is w.if-letters-gt0.true ∙ ap Some (sym w.letters-is)),
              w.count-is ∙ omega (arith, counted, count_more joint text i c.loop-i-test.true, ap {B = ℕ} (λ v. cond v 1 0) is),
            ),
        omega (arith, w.count-is, c.loop-i.invariant.1),
      )
    ]

pub returns-then-letters-eq0 : goal.returns-then-letters-eq0
returns-then-letters-eq0 g c = λ joint tells.
    let text = c.args.text.now in
    let whole : take c.loop-i.i text ≡ text = take_all c.loop-i.i text c.loop-i-test.false in
    slip_end joint tells.apart text c.at-then-letters-eq0.result (ap (reads joint) (sym whole) ∙ (c.loop-i.invariant.0 joint tells).0 ∙ ap Some c.if-letters-eq0.true) c.at-then-letters-eq0.ensures

pub returns : goal.returns
returns g c = λ joint tells.
    let text = c.args.text.now in
    let whole : take c.loop-i.i text ≡ text = take_all c.loop-i.i text c.loop-i-test.false in
    let (read, counted) = c.loop-i.invariant.0 joint tells in
    (chain_of joint text c.loop-i.letters (omega (arith, c.if-letters-eq0.false)) (ap (reads joint) (sym whole) ∙ read), counted ∙ ap (count_of joint) whole)
