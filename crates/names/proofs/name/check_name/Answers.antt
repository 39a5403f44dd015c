use Rattle.std.proofs.Common.{ℕ, ◌≤◌, Some, None, Option, MatchOption, sym, refl, subst, rules, arith}
use Rattle.std.specs.Option.{IsSome}
use Rattle.std.proofs.lemmas.Result.{err_from_is_err_and}
use Rattle.names.specs.Words.{count_of}
use Rattle.names.specs.Faults.{NameFault, long, mark_byte}
use Rattle.names.specs.Joints.{JointAt}
use Rattle.names.proofs.Forms.{mark_apart}
use Rattle.names.proofs.Checks.{name_slip, name_parts, name_lawful}
use Rattle.names.proofs.OneFault.{name_refused}
use Rattle.names.proofs.name.check_name.Goals as goal

pub returns-then-text-gt-MAX_NAME_BYTES : goal.returns-then-text-gt-MAX_NAME_BYTES
returns-then-text-gt-MAX_NAME_BYTES c =
    let text = c.args.text.now in
    name_refused text _ (subst (NameFault text) (sym c.at.ensures) (long c.if-text-gt-MAX_NAME_BYTES.true))

pub returns-in_err-marks : goal.returns-in_err-marks
returns-in_err-marks c =
    let p = err_from_is_err_and c.from_residual.result c.from_residual.ensures.1 in
    rw (p.1, p.2) (name_refused c.args.text.now _ (name_slip c.args.text.now _ (omega (arith, c.if-text-gt-MAX_NAME_BYTES.false)) (c.in_err-marks.ensures mark_byte (record { answers = λ b r e. search rules; apart = mark_apart }))))

-- there are so many marks that one has 31 others before it
found : (o : Option ℕ) (few : Type 0) (Here : ℕ → Type 0) → MatchOption o few Here → (few → ⊥) → IsSome o
found (Some place) few Here h many = refl
found None few Here h many = absurd (many h)

pub unwrap-place-requires : goal.unwrap-place-requires
unwrap-place-requires c =
    let (joined, counted) = c.in_ok-marks.ensures mark_byte (record { answers = λ b r e. search rules; apart = mark_apart }) in
    found c.nth_mark.result _ _ c.nth_mark.ensures (λ few. omega (arith, few, counted, c.if-marks-gt-MAX_MARKS.true))

pub returns-then-marks-gt-MAX_MARKS : goal.returns-then-marks-gt-MAX_MARKS
returns-then-marks-gt-MAX_MARKS c =
    let text = c.args.text.now in
    let (joined, counted) = c.in_ok-marks.ensures mark_byte (record { answers = λ b r e. search rules; apart = mark_apart }) in
    let here = subst (λ o. MatchOption o (count_of mark_byte text ≤ 31) (JointAt mark_byte text 31)) c.unwrap-place.ensures c.nth_mark.ensures in
    name_refused text _ (subst (NameFault text) (sym c.at-then-marks-gt-MAX_MARKS.ensures) (name_parts text c.unwrap-place.result (omega (arith, c.if-text-gt-MAX_NAME_BYTES.false)) joined here))

pub returns : goal.returns
returns c =
    let (joined, counted) = c.in_ok-marks.ensures mark_byte (record { answers = λ b r e. search rules; apart = mark_apart }) in
    (name_lawful c.args.text.now (omega (arith, c.if-text-gt-MAX_NAME_BYTES.false)) joined (omega (arith, counted, c.if-marks-gt-MAX_MARKS.false)), counted)
