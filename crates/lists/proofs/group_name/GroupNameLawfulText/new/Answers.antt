use Rattle.std.proofs.Common.{◌≡◌, ◌<◌, ◌⊎◌, length, sym, subst, inl, inr, arith}
use Rattle.std.proofs.lemmas.Result.{err_from_is_err_and}
use Rattle.lists.specs.Bytes.{group_byte, IsGroupName}
use Rattle.lists.specs.GroupNames.{GroupNameFault, long_name, stuck_name}
use Rattle.lists.proofs.Grouping.{name_stuck, is_name, name_accepted, name_refused}
use Rattle.lists.proofs.group_name.GroupNameLawfulText.new.Goals as goal
use Rattle.lists.proofs.group_name.GroupNameLawfulText.new.Goals.{then-end-text-via-then-end-text, then-end-text-via-else-end-text+then-end-eq0}

pub returns-in_err-held : goal.returns-in_err-held
returns-in_err-held c =
    let text = c.args.text.now in
    let p = err_from_is_err_and c.from_residual.result c.from_residual.ensures.1 in
    let (long, is) = c.in_err-held.ensures in
    rw (p.1, p.2) (name_refused text _ (subst (GroupNameFault text) (sym is) (long_name long)))

pub returns-then-end-text : goal.returns-then-end-text
returns-then-end-text c =
    let text = c.args.text.now in
    let end = c.run_end-end.result in
    let held = c.in_ok-held.ensures in
    let short : (end < length text) ⊎ (end ≡ 0) = elim c.then-end-text.branch [ then-end-text-via-then-end-text w ↦ inl w.if-end-text.true | then-end-text-via-else-end-text+then-end-eq0 w ↦ inr w.if-end-eq0.true ] in
    name_refused text _ (subst (GroupNameFault text) (sym c.at.ensures) (stuck_name held.0 (name_stuck text end (c.run_end-end.ensures.run group_byte (λ b r e. e)) short)))

pub invariant_of-result : goal.invariant_of-result
invariant_of-result c =
    let held = c.in_ok-held.ensures in
    record { lawful = ∣ subst IsGroupName (sym held.1) (is_name c.args.text.now c.run_end-end.result (c.run_end-end.ensures.run group_byte (λ b r e. e)) c.if-end-text.false (omega (arith, c.if-end-eq0.false)) held.0) ∣₁ }

pub returns : goal.returns
returns c =
    let held = c.in_ok-held.ensures in
    (held.1, name_accepted c.args.text.now (is_name c.args.text.now c.run_end-end.result (c.run_end-end.ensures.run group_byte (λ b r e. e)) c.if-end-text.false (omega (arith, c.if-end-eq0.false)) held.0))
