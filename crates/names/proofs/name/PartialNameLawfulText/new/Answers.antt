use Rattle.std.proofs.Common.{sym, subst, rules}
use Rattle.std.proofs.lemmas.Result.{err_from_is_err_and}
use Rattle.names.specs.Names.{LawfulPartial}
use Rattle.names.specs.Faults.{PartialFault, long_partial}
use Rattle.names.proofs.Forms.{dot_byte, dot_apart, joined_partial}
use Rattle.names.proofs.Checks.{partial_slip}
use Rattle.names.proofs.OneFault.{partial_accepted, partial_refused}
use Rattle.names.proofs.name.PartialNameLawfulText.new.Goals as goal

pub returns-in_err-held : goal.returns-in_err-held
returns-in_err-held c =
    let text = c.args.text.now in
    let p = err_from_is_err_and c.from_residual.result c.from_residual.ensures.1 in
    let over = c.in_err-held.ensures in
    rw (p.1, p.2) (partial_refused text _ (subst (PartialFault text) (sym over.1) (long_partial over.0)))

pub returns-in_err-check_joined : goal.returns-in_err-check_joined
returns-in_err-check_joined c =
    let p = err_from_is_err_and c.from_residual-in_err-check_joined.result c.from_residual-in_err-check_joined.ensures.1 in
    rw (p.1, p.2) (partial_refused c.args.text.now _ (partial_slip c.args.text.now _ c.in_ok-held.ensures.0 (c.in_err-check_joined.ensures dot_byte (record { answers = λ b r e. search rules; apart = dot_apart }))))

pub invariant_of-result : goal.invariant_of-result
invariant_of-result c =
    let held = c.in_ok-held.ensures in
    let joined = c.in_ok-check_joined.ensures dot_byte (record { answers = λ b r e. search rules; apart = dot_apart }) in
    record { lawful = ∣ subst LawfulPartial (sym held.1) (record { form = joined_partial joined.0; short = held.0 }) ∣₁ }

pub returns : goal.returns
returns c =
    let held = c.in_ok-held.ensures in
    let joined = c.in_ok-check_joined.ensures dot_byte (record { answers = λ b r e. search rules; apart = dot_apart }) in
    (held.1, partial_accepted c.args.text.now (record { form = joined_partial joined.0; short = held.0 }))
