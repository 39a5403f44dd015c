use Rattle.std.proofs.Common.{rules, ◌≡◌, ◌≢◌, ℕ, ◌<◌, length, slice_index, take, sym, subst, arith}
use Rattle.texts.specs.Shown.{shown}
use Rattle.names.specs.Paths.{LawfulPath, IsParent, LastSlash}
use Rattle.names.proofs.Above.{above_some, above_bound, none_above, parent_lawful, parent_of}
use Rattle.names.proofs.path.Path.parent.Goals as goal

pub returns-in_err-end : goal.returns-in_err-end
returns-in_err-end c =
    let text = shown c.args.self.now.text in
    let lacks = subst (λ t. (i : ℕ) → i < length t → slice_index t i ≢ 47) c.as_bytes-text.ensures c.in_err-end.ensures in
    rw c.from_residual.ensures (none_above text lacks)

pub returns-then-end-eq0 : goal.returns-then-end-eq0
returns-then-end-eq0 c = λ up a.
    let text = shown c.args.self.now.text in
    let slash : LastSlash text c.in_ok-end.end = search rules in
    above_some up text a (omega (arith, above_bound text c.in_ok-end.end slash up a, c.if-end-eq0.true))

pub invariant_of-result : goal.invariant_of-result
invariant_of-result c =
    let text = shown c.args.self.now.text in
    let slash : LastSlash text c.in_ok-end.end = search rules in
    let front : shown c.in_ok-text.text ≡ take c.in_ok-end.end text = search rules in
    record { lawful = subst (λ t. ∥ LawfulPath t ∥₁) (sym front) (parent_lawful text c.in_ok-end.end slash (omega (arith, c.if-end-eq0.false)) c.args.self.now.lawful) }

pub returns : goal.returns
returns c =
    let text = shown c.args.self.now.text in
    let slash : LastSlash text c.in_ok-end.end = search rules in
    let front : shown c.in_ok-text.text ≡ take c.in_ok-end.end text = search rules in
    subst (λ t. IsParent t text) (sym front) (parent_of text c.in_ok-end.end slash (omega (arith, c.if-end-eq0.false)) c.args.self.now.lawful)
