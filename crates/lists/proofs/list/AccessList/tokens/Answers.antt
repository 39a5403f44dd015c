use Rattle.std.proofs.Common.{sym, subst, arith}
use mathlib.Core.Logic.{∥∥₁_map}
use Rattle.lists.specs.Texts.{LawfulList}
use Rattle.lists.proofs.Placing.{lawful_placed, one_placing}
use Rattle.lists.proofs.list.AccessList.tokens.Goals as goal

pub invariant_of-result : goal.invariant_of-result
invariant_of-result c =
    record { readable = ∥∥₁_map c.args.self.now.lawful (λ l. lawful_placed (subst LawfulList (sym c.as_bytes.ensures) l)); within = omega arith }

pub returns-clause-placing : goal.returns-clause-placing
returns-clause-placing c = one_placing _
