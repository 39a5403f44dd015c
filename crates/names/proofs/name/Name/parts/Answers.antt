use Rattle.std.proofs.Common.{[], sym, refl, ◌∙◌}
use mathlib.Core.Logic.{∥∥₁_map}
use Rattle.names.proofs.OneFault.{unique_parts}
use Rattle.names.proofs.name.Name.parts.Goals as goal

pub invariant_of-result : goal.invariant_of-result
invariant_of-result c = record { stands = ∥∥₁_map c.args.self.now.lawful (λ n. ([], n.0, (n.1.form, (n.1.spelling ∙ sym c.as_bytes.ensures, refl)))) }

pub returns-clause-row : goal.returns-clause-row
returns-clause-row c = λ ps qs n m. unique_parts ps qs n.form m.form (n.spelling ∙ sym m.spelling)
