use Rattle.std.proofs.Common.{arith}
use Rattle.name_parts.proofs.Holding.{held_row}
use Rattle.name_parts.proofs.Noting.{tagged, number_small}
use Rattle.name_parts.proofs.name_parts.NameParts.marks.Goals as goal

pub returns : goal.returns
returns c =
    let self = c.args.self.now in
    let mark = c.args.mark in
    held_row self.text.now self.outline self.outlined mark _ (omega (arith, tagged mark, number_small mark))
