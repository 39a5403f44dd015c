use Rattle.std.proofs.Common.{subst, arith}
use denote.Enum.Declared.{tag_of}
use Rattle.positions.specs.Rows.{row_at}
use Rattle.name_parts.specs.contracts.mark.Mark.{the_type}
use Rattle.name_parts.proofs.Noting.{Inserted, tagged, note_mark}
use Rattle.name_parts.proofs.outline.Outline.note.Goals as goal

pub returns-in-Some : goal.returns-in-Some
returns-in-Some c =
    let o = c.args.self.now in
    let n = tag_of the_type c.in-Some.mark in
    note_mark o c.args.start c.push.new.self c.push.ensures.items c.requires c.args.part c.in-Some.mark n c.insert.result c.in-Some.ensures (tagged c.in-Some.mark) (omega arith) (subst (λ i. Inserted (row_at o.marks n).digits i c.insert.result.digits) c.len-place.ensures.value c.insert.ensures)
