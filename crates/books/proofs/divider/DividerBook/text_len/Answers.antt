use Rattle.books.proofs.Dividing.{text_first, text_second}
use Rattle.books.proofs.divider.DividerBook.text_len.Goals as goal

pub returns-then-is_first : goal.returns-then-is_first
returns-then-is_first g c =
    let d = c.args.self.now in
    rw (text_first d.byte (g.A.Book.table d.first) (g.B.Book.table d.second) c.args.name.now _ c.is_first.ensures c.if-is_first.true) c.text_len.ensures

pub returns-else-is_first : goal.returns-else-is_first
returns-else-is_first g c =
    let d = c.args.self.now in
    rw (text_second d.byte (g.A.Book.table d.first) (g.B.Book.table d.second) c.args.name.now _ c.is_first.ensures c.if-is_first.false) c.text_len-else-is_first.ensures
