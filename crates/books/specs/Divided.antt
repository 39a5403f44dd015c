-- A divided table is lawful where its two are.
use Rattle.std.specs.Prelude.{ℕ, Bool, true, false, cond, not, List, [], ◌∷◌, ◌++◌}
use Rattle.books.specs.Tables.{Entry, Table, LawfulEntry, LawfulTable, begins, keep, divided}

-- A table is lawful with a lawful row in front, and without it.
kept : (b : Bool) (e : Entry) (t : Table) → LawfulEntry e → LawfulTable t → LawfulTable (cond b (e ∷ t) t)
kept true e t h k = (h, k)
kept false e t h k = k

-- The rows that are kept of a lawful table are a lawful table.
keep_lawful : (p : List ℕ → Bool) (t : Table) → LawfulTable t → LawfulTable (keep p t)
keep_lawful p [] h = tt
keep_lawful p (e ∷ es) h = kept (p e.name) e (keep p es) h.0 (keep_lawful p es h.1)

-- Two lawful tables, one behind the other, are a lawful table.
both_lawful : (s t : Table) → LawfulTable s → LawfulTable t → LawfulTable (s ++ t)
both_lawful [] t h k = k
both_lawful (e ∷ s) t h k = (h.0, both_lawful s t h.1 k)

-- Two lawful tables, parted by a byte, are a lawful table.
pub divided_lawful : (byte : ℕ) (first second : Table) → LawfulTable first → LawfulTable second → LawfulTable (divided byte first second)
divided_lawful byte first second h k = both_lawful (keep (begins byte) first) (keep (λ name. not (begins byte name)) second) (keep_lawful (begins byte) first h) (keep_lawful (λ name. not (begins byte name)) second k)
