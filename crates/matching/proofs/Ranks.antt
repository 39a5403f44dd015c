-- The groups that a group leads to, as a number: it falls along the links.
use Rattle.std.proofs.Common.{ℕ, ◌<◌, cond, ltb, ◌↔◌, List, sym, subst, ⊎_elim, arith, le-ltb, lt-ltb}
use Rattle.std.proofs.lemmas.Bool.{cond-true, cond-false, cases_lt}
use Rattle.positions.specs.Places.{Has}
use Rattle.positions.specs.Rows.{row_at}
use Rattle.positions.proofs.Digits.{has_empty}
use Rattle.positions.proofs.Order.{subset_lt}
use Rattle.links.specs.declared.links.Links.{Links}
use Rattle.links.specs.Links.{Linked}
use Rattle.books.specs.Tables.{Table}
use Rattle.matching.proofs.Grounds.{Grounds}

-- the row of a group, or no place where the table has none
abbrev pub rank : Links → ℕ → ℕ
rank leads k = cond (ltb k leads.len) (row_at leads.rows k).digits 0

module _ (leads : Links) where
  rank_has : (k j : ℕ) → Has (rank leads k) j ↔ Linked leads k j
  rank_has k j =
      ⊎_elim
      (λ lt. let e = cond-true _ (row_at leads.rows k).digits 0 (lt-ltb k leads.len lt) in (λ h. (lt, subst (λ n. Has n j) e h), λ l. subst (λ n. Has n j) (sym e) l.1))
      (λ ge. let e = cond-false _ (row_at leads.rows k).digits 0 (le-ltb k leads.len ge) in (λ h. absurd (has_empty j (subst (λ n. Has n j) e h)), λ l. absurd (omega (arith, l.0))))
      (cases_lt k leads.len)

  -- a group leads to all that one leads to that it leads to, and to that one too, which does not lead to itself
  pub rank_falls : {list : List ℕ} {table : Table} → Grounds list table leads → (k m : ℕ) → Linked leads k m → rank leads m < rank leads k
  rank_falls g k m l = subset_lt (rank leads m) (rank leads k) m (λ j h. (rank_has k j).1 (g.onward k m j l ((rank_has m j).0 h))) ((rank_has k m).1 l) (λ h. g.apart m ((rank_has m m).0 h))
