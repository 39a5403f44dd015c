-- What the register leaves, as the table.
use Rattle.std.proofs.Common.{◌≡◌, ℕ, List, length, is_some, Some, None, Option, Result, Ok, Err, MatchResult, refl, arith, sym, ap, ◌∙◌}
use Rattle.std.specs.Option.{ok_or}
use Rattle.std.specs.Result.{IsErrAnd}
use Rattle.std.proofs.lemmas.Result.{err_from_is_err_and}
use Rattle.std.proofs.lemmas.List.{length-map}
use Rattle.texts.specs.Shown.{shown}
use Rattle.registers.specs.declared.register.Register.{Register}
use Rattle.registers.specs.Rows.{found}
use Rattle.registers.specs.Registers.{rows_in_use, Puts, Removes}
use Rattle.books.specs.declared.group.Group.{Group}
use Rattle.books.specs.Tables.{text_of}
use Rattle.books.specs.Groups.{name_of, entry, table_of}
use Rattle.books.specs.Changes.{Added, Removed}
use Rattle.books.proofs.Lookups.{text_found, text_cases}

module _ {K : Type 0} {kind : _} {key_kind : _} {key_eq : _} where
  -- what is found alike has the same text
  alike : (old new : Register Group K kind key_kind key_eq) (k : List ℕ) → found name_of (rows_in_use new) k ≡ found name_of (rows_in_use old) k → text_of (table_of (rows_in_use new)) k ≡ text_of (table_of (rows_in_use old)) k
  alike old new k e = text_cases (rows_in_use new) k (found name_of (rows_in_use old) k) e ∙ sym (text_found (rows_in_use old) k)

  pub puts_added : (old new : Register Group K kind key_kind key_eq) (g : Group) (name text : List ℕ) → name_of g ≡ name → shown g.text ≡ text → Puts name_of g old new → Added (table_of (rows_in_use old)) (table_of (rows_in_use new)) name text
  puts_added old new g name text e f p = record {
    own = ap (text_of (table_of (rows_in_use new))) (sym e) ∙ text_cases (rows_in_use new) (name_of g) (Some g) p.own ∙ ap Some f;
    others = λ k ne. alike old new k (p.others k (λ h. ne (h ∙ e)));
  }

  pub removes_removed : (old new : Register Group K kind key_kind key_eq) (k name : List ℕ) (g : Group) → k ≡ name → Removes name_of k old new (Some g) → Removed (table_of (rows_in_use old)) (table_of (rows_in_use new)) name
  removes_removed old new k name g e r = record {
    had = ap (λ n. is_some (text_of (table_of (rows_in_use old)) n)) (sym e) ∙ ap is_some (text_cases (rows_in_use old) k (Some g) (sym r.answered));
    own = ap (text_of (table_of (rows_in_use new))) (sym e) ∙ text_cases (rows_in_use new) k None r.own;
    others = λ j ne. alike old new j (r.others j (λ h. ne (h ∙ e)));
  }

  pub no_text : (old : Register Group K kind key_kind key_eq) (k name : List ℕ) → k ≡ name → found name_of (rows_in_use old) k ≡ None → text_of (table_of (rows_in_use old)) name ≡ None
  no_text old k name e h = ap (text_of (table_of (rows_in_use old))) (sym e) ∙ text_cases (rows_in_use old) k None h

pub table_length : (gs : List Group) → length (table_of gs) ≡ length gs
table_length gs = length-map gs entry

-- what an `ok_or` says where it answers an error
pub ok_or_err : {A E : Type 0} (o : Option A) (e d : E) → Err d ≡ ok_or o e → (o ≡ None) × (d ≡ e)
ok_or_err None e d h = (refl, grind arith)
ok_or_err (Some x) e d h = grind arith

-- what a `map_err` keeps of what is promised of its `Result`, where the closure gives what `post` says
pub map_err_keeps : {X E D : Type 0} {P P' Q : Type 0} {Q' : D → Type 0} {post : E → D → Type 0} (r : Result X E) (s : Result X D) → MatchResult r (λ x. s ≡ Ok x) (λ e. IsErrAnd s (post e)) → MatchResult r (λ _. P) (λ _. Q) → (P → P') → ((e : E) (d : D) → post e d → Q → Q' d) → MatchResult s (λ _. P') Q'
map_err_keeps (Ok x) s is h good bad = rw is (good h)
map_err_keeps (Err e) s is h good bad =
    let p = err_from_is_err_and s is in
    rw p.1 (bad e p.0 p.2 h)
