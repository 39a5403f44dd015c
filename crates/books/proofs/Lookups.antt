-- What a register finds is what its table has.
use Rattle.std.proofs.Common.{◌≡◌, ℕ, ◌<◌, Bool, true, false, cond, List, [], ◌∷◌, length, Some, None, Option, sym, refl, ap, ◌∙◌, ⊎_elim, arith, length-take, Bor, MatchOption}
use Rattle.std.proofs.lemmas.Slice.Eq.{bytes_eq-Decides}
use Rattle.std.proofs.lemmas.Bool.{cond-false, cases_Bool}
use Rattle.std.specs.Option.{option_map}
use Rattle.std.specs.Str.{bytes_eq}
use Rattle.texts.specs.Shown.{shown}
use Rattle.registers.specs.Order.{same}
use Rattle.registers.specs.Rows.{found}
use Rattle.books.specs.declared.group.Group.{Group}
use Rattle.books.specs.Tables.{text_of}
use Rattle.books.specs.Groups.{name_of, table_of}

mapped_cond : (b : Bool) (x y : Option Group) → option_map (λ g. shown g.text) (cond b x y) ≡ cond b (option_map (λ g. shown g.text) x) (option_map (λ g. shown g.text) y)
mapped_cond true x y = refl
mapped_cond false x y = refl

pub text_found : (gs : List Group) (k : List ℕ) → text_of (table_of gs) k ≡ option_map (λ g. shown g.text) (found name_of gs k)
text_found [] k = refl
text_found (g ∷ gs) k =
    ap (cond (same (name_of g) k) (Some (shown g.text))) (text_found gs k) ∙ sym (mapped_cond (same (name_of g) k) (Some g) (found name_of gs k))

-- no group has a name of more than 32 bytes
pub text_long : (gs : List Group) (k : List ℕ) → 32 < length k → text_of (table_of gs) k ≡ None
text_long [] k lt = refl
text_long (g ∷ gs) k lt =
    ⊎_elim
    (λ e. absurd (omega (arith, ap length ((bytes_eq-Decides (name_of g) k).0 e), length-take g.name.text.len g.name.text.bytes, g.name.text.bounded)))
    (λ e. cond-false _ _ _ e ∙ text_long gs k lt)
    (cases_Bool (bytes_eq (name_of g) k))

-- the register's answer, as the table's
pub text_cases : (gs : List Group) (k : List ℕ) (o : Option Group) → found name_of gs k ≡ o → text_of (table_of gs) k ≡ option_map (λ g. shown g.text) o
text_cases gs k o e = text_found gs k ∙ ap (option_map (λ g. shown g.text)) e

pub find_cases : (gs : List Group) (k name : List ℕ) (r : Option (Bor Group)) → k ≡ name → MatchOption r (found name_of gs k ≡ None) (λ x. found name_of gs k ≡ Some x.now) → MatchOption r (text_of (table_of gs) name ≡ None) (λ x. text_of (table_of gs) name ≡ Some (shown x.now.text))
find_cases gs k name None e h = ap (text_of (table_of gs)) (sym e) ∙ text_cases gs k None h
find_cases gs k name (Some x) e h = ap (text_of (table_of gs)) (sym e) ∙ text_cases gs k (Some x.now) h
