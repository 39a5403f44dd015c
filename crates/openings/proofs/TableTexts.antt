-- Groups with their texts, as a table.
use Rattle.std.proofs.Common.{◌≡◌, suc, [], ◌∷◌, length, Some, sym, refl, ap, ◌∙◌, ⊎_elim, arith}
use Rattle.std.proofs.lemmas.Slice.Eq.{bytes_eq-Decides}
use Rattle.std.proofs.lemmas.Bool.{cond_both, both_ways}
use Rattle.std.specs.List.{AllByRecursion}
use Rattle.std.specs.Str.{bytes_eq}
use Rattle.books.specs.Tables.{Table, text_of}
use Rattle.openings.specs.Opening.{Name, Meaning, Known}
use Rattle.openings.specs.Opened.{names_of}
use Rattle.openings.proofs.Knowing.{known_more, known_cases}

-- each group stands with the text that the meaning has for it
abbrev pub Texts : Meaning → Table → Type 0
Texts M t = AllByRecursion (λ e. M e.name ≡ Some e.text) t

-- a table has as many names as rows
pub length_names : (t : Table) → length (names_of t) ≡ length t
length_names [] = refl
length_names (e ∷ es) = ap suc (length_names es)

module _ (M : Meaning) where
  -- the names of a table determine it
  pub names_table : (s t : Table) → names_of s ≡ names_of t → Texts M s → Texts M t → s ≡ t
  names_table [] [] e a b = refl
  names_table [] (y ∷ ys) e a b = absurd (omega (arith, ap length e))
  names_table (x ∷ xs) [] e a b = absurd (omega (arith, ap length e))
  names_table (x ∷ xs) (y ∷ ys) e a b =
      let name : x.name ≡ y.name = cc in
      let text : x.text ≡ y.text = cc (a.0, b.0) in
      let rest : names_of xs ≡ names_of ys = cc in
      let more = names_table xs ys rest a.1 b.1 in
      (λ i. record { name = name i; text = text i } ∷ more i)

  -- a table has the text of each of its names
  pub text_known : (t : Table) (g : Name) → Texts M t → Known (names_of t) g → text_of t g ≡ M g
  text_known [] g h k = absurd (omega (arith, k.1.below))
  text_known (e ∷ es) g h k =
      let same = bytes_eq-Decides e.name g in
      cond_both (bytes_eq e.name g) _ _ (λ o. o ≡ M g) (λ is. sym h.0 ∙ ap M (same.0 is))
      (λ not. text_known es g h.1 (⊎_elim (λ is. absurd (both_ways _ not (same.1 is))) (λ m. m) (known_cases k)))

-- meanings that agree on the names of a table have the same texts for them
pub texts_across : (M M' : Meaning) (t : Table) → ((g : Name) → Known (names_of t) g → M' g ≡ M g) → Texts M t → Texts M' t
texts_across M M' [] agree h = tt
texts_across M M' (e ∷ es) agree h = (agree e.name (0, record { below = omega arith; is = refl }) ∙ h.0, texts_across M M' es (λ g k. agree g (known_more k)) h.1)
