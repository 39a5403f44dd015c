-- Groups and their texts, as one table.
use Rattle.std.proofs.Common.{◌≡◌, ℕ, suc, ◌<◌, ◌≤◌, List, [], ◌∷◌, length, get_or, take, Some, refl, ap, arith}
use Rattle.std.specs.List.{AllByRecursion}
use Rattle.links.specs.declared.links.Links.{Links}
use Rattle.openings.specs.Opening.{Name, Meaning}
use Rattle.openings.specs.Opened.{names_of, texts_of}
use Rattle.openings.specs.Progress.{Progress}
use Rattle.openings.specs.Pairs.{pairs}
use Rattle.openings.proofs.TableTexts.{Texts}

-- the table has the names, if there are texts enough
pub pairs_names : (gs : List Name) (texts : List (List ℕ)) → length gs ≤ length texts → names_of (pairs gs texts) ≡ gs
pairs_names [] texts le = refl
pairs_names (g ∷ gs) [] le = absurd (omega arith)
pairs_names (g ∷ gs) (text ∷ texts) le = ap (λ hs. g ∷ hs) (pairs_names gs texts (omega arith))

-- and as many of the texts
pub pairs_held : (gs : List Name) (texts : List (List ℕ)) → length gs ≤ length texts → texts_of (pairs gs texts) ≡ take (length gs) texts
pairs_held [] texts le = refl
pairs_held (g ∷ gs) [] le = absurd (omega arith)
pairs_held (g ∷ gs) (text ∷ texts) le = ap (λ ts. text ∷ ts) (pairs_held gs texts (omega arith))

-- each name stands with the text that a meaning has for it, if that is the one at its place
texts_paired : (M : Meaning) (gs : List Name) (texts : List (List ℕ)) → ((i : ℕ) → i < length gs → M (get_or gs i []) ≡ Some (get_or texts i [])) → Texts M (pairs gs texts)
texts_paired M [] texts have = tt
texts_paired M (g ∷ gs) [] have = tt
texts_paired M (g ∷ gs) (text ∷ texts) have = (have 0 (omega arith), texts_paired M gs texts (λ i lt. have (suc i) (omega arith)))

-- so it is with all groups that have been read
pub pairs_texts : {M : Meaning} {list : List ℕ} {gs : List Name} {texts : List (List ℕ)} {links : Links} → Progress M list (length gs) gs texts links → AllByRecursion (λ e. M e.name ≡ Some e.text) (pairs gs texts)
pairs_texts {M} {gs = gs} {texts = texts} all = texts_paired M gs texts all.texts_held
