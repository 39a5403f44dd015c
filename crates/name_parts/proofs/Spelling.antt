-- Where the parts of a name begin and end in its text.
use Rattle.std.proofs.Common.{◌≡◌, ℕ, ◌+◌, ◌-◌, ◌≤◌, List, [], ◌∷◌, ◌++◌, length, take, drop, sym, ap, ◌∙◌, arith, length-append, take-append-drop}
use Rattle.std.proofs.lemmas.List.{take_more, drop_more, take_all, take_at, drop_at}
use Rattle.names.specs.Names.{Part, bytes_of, spell, IsName}
use Rattle.names.proofs.Forms.{spell_append}
use Rattle.name_parts.specs.Slices.{PartAt}
use Rattle.name_parts.specs.Outlines.{start_of}

module _ (ps : List Part) where
  -- a row is cut at a part
  pub cut : (p : Part) (i : ℕ) → PartAt ps p i → take i ps ++ (p ∷ drop (i + 1) ps) ≡ ps
  cut p i here = ap (λ qs. take i ps ++ qs) (ap (λ q. q ∷ drop (i + 1) ps) (sym here.is) ∙ sym (drop_more ps i p here.inside)) ∙ take-append-drop i ps

  pub start_more : (p : Part) (i : ℕ) → PartAt ps p i → start_of ps (i + 1) ≡ start_of ps i + length (bytes_of p)
  start_more p i here =
      let row : take (i + 1) ps ≡ take i ps ++ (p ∷ []) = take_more ps i p here.inside ∙ ap (λ q. take i ps ++ (q ∷ [])) here.is in
      omega (arith, ap (λ qs. length (spell qs)) row, ap length (spell_append (take i ps) (p ∷ [])), length-append (spell (take i ps)) (bytes_of p ++ []), length-append (bytes_of p) [])

  module _ (text : List ℕ) (name : IsName text ps) where
    pub end_is : (n : ℕ) → length ps ≤ n → start_of ps n ≡ length text
    end_is n le = ap (λ qs. length (spell qs)) (take_all n ps le) ∙ ap length name.spelling

    pub start_within : (n : ℕ) → start_of ps n ≤ length text
    start_within n = omega (arith, ap length (sym (spell_append (take n ps) (drop n ps)) ∙ ap spell (take-append-drop n ps) ∙ name.spelling), length-append (spell (take n ps)) (spell (drop n ps)))

    -- the bytes from where a part begins to where it ends
    pub bytes_between : (p : Part) (i start end : ℕ) → PartAt ps p i → start ≡ start_of ps i → end ≡ start_of ps (i + 1) → take (end - start) (drop start text) ≡ bytes_of p
    bytes_between p i start end here from to =
        let front = spell (take i ps) in
        let back = spell (drop (i + 1) ps) in
        let spelled : front ++ (bytes_of p ++ back) ≡ text = sym (spell_append (take i ps) (p ∷ drop (i + 1) ps)) ∙ ap spell (cut p i here) ∙ name.spelling in
        let n : length (bytes_of p) ≡ end - start = omega (arith, start_more p i here) in
        ap (λ t. take (end - start) (drop start t)) (sym spelled) ∙ ap (take (end - start)) (drop_at front (bytes_of p ++ back) start (sym from)) ∙ take_at (bytes_of p) back (end - start) n
