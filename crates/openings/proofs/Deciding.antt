-- Whether texts can be read in turn is decided, so the mere statement that they have been says how.
use Rattle.std.proofs.Common.{◌≡◌, ℕ, zero, suc, ◌+◌, ◌<◌, ◌≤◌, ◌⊎◌, List, [], ◌∷◌, ◌++◌, length, get_or, is_some, Some, None, Option, sym, refl, ap, ◌∙◌, subst, inl, inr, ⊎_elim, arith}
use mathlib.Core.Logic.{∥∥₁_map}
use Rattle.std.specs.Str.{bytes_eq}
use Rattle.std.proofs.lemmas.Slice.Eq.{bytes_eq-Decides}
use Rattle.std.proofs.lemmas.Bool.{cases_lt, cases_eq, cases_Bool, both_ways}
use Rattle.positions.proofs.Digits.{has_or_not}
use Rattle.links.specs.declared.links.Links.{Links}
use Rattle.links.specs.Links.{Linked}
use Rattle.names.proofs.Deciding.{Decided, from_mere}
use Rattle.lists.specs.Texts.{LawfulList}
use Rattle.lists.proofs.Deciding.{decide_list}
use Rattle.openings.specs.References.{Reference, Refers, RefersAt}
use Rattle.openings.specs.Opening.{Name, Meaning, Known, Meets, again, new, MeetsAll, met, meet, TextAt, the_list, the_group, ReadTo, start, turn}
use Rattle.openings.specs.Circles.{Names}
use Rattle.openings.specs.MetReferences.{Named}
use Rattle.openings.specs.Progress.{Progress}
use Rattle.openings.proofs.Knowing.{numbered_at, known_more, known_cases}
use Rattle.openings.proofs.Meeting.{no_surplus, no_lacking, meets_one}
use Rattle.openings.proofs.Turns.{Turn, text_one, references_one, taken, read_one, read_before, read_distinct}
use Rattle.openings.proofs.Collecting.{named_refers, refers_named, references}

-- each kind of statement is decided
pub decide_bytes : (a b : List ℕ) → Decided (a ≡ b)
decide_bytes a b = ⊎_elim (λ e. inl ((bytes_eq-Decides a b).0 e)) (λ f. inr (λ e. both_ways _ f ((bytes_eq-Decides a b).1 e))) (cases_Bool (bytes_eq a b))

pub decide_text : (o : Option (List ℕ)) (text : List ℕ) → Decided (o ≡ Some text)
decide_text None text = inr (λ e. cc)
decide_text (Some s) text = ⊎_elim (λ e. inl (ap Some e)) (λ ne. inr (λ e. ne cc)) (decide_bytes s text)

pub decide_known : (gs : List Name) (g : Name) → Decided (Known gs g)
decide_known [] g = inr (λ k. omega (arith, k.1.below))
decide_known (h ∷ gs) g =
    ⊎_elim
    (λ e. inl (0, record { below = omega arith; is = e }))
    (λ ne. ⊎_elim (λ k. inl (known_more k)) (λ never. inr (λ k. ⊎_elim ne never (known_cases k))) (decide_known gs g))
    (decide_bytes h g)

decide_lt : (m n : ℕ) → Decided (m < n)
decide_lt m n = ⊎_elim inl (λ le. inr (λ lt. omega arith)) (cases_lt m n)

pub decide_linked : (links : Links) (i j : ℕ) → Decided (Linked links i j)
decide_linked links i j =
    ⊎_elim
    (λ lt. ⊎_elim (λ h. inl (lt, h)) (λ never. inr (λ l. never l.1)) (has_or_not _ j))
    (λ never. inr (λ l. never l.0))
    (decide_lt i links.len)

decide_named : (rs : List Reference) (g : Name) → Decided (Named rs g)
decide_named [] g = inr (λ n. n)
decide_named (r ∷ rs) g = ⊎_elim (λ e. inl (inl e)) (λ ne. ⊎_elim (λ n. inl (inr n)) (λ never. inr (⊎_elim ne never)) (decide_named rs g)) (decide_bytes r.name g)

decide_names : (a b : List Name) → Decided (a ≡ b)
decide_names [] [] = inl refl
decide_names [] (y ∷ ys) = inr (λ e. omega (arith, ap length e))
decide_names (x ∷ xs) [] = inr (λ e. omega (arith, ap length e))
decide_names (x ∷ xs) (y ∷ ys) =
    ⊎_elim
    (λ e. ⊎_elim (λ es. inl (λ i. e i ∷ es i)) (λ ne. inr (λ e'. ne cc)) (decide_names xs ys))
    (λ ne. inr (λ e'. ne cc))
    (decide_bytes x y)

-- what follows in some way, or in none
abbrev Some_or_none : (List Name → Type 0) → Type 0
Some_or_none P = ((gs : List Name) × P gs) ⊎ ((gs : List Name) → P gs → ⊥)

module _ (M : Meaning) where
  first_of : {gs gs'' : List Name} {r : Reference} {rs : List Reference} → MeetsAll M gs (r ∷ rs) gs'' → (gs' : List Name) × (Meets M gs r.name gs' × MeetsAll M gs' rs gs'')
  first_of (meet m ms) = (_, (m, ms))

  -- a reference can be met, or not
  meet_new : (gs : List Name) (g : Name) → (Known gs g → ⊥) → length gs < 32 → (o : Option (List ℕ)) → M g ≡ o → Some_or_none (Meets M gs g)
  meet_new gs g unknown few None e = inr (λ gs' m. no_lacking unknown e m)
  meet_new gs g unknown few (Some t) e = inl (gs ++ (g ∷ []), new unknown few (ap is_some e))

  meet_one : (gs : List Name) (g : Name) → Some_or_none (Meets M gs g)
  meet_one gs g =
      ⊎_elim
      (λ k. inl (gs, again k))
      (λ unknown. ⊎_elim (λ few. meet_new gs g unknown few (M g) refl) (λ full. inr (λ gs' m. no_surplus unknown full m)) (cases_lt (length gs) 32))
      (decide_known gs g)

  meet_rows : (rs : List Reference) (gs : List Name) → Some_or_none (MeetsAll M gs rs)
  meet_rows [] gs = inl (gs, met)
  meet_rows (r ∷ rs) gs =
      ⊎_elim
      (λ x. ⊎_elim
      (λ y. inl (y.0, meet x.1 y.1))
      (λ never. inr (λ gs'' ms. let z = first_of ms in never gs'' (subst (λ hs. MeetsAll M hs rs gs'') (meets_one z.1.0 x.1) z.1.1)))
      (meet_rows rs x.0))
      (λ never. inr (λ gs'' ms. let z = first_of ms in never z.0 z.1.0))
      (meet_one gs r.name)

  module _ (list : List ℕ) where
    -- a text can be read, or not
    read_this : (gs : List Name) (i : ℕ) (text : List ℕ) → TextAt M list gs i text → Some_or_none (Turn M list gs i)
    read_this gs i text at =
        ⊎_elim
        (λ lawful.
        let (rs, refers) = references lawful in
        ⊎_elim
        (λ x. inl (x.0, taken at lawful refers x.1))
        (λ never. inr (λ hs t. never hs (subst (λ ss. MeetsAll M gs ss hs) (references_one t.here t.refers at refers) t.meets)))
        (meet_rows rs gs))
        (λ never. inr (λ hs t. never (subst LawfulList (text_one t.here at) t.lawful)))
        (decide_list text)

    read_group : (gs : List Name) (k : ℕ) → k < length gs → (o : Option (List ℕ)) → M (get_or gs k []) ≡ o → Some_or_none (Turn M list gs (k + 1))
    read_group gs k lt (Some text) e = read_this gs (k + 1) text (the_group k refl lt e)
    read_group gs k lt None e = inr (λ hs t. no_text t.here)
      where
        no_text : {text : List ℕ} → TextAt M list gs (k + 1) text → ⊥
        no_text (the_list z x) = omega (arith, z)
        no_text (the_group j is lt' has) = let same : j ≡ k = omega arith in let clash : ◌≡◌ {A = Option (List ℕ)} None (Some _) = sym e ∙ ap (λ n. M (get_or gs n [])) (sym same) ∙ has in cc

    read_next : (gs : List Name) (i : ℕ) → Some_or_none (Turn M list gs i)
    read_next gs zero = read_this gs 0 list (the_list refl refl)
    read_next gs (suc k) =
        ⊎_elim
        (λ lt. let e : k + 1 ≡ suc k = omega arith in subst (λ i. Some_or_none (Turn M list gs i)) e (read_group gs k lt (M (get_or gs k [])) refl))
        (λ le. inr (λ hs t. past le t.here))
        (cases_lt k (length gs))
      where
        past : {text : List ℕ} → length gs ≤ k → TextAt M list gs (suc k) text → ⊥
        past le (the_list z x) = omega (arith, z)
        past le (the_group j is lt has) = omega arith

    read_texts : (n : ℕ) → Some_or_none (ReadTo M list n)
    read_texts zero = inl ([], start)
    read_texts (suc n) =
        ⊎_elim
        (λ x. ⊎_elim
        (λ t. let e : suc n ≡ n + 1 = omega arith in inl (t.0, turn e x.1 t.1.here t.1.lawful t.1.refers t.1.meets))
        (λ stop. inr (λ hs r. let b = read_before r n (omega arith) in stop b.after (subst (λ gs. Turn M list gs n b.after) (read_one b.read x.1 refl) b.this)))
        (read_next x.0 n))
        (λ never. inr (λ hs r. let b = read_before r n (omega arith) in never b.before b.read))
        (read_texts n)

    pub decide_read : (n : ℕ) (gs : List Name) → Decided (ReadTo M list n gs)
    decide_read n gs =
        ⊎_elim
        (λ x. ⊎_elim (λ e. inl (subst (ReadTo M list n) e x.1)) (λ ne. inr (λ r. ne (read_one x.1 r refl))) (decide_names x.0 gs))
        (λ never. inr (never gs))
        (read_texts n)

-- what is merely so has been read, in this way
module _ {M : Meaning} {list : List ℕ} {k : ℕ} {gs : List Name} {texts : List (List ℕ)} {links : Links} (lawful : (i : ℕ) → i < k → LawfulList (get_or texts i [])) (mere : ∥ Progress M list k gs texts links ∥₁) where
  out : {P : Type 0} → Decided P → (Progress M list k gs texts links → P) → P
  out decided f = from_mere _ decided (∥∥₁_map mere f)

  held : (i : ℕ) → i < k → M (get_or gs i []) ≡ Some (get_or texts i [])
  held i lt = out (decide_text _ _) (λ p. p.texts_held i lt)

  pub progress : Progress M list k gs texts links
  progress = record {
    read = out (decide_read M list (k + 1) gs) (λ p. p.read);
    within = out (⊎_elim (λ lt. inr (λ le. omega arith)) inl (cases_lt (length gs) k)) (λ p. p.within);
    texts_held = held;
    rows = out (cases_eq links.len k) (λ p. p.rows);
    only = λ i j l.
        let lt : i < k = out (decide_lt i k) (λ p. omega (arith, l.0, p.rows)) in
        let below : j < length gs = out (decide_lt j (length gs)) (λ p. (p.only i j l).1.1.below) in
        let (rs, refers) = references (lawful i lt) in
        let named : Named rs (get_or gs j []) = out (decide_named rs (get_or gs j [])) (λ p. let x = p.only i j l in subst (Named rs) (sym x.1.1.is) (names_named i lt refers x.1.0)) in
        let (place, at) = named_refers refers named in
        (get_or gs j [], (record { text = get_or texts i []; has = held i lt; place = place; refers = at }, numbered_at j below));
    every = λ i g lt names.
        let known : Known gs g = out (decide_known gs g) (λ p. let x = p.every i g lt names in (x.0, x.1.0)) in
        (known.0, (known.1, out (decide_linked links i known.0) (λ p. let x = p.every i g lt names in subst (Linked links i) (read_distinct p.read g x.0 known.0 x.1.0 known.1) x.1.1)));
  }
    where
      names_named : (i : ℕ) → i < k → {rs : List Reference} {g : Name} → Refers (get_or texts i []) rs → Names M (get_or gs i []) g → Named rs g
      names_named i lt {g = g} refers n =
          let same : ◌≡◌ {A = Option (List ℕ)} (Some n.text) (Some (get_or texts i [])) = sym n.has ∙ held i lt in
          let text : n.text ≡ get_or texts i [] = cc in
          refers_named refers (subst (λ t. RefersAt t n.place g) text n.refers)
