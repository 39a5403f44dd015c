-- Texts that are read in turn.
use Rattle.std.proofs.Common.{◌≡◌, ℕ, ◌+◌, ◌<◌, ◌≤◌, List, length, sym, refl, ap, ◌∙◌, subst, subst₂, ⊎_elim, arith}
use Rattle.std.proofs.lemmas.Bool.{cases_lt}
use Rattle.lists.specs.Texts.{LawfulList}
use Rattle.openings.specs.References.{Reference, Refers, RefersAt}
use Rattle.openings.specs.Opening.{Name, Meaning, Numbered, Known, MeetsAll, TextAt, the_list, the_group, ReadTo, start, turn, Checks, Distinct}
use Rattle.openings.proofs.Knowing.{numbered_at}
use Rattle.openings.proofs.Referring.{refers_one}
use Rattle.openings.proofs.Meeting.{meets_all_one, meets_keeps, meets_distinct, meets_few, names_known, known_checked, checked_known}

-- numbers among some names are numbers among others
abbrev pub Keeps : List Name → List Name → Type 0
Keeps gs hs = (g : Name) (k : ℕ) → Numbered gs g k → Numbered hs g k

module _ (M : Meaning) (list : List ℕ) where
  -- text i is read: the groups gs are known before, and hs after
  pub record Turn (gs : List Name) (i : ℕ) (hs : List Name) : Type 0 where
    pub text : List ℕ
    pub here : TextAt M list gs i text
    pub lawful : LawfulList text
    pub references : List Reference
    pub refers : Refers text references
    pub meets : MeetsAll M gs references hs

  -- text i cannot be read: there is none, or it is no lawful list, or a reference cannot be met
  abbrev pub NoTurn : List Name → ℕ → Type 0
  NoTurn gs i = (hs : List Name) → Turn gs i hs → ⊥

  -- text i was read on the way to the groups gs
  pub record Read (gs : List Name) (i : ℕ) : Type 0 where
    pub before : List Name
    pub read : ReadTo M list i before
    pub after : List Name
    pub this : Turn before i after
    pub keeps : Keeps after gs

module _ {M : Meaning} {list : List ℕ} where
  -- a text has a number that is not past the groups
  pub text_within : {gs : List Name} {i : ℕ} {text : List ℕ} → TextAt M list gs i text → i ≤ length gs
  text_within (the_list z e) = omega arith
  text_within (the_group k is lt has) = omega arith

  -- there is one text of a number
  pub text_one : {gs : List Name} {i : ℕ} {s t : List ℕ} → TextAt M list gs i s → TextAt M list gs i t → s ≡ t
  text_one (the_list z e) (the_list z' e') = e ∙ sym e'
  text_one (the_list z e) (the_group k is lt has) = absurd (omega arith)
  text_one (the_group k is lt has) (the_list z e) = absurd (omega arith)
  text_one (the_group k is lt has) (the_group k' is' lt' has') = let same : k ≡ k' = omega arith in cc

  -- it stays the same while groups keep their numbers
  pub text_keeps : {gs hs : List Name} {i : ℕ} {text : List ℕ} → Keeps gs hs → TextAt M list gs i text → TextAt M list hs i text
  text_keeps keep (the_list z e) = the_list z e
  text_keeps keep (the_group k is lt has) = let n = keep _ k (numbered_at k lt) in the_group k is n.below (ap M n.is ∙ has)

  -- it has one row of references
  pub references_one : {gs : List Name} {i : ℕ} {s t : List ℕ} {rs ss : List Reference} → TextAt M list gs i s → Refers s rs → TextAt M list gs i t → Refers t ss → rs ≡ ss
  references_one {rs = rs} at f at' f' = refers_one (subst (λ x. Refers x rs) (text_one at at') f) f'

  -- a turn ends in one way
  turn_one : {gs a b : List Name} {i : ℕ} → Turn M list gs i a → Turn M list gs i b → a ≡ b
  turn_one {gs} {b = b} s t = meets_all_one s.meets (subst (λ rs. MeetsAll M gs rs b) (references_one t.here t.refers s.here s.refers) t.meets)

  -- a turn, from its parts
  pub taken : {gs hs : List Name} {i : ℕ} {text : List ℕ} {rs : List Reference} → TextAt M list gs i text → LawfulList text → Refers text rs → MeetsAll M gs rs hs → Turn M list gs i hs
  taken at l f ms = record { text = _; here = at; lawful = l; references = _; refers = f; meets = ms }

  -- as many texts are read in one way
  pub read_one : {gs hs : List Name} {m n : ℕ} → ReadTo M list m gs → ReadTo M list n hs → m ≡ n → gs ≡ hs
  read_one start start e = refl
  read_one start (turn is r at l f ms) e = absurd (omega arith)
  read_one (turn is r at l f ms) start e = absurd (omega arith)
  read_one {hs = hs} (turn {i = i} is r at l f ms) (turn {i = j} is' r' at' l' f' ms') e =
      let same : j ≡ i = omega arith in
      turn_one (taken at l f ms) (subst₂ (λ x y. Turn M list x y hs) (sym (read_one r r' (sym same))) same (taken at' l' f' ms'))

  -- every text with a lower number was read
  pub read_before : {gs : List Name} {n : ℕ} → ReadTo M list n gs → (i : ℕ) → i < n → Read M list gs i
  read_before start i lt = absurd (omega arith)
  read_before {gs} (turn {i = j} is r at l f ms) i lt =
      ⊎_elim
      (λ lt'. let b = read_before r i lt' in record { before = b.before; read = b.read; after = b.after; this = b.this; keeps = λ g k n. meets_keeps ms (b.keeps g k n) })
      (λ le. let same : j ≡ i = omega arith in subst (Read M list gs) same (record { before = _; read = r; after = gs; this = taken at l f ms; keeps = λ g k n. n }))
      (cases_lt i j)

  -- where a text cannot be read, none further on is
  pub no_further : {gs hs : List Name} {i j : ℕ} → ReadTo M list i gs → NoTurn M list gs i → ReadTo M list j hs → j ≤ i
  no_further {i = i} {j = j} r stop s =
      ⊎_elim
      (λ lt. let b = read_before s i lt in absurd (stop b.after (subst (λ x. Turn M list x i b.after) (read_one b.read r refl) b.this)))
      (λ le. le)
      (cases_lt i j)

  -- one text at most cannot be read
  pub stops_one : {gs hs : List Name} {i j : ℕ} → ReadTo M list i gs → NoTurn M list gs i → ReadTo M list j hs → NoTurn M list hs j → (i ≡ j) × (gs ≡ hs)
  stops_one {i = i} {j = j} r stop s stop' = let same : i ≡ j = omega (arith, no_further r stop s, no_further s stop' r) in (same, read_one r s same)

  -- at most 32 groups are known
  pub read_few : {gs : List Name} {n : ℕ} → ReadTo M list n gs → length gs ≤ 32
  read_few start = omega arith
  read_few (turn is r at l f ms) = meets_few ms (read_few r)

  -- they are distinct
  pub read_distinct : {gs : List Name} {n : ℕ} → ReadTo M list n gs → Distinct gs
  read_distinct start = λ g j k m n. absurd (omega (arith, m.below))
  read_distinct (turn is r at l f ms) = meets_distinct ms (read_distinct r)

  -- the book was checked for each
  pub read_checked : {gs : List Name} {n : ℕ} {g : Name} → ReadTo M list n gs → Known gs g → Checks M list g
  read_checked start k = absurd (omega (arith, k.1.below))
  read_checked (turn {i = i} is r at l f ms) k =
      ⊎_elim (read_checked r)
      (λ c. record { number = i; known = _; read = r; text = _; here = at; lawful = l; references = _; refers = f; checked = c })
      (known_checked ms k)

  module _ {gs : List Name} (all : ReadTo M list (length gs + 1) gs) where
    -- when the texts of all known groups have been read, none is left
    pub all_stops : NoTurn M list gs (length gs + 1)
    all_stops hs t = omega (arith, text_within t.here)

    -- then every reference of a text is to a group that is known
    pub references_known : {i place : ℕ} {text : List ℕ} {g : Name} → TextAt M list gs i text → RefersAt text place g → Known gs g
    references_known {i} {place} {g = g} at f =
        let b = read_before all i (omega (arith, text_within at)) in
        let t = b.this in
        let same = references_one (text_keeps (λ g k n. b.keeps g k (meets_keeps t.meets n)) t.here) t.refers at f.refers in
        let k = names_known f.before f.after (record { place = place; name = g }) (subst (λ rs. MeetsAll M b.before rs b.after) same t.meets) in
        (k.0, b.keeps g k.0 k.1)

    -- and every name that the book was checked for is known
    pub checks_known : {g : Name} → Checks M list g → Known gs g
    checks_known {g} c =
        ⊎_elim
        (λ lt.
        let b = read_before all c.number lt in
        let t = subst (λ x. Turn M list x c.number b.after) (read_one b.read c.read refl) b.this in
        let same = references_one t.here t.refers c.here c.refers in
        let k = checked_known c.checked (subst (λ rs. MeetsAll M c.known rs b.after) same t.meets) in
        (k.0, b.keeps g k.0 k.1))
        (λ le.
        let same : c.number ≡ length gs + 1 = omega (arith, no_further all all_stops c.read) in
        absurd (omega (arith, ap length (read_one c.read all same), text_within c.here)))
        (cases_lt c.number (length gs + 1))
