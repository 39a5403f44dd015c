-- A matcher tells whether some run of a kind stands at the front of some parts, such that the rest behind it
-- passes a test.
use Rattle.std.proofs.Common.{◌≡◌, ℕ, Bool, true, false, ◌&&◌, ◌||◌, leb, List, [], ◌∷◌, ◌++◌, length, refl, ap, ⊎_elim, le-leb, leb-true}
use borrow.Author.Tests.{clash}
use Rattle.std.proofs.lemmas.Slice.Eq.{bytes_eq-Decides}
use Rattle.std.proofs.lemmas.Bool.{and_parts, and_from, or_cases, or_left, or_right}
use Rattle.std.specs.List.{AllByRecursion, list_all}
use Rattle.std.specs.Str.{bytes_eq}
use Rattle.names.specs.Words.{word_byte, Word}
use Rattle.names.specs.Names.{Part, word, dot, at, plus, Partial, single, dotted}
use Rattle.names.specs.Rules.{exact}
use Rattle.lists.specs.Trees
use Rattle.lists.specs.Trees.{Atom, any}
use Rattle.derivations.specs.Derives.{AtomDerives, a_word, a_dot, an_at, a_plus, a_partial}
use Rattle.lists.proofs.Elements.{every_passed}

abbrev pub Matcher : Type 0
Matcher = List Part → (List Part → Bool) → Bool

-- a run of the kind D at the front of the parts, and a rest that passes
pub record Found (D : List Part → Type 0) (ps : List Part) (passes : List Part → Bool) : Type 0 where
  pub run : List Part
  pub rest : List Part
  pub split : run ++ rest ≡ ps
  pub derived : D run
  pub passed : passes rest ≡ true

-- a run of one kind is one of another
pub other_run : {D E : List Part → Type 0} {ps : List Part} {passes : List Part → Bool} → ((qs : List Part) → D qs → E qs) → Found D ps passes → Found E ps passes
other_run to f = record { run = f.run; rest = f.rest; split = f.split; derived = to f.run f.derived; passed = f.passed }

-- the matcher tells of the runs of the kind D
pub record Exact (m : Matcher) (D : List Part → Type 0) : Type 0 where
  pub sound : (ps : List Part) (passes : List Part → Bool) → m ps passes ≡ true → Found D ps passes
  pub complete : {run : List Part} → D run → (rest : List Part) (passes : List Part → Bool) → passes rest ≡ true → m (run ++ rest) passes ≡ true

-- one part

abbrev by_part : (List ℕ → Bool) → Bool → Bool → Bool → Part → Bool
by_part w d a p (word v) = w v
by_part w d a p dot = d
by_part w d a p at = a
by_part w d a p plus = p

abbrev first : (Part → Bool) → Matcher
first test [] passes = false
first test (p ∷ ps) passes = test p && passes ps

module _ (D : List Part → Type 0) (w : List ℕ → Bool) (d a p : Bool) (is_IsWord : (v : List ℕ) → w v ≡ true → D (word v ∷ [])) (is-dot : d ≡ true → D (dot ∷ [])) (is_at : a ≡ true → D (at ∷ [])) (is-plus : p ≡ true → D (plus ∷ [])) where
  by_part_sound : (q : Part) → by_part w d a p q ≡ true → D (q ∷ [])
  by_part_sound (word v) e = is_IsWord v e
  by_part_sound dot e = is-dot e
  by_part_sound at e = is_at e
  by_part_sound plus e = is-plus e

  first_sound : (ps : List Part) (passes : List Part → Bool) → first (by_part w d a p) ps passes ≡ true → Found D ps passes
  first_sound [] passes e = absurd (clash e)
  first_sound (q ∷ ps) passes e = let h = and_parts (by_part w d a p q) (passes ps) e in record { run = q ∷ []; rest = ps; split = refl; derived = by_part_sound q h.0; passed = h.1 }

-- partial names

abbrev reads_as_word : List ℕ → Bool
reads_as_word w = leb 1 (length w) && leb (length w) 32 && list_all word_byte w

word_passed : (w : List ℕ) → reads_as_word w ≡ true → Word w
word_passed w e =
    let h = and_parts _ _ e in
    let l = and_parts _ _ h.0 in
    record { some = leb-true 1 (length w) l.0; few = leb-true (length w) 32 l.1; bytes = every_passed (λ b. word_byte b ≡ true) word_byte (λ b is. is) w h.1 }

all_passed : (w : List ℕ) → AllByRecursion (λ b. word_byte b ≡ true) w → list_all word_byte w ≡ true
all_passed [] h = refl
all_passed (b ∷ w) h = and_from _ _ h.0 (all_passed w h.1)

word_passes : (w : List ℕ) → Word w → reads_as_word w ≡ true
word_passes w h = and_from _ _ (and_from _ _ (le-leb 1 (length w) h.some) (le-leb (length w) 32 h.few)) (all_passed w h.bytes)

-- a partial name; what may follow its first word: a dot and a partial name
abbrev mutual
  partial : Matcher
  partial [] passes = false
  partial (word w ∷ ps) passes = reads_as_word w && (passes ps || after ps passes)
  partial (dot ∷ ps) passes = false
  partial (at ∷ ps) passes = false
  partial (plus ∷ ps) passes = false

  after : Matcher
  after [] passes = false
  after (word w ∷ ps) passes = false
  after (dot ∷ ps) passes = partial ps passes
  after (at ∷ ps) passes = false
  after (plus ∷ ps) passes = false

abbrev Dotted : List ℕ → List Part → Type 0
Dotted w ps = Partial (word w ∷ ps)

mutual
  partial_sound : (ps : List Part) (passes : List Part → Bool) → partial ps passes ≡ true → Found Partial ps passes
  partial_sound [] passes e = absurd (clash e)
  partial_sound (word w ∷ ps) passes e =
      let h = and_parts (reads_as_word w) (passes ps || after ps passes) e in
      let is = word_passed w h.0 in
      ⊎_elim
      (λ p. record { run = word w ∷ []; rest = ps; split = refl; derived = single is; passed = p })
      (λ p. let f = after_sound ps w is passes p in record { run = word w ∷ f.run; rest = f.rest; split = ap (λ u. word w ∷ u) f.split; derived = f.derived; passed = f.passed })
      (or_cases (passes ps) (after ps passes) h.1)
  partial_sound (dot ∷ ps) passes e = absurd (clash e)
  partial_sound (at ∷ ps) passes e = absurd (clash e)
  partial_sound (plus ∷ ps) passes e = absurd (clash e)

  after_sound : (ps : List Part) (w : List ℕ) → Word w → (passes : List Part → Bool) → after ps passes ≡ true → Found (Dotted w) ps passes
  after_sound [] w is passes e = absurd (clash e)
  after_sound (word v ∷ ps) w is passes e = absurd (clash e)
  after_sound (dot ∷ ps) w is passes e = let f = partial_sound ps passes e in record { run = dot ∷ f.run; rest = f.rest; split = ap (λ u. dot ∷ u) f.split; derived = dotted is f.derived; passed = f.passed }
  after_sound (at ∷ ps) w is passes e = absurd (clash e)
  after_sound (plus ∷ ps) w is passes e = absurd (clash e)

partial_complete : {run : List Part} → Partial run → (rest : List Part) (passes : List Part → Bool) → passes rest ≡ true → partial (run ++ rest) passes ≡ true
partial_complete (single {w = w} h) rest passes e = and_from _ _ (word_passes w h) (or_left _ _ e)
partial_complete (dotted {w = w} h p) rest passes e = and_from _ _ (word_passes w h) (or_right _ _ (partial_complete p rest passes e))

-- atoms

abbrev pub atom : Atom → Matcher
atom (Trees.word w) = first (by_part (bytes_eq w) false false false)
atom Trees.dot = first (by_part (λ w. false) true false false)
atom Trees.at = first (by_part (λ w. false) false true false)
atom Trees.plus = first (by_part (λ w. false) false false true)
atom any = partial

atom_sound : (a : Atom) (ps : List Part) (passes : List Part → Bool) → atom a ps passes ≡ true → Found (AtomDerives exact a) ps passes
atom_sound (Trees.word w) = first_sound _ _ _ _ _ (λ v e. a_word ((bytes_eq-Decides w v).0 e)) (λ e. absurd (clash e)) (λ e. absurd (clash e)) (λ e. absurd (clash e))
atom_sound Trees.dot = first_sound _ _ _ _ _ (λ v e. absurd (clash e)) (λ e. a_dot) (λ e. absurd (clash e)) (λ e. absurd (clash e))
atom_sound Trees.at = first_sound _ _ _ _ _ (λ v e. absurd (clash e)) (λ e. absurd (clash e)) (λ e. an_at) (λ e. absurd (clash e))
atom_sound Trees.plus = first_sound _ _ _ _ _ (λ v e. absurd (clash e)) (λ e. absurd (clash e)) (λ e. absurd (clash e)) (λ e. a_plus)
atom_sound any = λ ps passes e. other_run (λ qs. a_partial) (partial_sound ps passes e)

atom_complete : {a : Atom} {run : List Part} → AtomDerives exact a run → (rest : List Part) (passes : List Part → Bool) → passes rest ≡ true → atom a (run ++ rest) passes ≡ true
atom_complete (a_word {w = w} {v = v} is) rest passes e = and_from _ _ ((bytes_eq-Decides w v).1 is) e
atom_complete a_dot rest passes e = e
atom_complete an_at rest passes e = e
atom_complete a_plus rest passes e = e
atom_complete (a_partial p) rest passes e = partial_complete p rest passes e

pub atom_exact : (a : Atom) → Exact (atom a) (AtomDerives exact a)
atom_exact a = record { sound = atom_sound a; complete = atom_complete }
