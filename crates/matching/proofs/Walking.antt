-- The walk over the tokens of a list while it is judged.
use Rattle.std.proofs.Common.{◌≡◌, ℕ, ◌+◌, ◌-◌, true, List, [], ◌∷◌, ◌++◌, length, take, drop, Some, None, sym, refl, ap, ◌∙◌, subst, arith, Bor}
use Rattle.std.specs.List.{AllByRecursion}
use Rattle.names.specs.Names.{Part}
use Rattle.lists.specs.declared.token.Token.{Token}
use Rattle.lists.specs.declared.token.Token.TheVariants.{Word, Dot, At, Plus, Any, Open, Close, Star, Bar, Group}
use Rattle.lists.specs.declared.token.Lexeme.{Lexeme}
use Rattle.lists.specs.Bytes.{Past}
use Rattle.lists.specs.Lexemes.{sign, is_blank, Gap}
use Rattle.lists.specs.Trees
use Rattle.lists.specs.Trees.{Atom, Sign, atom, named, close_bracket, Tree, list}
use Rattle.lists.specs.Texts.{tree_signs}
use Rattle.lists.specs.Placed.{Placed, none, signs_of, Walks}
use Rattle.runs.specs.declared.relation.Runs.{Runs}
use Rattle.derivations.specs.Derives.{AtomDerives, ItemDerives, GroupOf}
use Rattle.matching.specs.declared.judge.Judge.{Judge}
use Rattle.matching.specs.declared.step.Step.{Step}
use Rattle.matching.specs.declared.step.Step.TheVariants.{Runs as Each}
use Rattle.matching.specs.declared.reading.Reading.{Reading}
use Rattle.matching.specs.Readings.{Begins, Pushed, Repeated, Finished, Barred}
use Rattle.matching.specs.Judging.{ForParts, table_of, StepMeans, GroupReady, TreeReady, Closes, Judged, Judges}
use Rattle.matching.proofs.Course.{Course, course_start, course_atom, course_group, course_star, course_bar, course_inside, course_bracket, course_close, course_end}

-- a token that is no bracket, star, bar or group is an atom
pub an_atom : (t : Token) → (t ≡ Open → ⊥) → (t ≡ Close → ⊥) → (t ≡ Star → ⊥) → (t ≡ Bar → ⊥) → ((g : Bor (List ℕ)) → t ≡ Group g → ⊥) → (a : Atom) × (sign t ≡ atom a)
an_atom (Word w) o c s b g = (Trees.word w.now, refl)
an_atom Dot o c s b g = (Trees.dot, refl)
an_atom At o c s b g = (Trees.at, refl)
an_atom Plus o c s b g = (Trees.plus, refl)
an_atom Any o c s b g = (Trees.any, refl)
an_atom Open o c s b g = absurd (o refl)
an_atom Close o c s b g = absurd (c refl)
an_atom Star o c s b g = absurd (s refl)
an_atom Bar o c s b g = absurd (b refl)
an_atom (Group n) o c s b g = absurd (g n refl)

-- at the text's end no token is left
placed_end : {text text' : List ℕ} {at at' : ℕ} → Walks text at None text' at' → Placed text at' []
placed_end {text} {at' = at'} w =
    let here : at' ≡ length text = w.end in
    let nothing : at' - at' ≡ 0 = omega arith in
    none (subst (λ n. Gap text at' n) here (record {
      forward = omega arith;
      within = omega arith;
      bytes = subst (λ n. AllByRecursion (λ b. is_blank b ≡ true) (take n (drop at' text))) (sym nothing) tt;
      past = subst (λ n. Past is_blank (drop n text)) (sym here) w.found.past;
    }))

module _ {R : Type 0} (same : R → List ℕ → List ℕ → Type 0) (judge : Judge R) (text : List ℕ) (start starts : ℕ) where
  -- whatever the name's parts, the table, the tree and what follows it are: the course of the judgement from the start
  abbrev pub Courses : ℕ → Reading → Type 0
  Courses at reading =
      ForParts judge (λ ps. (tree : Tree) → TreeReady same judge ps tree → (tail : List Sign) (closes : Closes tail) (qs : List (ℕ × Sign)) → Placed text start qs → signs_of qs ≡ tree_signs tree ++ tail → Course same judge ps tree tail closes text starts at reading)

  -- nothing has been read
  pub courses_start : (reading : Reading) → Begins starts reading → Courses start reading
  courses_start reading b ps is tree ready tail closes qs placed these = course_start same judge ps tree tail closes text starts start reading ready qs placed these b

module _ {R : Type 0} {same : R → List ℕ → List ℕ → Type 0} {judge : Judge R} {text : List ℕ} {start starts at : ℕ} {reading : Reading} (before : Courses same judge text start starts at reading) where
  -- a token has been passed
  module _ {lexeme : Lexeme} {text' : List ℕ} {at' : ℕ} (walks : Walks text at (Some lexeme) text' at') where
    -- the tokens that were left begin with one that is known
    tokens_are : {s : Sign} {rest left : List (ℕ × Sign)} → left ≡ (lexeme.place, sign lexeme.token) ∷ rest → sign lexeme.token ≡ s → left ≡ (lexeme.place, s) ∷ rest
    tokens_are {rest = rest} e f = e ∙ ap (λ s. (lexeme.place, s) ∷ rest) f

    pub courses_atom : (a : Atom) (step : Step) (reading' : Reading) → sign lexeme.token ≡ atom a → ForParts judge (λ ps. StepMeans ps (AtomDerives (same judge.rule.now) a) step) → Pushed reading step reading' → Courses same judge text start starts at' reading'
    courses_atom a step reading' f means p ps is tree ready tail closes qs placed these =
        let course = before ps is tree ready tail closes qs placed these in
        let (rest, (e, there)) = walks.token course.rest course.placed in
        course_atom same judge ps tree tail closes text starts at reading course lexeme.place rest at' there reading' a step (tokens_are e f) (means ps is) p

    pub courses_group : (g : List ℕ) (step : Step) (reading' : Reading) → sign lexeme.token ≡ Trees.group g → ((ps : List Part) → GroupReady same judge ps g → StepMeans ps (ItemDerives (same judge.rule.now) (GroupOf (table_of judge)) (named g)) step) → Pushed reading step reading' → Courses same judge text start starts at' reading'
    courses_group g step reading' f means p ps is tree ready tail closes qs placed these =
        let course = before ps is tree ready tail closes qs placed these in
        let (rest, (e, there)) = walks.token course.rest course.placed in
        course_group same judge ps tree tail closes text starts at reading course lexeme.place rest at' there reading' g step (tokens_are e f) (means ps) p

    pub courses_star : (places : ℕ) (reading' : Reading) → sign lexeme.token ≡ Trees.star → ForParts judge (λ ps. places ≡ length ps + 1) → Repeated reading places reading' → Courses same judge text start starts at' reading'
    courses_star places reading' f whole r ps is tree ready tail closes qs placed these =
        let course = before ps is tree ready tail closes qs placed these in
        let (rest, (e, there)) = walks.token course.rest course.placed in
        course_star same judge ps tree tail closes text starts at reading course lexeme.place rest at' there reading' (tokens_are e f) (subst (λ n. Repeated reading n reading') (whole ps is) r)

    pub courses_bar : (reading' : Reading) → sign lexeme.token ≡ Trees.bar → Barred reading reading' → Courses same judge text start starts at' reading'
    courses_bar reading' f b ps is tree ready tail closes qs placed these =
        let course = before ps is tree ready tail closes qs placed these in
        let (rest, (e, there)) = walks.token course.rest course.placed in
        course_bar same judge ps tree tail closes text starts at reading course lexeme.place rest at' there reading' (tokens_are e f) b

    pub courses_bracket : (places at'' : ℕ) (runs : Runs) (reading' : Reading) → sign lexeme.token ≡ Trees.open_bracket → ForParts judge (λ ps. places ≡ length ps + 1) → Judges same judge text at' at'' places runs → Pushed reading (Each runs) reading' → Courses same judge text start starts at'' reading'
    courses_bracket places at'' runs reading' f whole judged p ps is tree ready tail closes qs placed these =
        let course = before ps is tree ready tail closes qs placed these in
        let (rest, (e, there)) = walks.token course.rest course.placed in
        let inside = course_inside same judge ps tree tail closes text starts at reading course lexeme.place rest (tokens_are e f) in
        let tail' = close_bracket ∷ (inside.beyond ++ tail) in
        let done = judged ps is (list inside.alts) inside.ready tail' refl rest there inside.these in
        course_bracket same judge ps tree tail closes text starts at reading course lexeme.place rest inside at'' runs reading' (subst (λ n. Judged same judge ps (list inside.alts) n runs tail' text at'') (whole ps is) done) p

    pub courses_close : (runs : Runs) → sign lexeme.token ≡ close_bracket → Finished reading runs → Judges same judge text start at' starts runs
    courses_close runs f finished ps is tree ready tail closes qs placed these =
        let course = before ps is tree ready tail closes qs placed these in
        let (rest, (e, there)) = walks.token course.rest course.placed in
        course_close same judge ps tree tail closes text starts at reading course runs finished lexeme.place rest at' (tokens_are e f) there

  -- no token was left
  pub courses_end : {text' : List ℕ} {at' : ℕ} (runs : Runs) → Walks text at None text' at' → Finished reading runs → Judges same judge text start at' starts runs
  courses_end {at' = at'} runs walks finished ps is tree ready tail closes qs placed these =
      let course = before ps is tree ready tail closes qs placed these in
      course_end same judge ps tree tail closes text starts at reading course runs finished at' (walks.token course.rest course.placed) (placed_end walks)
