-- What a line says, by its tabs and its word.
use Rattle.std.proofs.Common.{◌≡◌, ℕ, ◌<◌, ◌≤◌, List, [], ◌∷◌, length, get_or, codes, Option, Some, None, sym, refl, ap, ◌∙◌, subst, arith}
use Rattle.scripts.specs.declared.call.Call.{Call}
use Rattle.scripts.specs.declared.call.Call.TheVariants.{Name, Path, List as ListCall, Group, Ungroup, Open, Match, Start, Spawn, Role, Own, End, Post, PostBoth, Unpost, Force}
use Rattle.scripts.specs.Lines.{Lacks, Cut, Fields, last, more, parts, Spells, SaysCall, SaysMore, Says, nothing, comment, call, OneMeaning}
use Rattle.scripts.specs.Understood.{Told}
use Rattle.scripts.proofs.Cuts.{cut_has, cut_once}

-- a line that begins with nothing but `#` says nothing
pub says_nothing : (text : List ℕ) → (0 < length text → get_or text 0 0 ≡ 35) → Says text None
says_nothing [] hash = nothing
says_nothing (byte ∷ text) hash = rw (hash (omega arith)) comment

-- a line has one row of fields
pub fields_once : {text : List ℕ} {fs gs : List (List ℕ)} → Fields text fs → Fields text gs → fs ≡ gs
fields_once (last h) (last k) = refl
fields_once (last h) (more cut k) = absurd (cut_has cut h)
fields_once (more cut h) (last k) = absurd (cut_has cut k)
fields_once {gs = gs} (more {field = a} {fields = fs} cut h) (more {field = b} {rest = r} {fields = gs'} cut' k) =
    let same = cut_once cut cut' in
    let rest = fields_once h (subst (λ t. Fields t gs') (sym same.1) k) in
    cc (same.0, rest)

spells_again : {fs gs : List (List ℕ)} (told : Call) → gs ≡ fs → Spells gs told → Spells fs told
spells_again told e s = (s.0 ∙ e, s.1)

-- a call has one to three fields after its word
few : (told : Call) → (length (parts told) ≡ 1 → ⊥) × (length (parts told) ≤ 4)
few (Name text) = (λ e. omega arith, omega arith)
few (Path text) = (λ e. omega arith, omega arith)
few (ListCall text) = (λ e. omega arith, omega arith)
few (Group name text) = (λ e. omega arith, omega arith)
few (Ungroup name) = (λ e. omega arith, omega arith)
few (Open text) = (λ e. omega arith, omega arith)
few (Match name text) = (λ e. omega arith, omega arith)
few (Start program) = (λ e. omega arith, omega arith)
few (Spawn parent program) = (λ e. omega arith, omega arith)
few (Role parent role program) = (λ e. omega arith, omega arith)
few (Own parent program) = (λ e. omega arith, omega arith)
few (End process) = (λ e. omega arith, omega arith)
few (Post path text) = (λ e. omega arith, omega arith)
few (PostBoth path text second) = (λ e. omega arith, omega arith)
few (Unpost path) = (λ e. omega arith, omega arith)
few (Force path) = (λ e. omega arith, omega arith)

-- so a line without a tab is no call, and neither is one with four
pub lone_word : {text : List ℕ} → Fields text (text ∷ []) → (told : Call) → SaysCall text told → ⊥
lone_word fs told says = (few told).0 (ap length (says.spells.0 ∙ fields_once says.parted fs))

-- the fields after the first tab are one fewer
after_cut : {text a b : List ℕ} {fields : List (List ℕ)} → Cut 9 text a b → Fields text fields → (rest : List (List ℕ)) × (fields ≡ a ∷ rest) × Fields b rest
after_cut cut (last h) = absurd (cut_has cut h)
after_cut cut (more {fields = rest} cut' k) =
    let same = cut_once cut' cut in
    (rest, cc (same.0), subst (λ t. Fields t rest) same.1 k)

cut_again : {text word rest first others : List ℕ} {told : Call} → Cut 9 text word rest → Cut 9 rest first others → SaysCall text told → SaysMore word first others told
cut_again one two says =
    let x = after_cut one says.parted in
    let y = after_cut two x.2 in
    record { fields = y.0; parted = y.2; spells = spells_again _ (cc (x.1, y.1)) says.spells }

-- the call that a line's fields spell is the one that the line says
pub by_fields : {text : List ℕ} {fields : List (List ℕ)} → Fields text fields → (answer : Option Call) → Told (Spells fields) answer → Told (SaysCall text) answer
by_fields {fields = fields} fs (Some told) is = record { fields = fields; parted = fs; spells = is }
by_fields fs None never = λ told says. never told (spells_again told (fields_once says.parted fs) says.spells)

pub by_more : (word first : List ℕ) {others : List ℕ} {fields : List (List ℕ)} → Fields others fields → (answer : Option Call) → Told (Spells (word ∷ first ∷ fields)) answer → Told (SaysMore word first others) answer
by_more word first {fields = fields} fs (Some told) is = record { fields = fields; parted = fs; spells = is }
by_more word first fs None never = λ told says. never told (spells_again told (ap (λ l. word ∷ first ∷ l) (fields_once says.parted fs)) says.spells)

-- what stands after the first tabs
pub joined : {text word rest first others : List ℕ} → Cut 9 text word rest → Cut 9 rest first others → (answer : Option Call) → Told (SaysMore word first others) answer → Told (SaysCall text) answer
joined {word = word} {first = first} one two (Some told) is = record { fields = word ∷ first ∷ is.fields; parted = more one (more two is.parted); spells = is.spells }
joined one two None never = λ told says. never told (cut_again one two says)

-- a line of one field whose word is none of these is no call
pub no_call : (word field : List ℕ) → (word ≡ codes "name" → ⊥) → (word ≡ codes "path" → ⊥) → (word ≡ codes "list" → ⊥) → (word ≡ codes "ungroup" → ⊥) → (word ≡ codes "open" → ⊥) → (word ≡ codes "start" → ⊥) → (word ≡ codes "end" → ⊥) → (word ≡ codes "unpost" → ⊥) → (word ≡ codes "force" → ⊥) → (told : Call) → Spells (word ∷ field ∷ []) told → ⊥
no_call word field not-name not-path not-list not-ungroup not-open not-start not-end not-unpost not-force (Name text) is = not-name (cc (is.0))
no_call word field not-name not-path not-list not-ungroup not-open not-start not-end not-unpost not-force (Path text) is = not-path (cc (is.0))
no_call word field not-name not-path not-list not-ungroup not-open not-start not-end not-unpost not-force (ListCall text) is = not-list (cc (is.0))
no_call word field not-name not-path not-list not-ungroup not-open not-start not-end not-unpost not-force (Group a b) is = omega (arith, ap length is.0)
no_call word field not-name not-path not-list not-ungroup not-open not-start not-end not-unpost not-force (Ungroup text) is = not-ungroup (cc (is.0))
no_call word field not-name not-path not-list not-ungroup not-open not-start not-end not-unpost not-force (Open text) is = not-open (cc (is.0))
no_call word field not-name not-path not-list not-ungroup not-open not-start not-end not-unpost not-force (Match a b) is = omega (arith, ap length is.0)
no_call word field not-name not-path not-list not-ungroup not-open not-start not-end not-unpost not-force (Start text) is = not-start (cc (is.0))
no_call word field not-name not-path not-list not-ungroup not-open not-start not-end not-unpost not-force (Spawn a b) is = omega (arith, ap length is.0)
no_call word field not-name not-path not-list not-ungroup not-open not-start not-end not-unpost not-force (Role a b d) is = omega (arith, ap length is.0)
no_call word field not-name not-path not-list not-ungroup not-open not-start not-end not-unpost not-force (Own a b) is = omega (arith, ap length is.0)
no_call word field not-name not-path not-list not-ungroup not-open not-start not-end not-unpost not-force (End n) is = not-end (cc (is.0))
no_call word field not-name not-path not-list not-ungroup not-open not-start not-end not-unpost not-force (Post a b) is = omega (arith, ap length is.0)
no_call word field not-name not-path not-list not-ungroup not-open not-start not-end not-unpost not-force (PostBoth a b d) is = omega (arith, ap length is.0)
no_call word field not-name not-path not-list not-ungroup not-open not-start not-end not-unpost not-force (Unpost text) is = not-unpost (cc (is.0))
no_call word field not-name not-path not-list not-ungroup not-open not-start not-end not-unpost not-force (Force text) is = not-force (cc (is.0))

-- what has one field at most has no tab
sole_field : {text : List ℕ} {fields : List (List ℕ)} → length fields ≤ 1 → Fields text fields → Lacks 9 text
sole_field sole (last h) = h
sole_field sole (more cut (last h)) = absurd (omega arith)
sole_field sole (more cut (more cut' k)) = absurd (omega arith)

pub too_many : (word first : List ℕ) {others second third : List ℕ} → Cut 9 others second third → (Lacks 9 third → ⊥) → (told : Call) → SaysMore word first others told → ⊥
too_many word first cut tab told says =
    let x = after_cut cut says.parted in
    tab (sole_field (omega (arith, (few told).1, ap length says.spells.0, ap length x.1)) x.2)

-- the first field of a comment begins with its `#`, as no call's word does
keeps_hash : {text : List ℕ} {fields : List (List ℕ)} → Fields (35 ∷ text) fields → get_or (get_or fields 0 []) 0 0 ≡ 35
keeps_hash (last h) = refl
keeps_hash (more {field = []} cut k) = absurd (omega (arith, ap (λ l. get_or l 0 0) cut.whole))
keeps_hash (more {field = byte ∷ word} cut k) = sym (ap (λ l. get_or l 0 0) cut.whole)

no_hash : (told : Call) → get_or (get_or (parts told) 0 []) 0 0 ≡ 35 → ⊥
no_hash (Name text) hash = omega (arith, hash)
no_hash (Path text) hash = omega (arith, hash)
no_hash (ListCall text) hash = omega (arith, hash)
no_hash (Group name text) hash = omega (arith, hash)
no_hash (Ungroup name) hash = omega (arith, hash)
no_hash (Open text) hash = omega (arith, hash)
no_hash (Match name text) hash = omega (arith, hash)
no_hash (Start program) hash = omega (arith, hash)
no_hash (Spawn parent program) hash = omega (arith, hash)
no_hash (Role parent role program) hash = omega (arith, hash)
no_hash (Own parent program) hash = omega (arith, hash)
no_hash (End process) hash = omega (arith, hash)
no_hash (Post path text) hash = omega (arith, hash)
no_hash (PostBoth path text second) hash = omega (arith, hash)
no_hash (Unpost path) hash = omega (arith, hash)
no_hash (Force path) hash = omega (arith, hash)

-- a line that says nothing is no call
silent : {text : List ℕ} → Says text None → (told : Call) → SaysCall text told → ⊥
silent nothing told says = lone_word (last (λ i lt. absurd (omega arith))) told says
silent comment told says = no_hash told (subst (λ fs. get_or (get_or fs 0 []) 0 0 ≡ 35) (sym says.spells.0) (keeps_hash says.parted))

-- a line says one thing
pub says_once : (text : List ℕ) → OneMeaning text
says_once text None None p q = refl
says_once text None (Some told) p (call says) = absurd (silent p told says)
says_once text (Some told) None (call says) q = absurd (silent q told says)
says_once text (Some a) (Some b) (call says) (call again) = ap Some (says.spells.0 ∙ fields_once says.parted again.parted ∙ sym again.spells.0)

-- a line that begins with another byte and is no call says nothing that is known
pub unsaid : (text : List ℕ) → 0 < length text → (get_or text 0 0 ≡ 35 → ⊥) → ((told : Call) → SaysCall text told → ⊥) → (told : Option Call) → Says text told → ⊥
unsaid text some other never None nothing = omega arith
unsaid text some other never None comment = other refl
unsaid text some other never (Some told) (call says) = never told says
