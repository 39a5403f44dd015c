-- What is known of an opened list. It is held as mere statements, and each of them is decided.
use Rattle.std.proofs.Common.{◌≡◌, ℕ, zero, suc, ◌+◌, ◌<◌, List, [], ◌∷◌, length, get_or, Some, None, Option, sym, refl, ap, subst, inl, inr, ⊎_elim, arith}
use Rattle.std.specs.Str.{bytes_eq}
use Rattle.std.proofs.lemmas.Slice.Eq.{bytes_eq-Decides}
use Rattle.std.proofs.lemmas.Bool.{cases_eq}
use Rattle.std.specs.List.{AllByRecursion}
use Rattle.positions.proofs.Digits.{has_or_not}
use Rattle.links.specs.declared.links.Links.{Links}
use Rattle.links.specs.Links.{Linked}
use Rattle.names.proofs.Deciding.{Decided}
use Rattle.name_parts.proofs.Mere.{mere_out, decide_lt, decide_true, decide_pair, decide_as}
use Rattle.lists.specs.declared.list.AccessList.{AccessList}
use Rattle.lists.specs.Texts.{LawfulList}
use Rattle.lists.proofs.Deciding.{lawful_list}
use Rattle.books.specs.Tables.{Table, text_of}
use Rattle.openings.specs.declared.opened.Opened.{Opened}
use Rattle.openings.specs.References.{Reference, Refers}
use Rattle.openings.specs.Opening.{Name, Numbered, Known, Distinct, ReadTo, the_list}
use Rattle.openings.specs.Circles.{Names, Leads, here, on, LeadsOn}
use Rattle.openings.specs.Opened.{names_of, texts_of}
use Rattle.openings.specs.MetReferences.{Named}
use Rattle.openings.specs.Pairs.{pairs}
use Rattle.openings.specs.Views.{texts_in}
use Rattle.openings.specs.KnownNames.{known}
use Rattle.openings.specs.Whole.{Whole, Tells}
use Rattle.openings.specs.Answers.{list_of, groups_of}
use Rattle.openings.proofs.Knowing.{known_more, known_cases}
use Rattle.openings.proofs.Turns.{references_known, read_distinct}
use Rattle.openings.proofs.TableTexts.{length_names}
use Rattle.openings.proofs.Collecting.{named_refers}
use Rattle.openings.proofs.Circling.{named_known}
use Rattle.openings.proofs.Answering.{complete}

-- the names and the texts of a table are as many as its rows
pub length_texts : (t : Table) → length (texts_of t) ≡ length t
length_texts [] = refl
length_texts (e ∷ t) = ap suc (length_texts t)

-- each name of the table stands with the text that the table has for it
pub text_held : (P : Name → List ℕ → Type 0) (t : Table) → AllByRecursion (λ e. P e.name e.text) t → (k : ℕ) → k < length t → P (get_or (names_of t) k []) (get_or (texts_of t) k [])
text_held P [] h k lt = absurd (omega arith)
text_held P (e ∷ t) h zero lt = h.0
text_held P (e ∷ t) h (suc k) lt = text_held P t h.1 k (omega arith)

-- one chain of groups after another
leads_both : {M : Name → Option (List ℕ)} {g h m : Name} → Leads M g h → Leads M h m → Leads M g m
leads_both here l = l
leads_both (on n k) l = on n (leads_both k l)

-- each name of the table has the text beside it
abbrev pub HasTexts : Table → Type 0
HasTexts table = (k : ℕ) → k < length table → text_of table (get_or (names_of table) k []) ≡ Some (get_or (texts_of table) k [])

-- what follows from the statements themselves
module _ {list : List ℕ} {table : Table} (whole : Whole list table) where
  all_read : ReadTo (text_of table) list (length (names_of table) + 1) (names_of table)
  all_read = subst (λ n. ReadTo (text_of table) list (n + 1) (names_of table)) (sym (length_names table)) whole.read

  has_text : HasTexts table
  has_text k lt = text_held (λ g text. text_of table g ≡ Some text) table whole.texts k lt

  -- the group at a number names what the references of its text name
  names_at : (k : ℕ) → k < length table → {rs : List Reference} {g : Name} → Refers (get_or (texts_of table) k []) rs → Named rs g → Names (text_of table) (get_or (names_of table) k []) g
  names_at k lt f n = let (place, at) = named_refers f n in record { text = get_or (texts_of table) k []; has = has_text k lt; place = place; refers = at }

  known_at : (k : ℕ) → k < length table → Known (names_of table) (get_or (names_of table) k [])
  known_at k lt = (k, record { below = omega (arith, length_names table); is = refl })

  list_known : {rs : List Reference} {g : Name} → Refers list rs → Named rs g → Known (names_of table) g
  list_known f n = references_known all_read (the_list refl refl) (named_refers f n).1

  text_known : (k : ℕ) → k < length table → {rs : List Reference} {g : Name} → Refers (get_or (texts_of table) k []) rs → Named rs g → Known (names_of table) g
  text_known k lt f n = named_known all_read (known_at k lt) (names_at k lt f n)

  module _ (leads : Links) (tells : Tells table leads) where
    text_linked : (k : ℕ) → k < length table → {rs : List Reference} {g : Name} → Refers (get_or (texts_of table) k []) rs → Named rs g → (m : ℕ) → Numbered (names_of table) g m → Linked leads k m
    text_linked k lt f n m is = (tells k m).1 (lt, (omega (arith, is.below, length_names table), subst (LeadsOn (text_of table) (get_or (names_of table) k [])) (sym is.is) (record { by = _; names = names_at k lt f n; leads = here })))

    never_back : (k : ℕ) → Linked leads k k → ⊥
    never_back k l = let (lt, (_, round)) = (tells k k).0 l in (complete (text_of table) list table whole).no_circle _ _ (known_at k lt) round.names round.leads

tells_on : (table : Table) (leads : Links) → Tells table leads → (i m j : ℕ) → Linked leads i m → Linked leads m j → Linked leads i j
tells_on table leads tells i m j a b =
    let (lt, (_, one)) = (tells i m).0 a in
    let (_, (lt', two)) = (tells m j).0 b in
    (tells i j).1 (lt, (lt', record { by = one.by; names = one.names; leads = leads_both one.leads (on two.names two.leads) }))

-- each kind of statement is decided
decide_bytes : (a b : List ℕ) → Decided (a ≡ b)
decide_bytes a b = decide_as (decide_true (bytes_eq a b)) (bytes_eq-Decides a b).0 (bytes_eq-Decides a b).1

decide_text : (o : Option (List ℕ)) (text : List ℕ) → Decided (o ≡ Some text)
decide_text None text = inr (λ e. cc)
decide_text (Some s) text = decide_as (decide_bytes s text) (ap Some) (λ e. cc)

decide_known : (gs : List Name) (g : Name) → Decided (Known gs g)
decide_known [] g = inr (λ k. omega (arith, k.1.below))
decide_known (h ∷ gs) g =
    ⊎_elim
    (λ e. inl (0, record { below = omega arith; is = e }))
    (λ ne. ⊎_elim (λ k. inl (known_more k)) (λ never. inr (λ k. ⊎_elim ne never (known_cases k))) (decide_known gs g))
    (decide_bytes h g)

decide_linked : (leads : Links) (i j : ℕ) → Decided (Linked leads i j)
decide_linked leads i j = decide_pair (decide_lt i leads.len) (has_or_not _ j)

-- what is decided may be taken from mere statements that it follows from
by_both : {A B P : Type 0} → ∥ A ∥₁ → ∥ B ∥₁ → Decided P → (A → B → P) → P
by_both a b d f = mere_out a d (λ x. mere_out b d (f x))

-- the texts of lists that are held are lawful
texts_lawful : (gs : List Name) (ls : List AccessList) (k : ℕ) → k < length (pairs gs (texts_in ls)) → LawfulList (get_or (texts_of (pairs gs (texts_in ls))) k [])
texts_lawful [] ls k lt = absurd (omega arith)
texts_lawful (g ∷ gs) [] k lt = absurd (omega arith)
texts_lawful (g ∷ gs) (l ∷ ls) zero lt = lawful_list _ l.lawful
texts_lawful (g ∷ gs) (l ∷ ls) (suc k) lt = texts_lawful gs ls k (omega arith)

-- what is known of an opened list, by the links that tell which group leads to which
pub record Grounds (list : List ℕ) (table : Table) (leads : Links) : Type 0 where
  pub texts : HasTexts table
  pub lawful : (k : ℕ) → k < length table → LawfulList (get_or (texts_of table) k [])
  pub once : Distinct (names_of table)
  pub list_names : (rs : List Reference) (g : Name) → Refers list rs → Named rs g → Known (names_of table) g
  pub text_names : (k : ℕ) → k < length table → (rs : List Reference) (g : Name) → Refers (get_or (texts_of table) k []) rs → Named rs g → (m : ℕ) × (Numbered (names_of table) g m × Linked leads k m)
  pub inside : (i j : ℕ) → Linked leads i j → j < length table
  pub onward : (i m j : ℕ) → Linked leads i m → Linked leads m j → Linked leads i j
  pub apart : (k : ℕ) → Linked leads k k → ⊥

module _ (o : Opened) (leads : Links) (tells : ∥ Tells (groups_of o) leads ∥₁) where
  pub grounds : Grounds (list_of o) (groups_of o) leads
  grounds =
      let table = groups_of o in
      record {
        texts = λ k lt. mere_out o.whole (decide_text (text_of table (get_or (names_of table) k [])) (get_or (texts_of table) k [])) (λ w. has_text w k lt);
        lawful = texts_lawful (known o.names) o.texts;
        once = λ g j k a b. mere_out o.whole (cases_eq j k) (λ w. read_distinct w.read g j k a b);
        list_names = λ rs g f n. mere_out o.whole (decide_known (names_of table) g) (λ w. list_known w f n);
        text_names = λ k lt rs g f n.
            let (m, is) = mere_out o.whole (decide_known (names_of table) g) (λ w. text_known w k lt f n) in
            (m, (is, by_both o.whole tells (decide_linked leads k m) (λ w t. text_linked w leads t k lt f n m is)));
        inside = λ i j l. mere_out tells (decide_lt j (length table)) (λ t. ((t i j).0 l).1.0);
        onward = λ i m j a b. mere_out tells (decide_linked leads i j) (λ t. tells_on table leads t i m j a b);
        apart = λ k l. by_both o.whole tells (inr (λ x. x)) (λ w t. never_back w leads t k l);
      }

-- links that tell which group leads to which are the same
pub same_links : (table : Table) (a b : Links) → ∥ Tells table a ∥₁ → ∥ Tells table b ∥₁ → (i j : ℕ) → Linked a i j → Linked b i j
same_links table a b s t i j l = by_both s t (decide_linked b i j) (λ x y. (y i j).1 ((x i j).0 l))
