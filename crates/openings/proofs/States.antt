-- What an opening has read.
use Rattle.std.proofs.Common.{◌≡◌, ℕ, zero, suc, ◌+◌, ◌<◌, ◌≤◌, Bool, false, Decides, List, [], ◌∷◌, length, get_or, take, Some, None, Ok, Err, Result, MatchResult, sym, ap, ◌∙◌, subst, ⊎_elim, arith}
use mathlib.Core.Logic.{∥∥₁_map}
use borrow.Author.Tests.{clash}
use Rattle.std.proofs.lemmas.Bool.{cases_lt}
use lib.ListN.{length-map}
use Rattle.std.proofs.lemmas.List.{get_or-take, length-take-le, length_push, take_all}
use Rattle.faults.specs.declared.fault.Fault.{Fault}
use Rattle.lists.specs.declared.list.AccessList.{AccessList}
use Rattle.lists.specs.Texts.{LawfulList}
use Rattle.lists.proofs.Deciding.{lawful_list}
use Rattle.books.specs.Tables.{text_of}
use Rattle.openings.specs.declared.opening.Opening.{Opening}
use Rattle.openings.specs.Opening.{Name, Meaning, Numbered, Known, Distinct, ReadTo}
use Rattle.openings.specs.Opened.{names_of}
use Rattle.openings.specs.Views.{text_in, texts_in}
use Rattle.openings.specs.Pairs.{pairs}
use Rattle.openings.specs.Progress.{Progress, HasTexts}
use Rattle.openings.specs.Membership.{supposing}
use Rattle.openings.specs.OpeningState.{listed, met, given, Through, Due, Gave}
use Rattle.openings.proofs.Holding.{known_count}
use Rattle.openings.proofs.Pairing.{pairs_count, text_at, own_texts, texts_have, text_none}
use Rattle.openings.proofs.Tabling.{pairs_names}
use Rattle.openings.proofs.Deciding.{progress}
use Rattle.openings.proofs.Lacking.{supposed, fits_supposed}

-- the texts of lists that are held are lawful
pub held_lawful : (ls : List AccessList) (k : ℕ) → k < length ls → LawfulList (get_or (texts_in ls) k [])
held_lawful [] k lt = absurd (omega arith)
held_lawful (l ∷ ls) zero lt = lawful_list _ l.lawful
held_lawful (l ∷ ls) (suc k) lt = held_lawful ls k (omega arith)

module _ (o : Opening) where
  -- there is room for the texts of all groups
  pub texts_room : length (texts_in o.texts) ≡ 32
  texts_room = length-map o.texts text_in ∙ o.room

  pub met_few : length (met o) ≤ 32
  met_few = omega (arith, known_count o.names, o.names.few)

  pub met_read : length (take o.links.len (met o)) ≡ o.links.len
  met_read = length-take-le o.links.len (met o) o.within

  -- as many texts have been given as there are links
  pub given_count : length (given o) ≡ o.links.len
  given_count = pairs_count (take o.links.len (met o)) (texts_in o.texts) (omega (arith, met_read, o.within, met_few, texts_room)) ∙ met_read

  -- by a meaning that has the texts that were given and the names that were met, they have been read
  pub progress_of : (M : Meaning) → Through M o → Progress M (listed o) o.links.len (met o) (texts_in o.texts) o.links
  progress_of M fits = progress (λ i lt. held_lawful o.texts i (omega (arith, o.room, o.within, met_few))) (∥∥₁_map o.well (λ w. w M fits))

  -- the text that a meaning has for a group that was given one
  pub text_given : (M : Meaning) → HasTexts M (given o) → (i : ℕ) → i < o.links.len → M (get_or (met o) i []) ≡ Some (get_or (texts_in o.texts) i [])
  text_given M h i lt =
      ap M (sym (get_or-take o.links.len (met o) i [] lt)) ∙ text_at M (take o.links.len (met o)) (texts_in o.texts) i (omega (arith, met_read, o.within, met_few, texts_room)) (omega (arith, met_read)) h

  -- with every other name besides, a meaning that has the texts reads them
  pub progress_supposed : (M : Meaning) → HasTexts M (given o) → Progress (supposed M) (listed o) o.links.len (met o) (texts_in o.texts) o.links
  progress_supposed M h = progress_of (supposed M) (fits_supposed M (met o) (given o) h)

  -- where a group is due, as many have been given texts as its number
  pub due_at : (name : Name) → Due o name → Numbered (met o) name o.links.len
  due_at name d = subst (Numbered (met o) name) given_count d

  -- where not every group has its text, the next is due
  pub still_due : {all : Bool} → Decides all (length (met o) ≤ o.links.len) → all ≡ false → o.links.len < length (met o)
  still_due told not = ⊎_elim (λ lt. lt) (λ le. absurd (clash (sym not ∙ told.1 le))) (cases_lt o.links.len (length (met o)))

  given_names : names_of (given o) ≡ take o.links.len (met o)
  given_names = pairs_names (take o.links.len (met o)) (texts_in o.texts) (omega (arith, met_read, o.within, met_few, texts_room))

  -- a number among the groups that were given texts is their number
  front_number : {g : Name} {k : ℕ} → Numbered (take o.links.len (met o)) g k → Numbered (met o) g k
  front_number {k = k} n = let lt : k < o.links.len = omega (arith, n.below, met_read) in record { below = omega (arith, lt, o.within); is = sym (get_or-take o.links.len (met o) k [] lt) ∙ n.is }

  -- the table of groups that were given texts has these texts
  pub own_given : HasTexts (text_of (given o)) (given o)
  own_given = own_texts (given o) (subst Distinct (sym given_names) (λ g j k a b. o.names.distinct g j k (front_number a) (front_number b)))

  -- so what has been read is right where every other name is supposed to be there
  pub through_supposing : Through (supposing (given o)) o
  through_supposing = fits_supposed (text_of (given o)) (met o) (given o) own_given

  -- and by every meaning that fits
  pub read_through : (M : Meaning) → Through M o → ReadTo M (listed o) (length (given o) + 1) (met o)
  read_through M fits = subst (λ n. ReadTo M (listed o) (n + 1) (met o)) (sym given_count) (progress_of M fits).read

  -- the table has no text for the group that is due
  pub lacks_due : (name : Name) → Due o name → text_of (given o) name ≡ None
  lacks_due name d =
      text_none (given o) name
      (λ known.
      let n = subst (λ gs. Numbered gs name known.0) given_names known.1 in
      omega (arith, n.below, met_read, o.names.distinct name known.0 o.links.len (front_number n) (due_at name d)))

  module _ (full : length (met o) ≤ o.links.len) where
    pub all_given : o.links.len ≡ length (met o)
    all_given = omega (arith, full, o.within)

    pub texts_enough : length (met o) ≤ length (texts_in o.texts)
    texts_enough = omega (arith, met_few, texts_room)

    given_all : given o ≡ pairs (met o) (texts_in o.texts)
    given_all = ap (λ gs. pairs gs (texts_in o.texts)) (take_all o.links.len (met o) full)

    -- where every group has its text, all have been read
    pub all_read : (M : Meaning) → Through M o → Progress M (listed o) (length (met o)) (met o) (texts_in o.texts) o.links
    all_read M fits = subst (λ n. Progress M (listed o) n (met o) (texts_in o.texts) o.links) all_given (progress_of M fits)

    -- also by the groups themselves
    pub own_read : Progress (text_of (pairs (met o) (texts_in o.texts))) (listed o) (length (met o)) (met o) (texts_in o.texts) o.links
    own_read =
        let names : names_of (given o) ≡ met o = given_names ∙ take_all o.links.len (met o) full in
        subst (λ t. Progress (text_of t) (listed o) (length (met o)) (met o) (texts_in o.texts) o.links) given_all
        (all_read (text_of (given o)) (record { texts = own_given; names = λ g k. texts_have (text_of (given o)) (given o) g own_given (subst (λ gs. Known gs g) (sym names) k) }))

-- a text that is given is one more
pub one_more : (has : Name → Bool) (text : List ℕ) {name : Name} (old new : Opening) (r : Result (Unit {0}) Fault) → MatchResult r (λ _. (g : Name) → Due old g → Gave old g text has new) (λ f. new ≡ old) → Due old name → MatchResult r (λ _. (listed new ≡ listed old) × (length (given new) ≡ length (given old) + 1)) (λ f. new ≡ old)
one_more has text {name} old new (Ok x) h due = let gave = h name due in (gave.of_list, ap length gave.one_given ∙ omega (arith, length_push (given old) (record { name = name; text = text })))
one_more has text old new (Err f) h due = h
