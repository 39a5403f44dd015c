-- What is held of a name holds of its row of parts.
use Rattle.std.proofs.Common.{◌≡◌, ℕ, ◌+◌, ◌<◌, ◌≤◌, min, ◌↔◌, List, length, get_or, sym, ◌∙◌, subst, arith}
use mathlib.Core.Logic.{∥∥₁_elim}
use native.Mathlib.Nat.{ℕ_set}
use Rattle.names.specs.Names.{Part, word, dot, IsName, LawfulName}
use Rattle.names.proofs.Deciding.{Decided, lawful_name}
use Rattle.names.proofs.Places.{alternates}
use Rattle.positions.specs.Places.{Has}
use Rattle.positions.specs.Rows.{row_at}
use Rattle.positions.proofs.Digits.{has_or_not}
use Rattle.runs.specs.declared.relation.Runs.{Runs}
use Rattle.runs.specs.Runs.{Ends}
use Rattle.name_parts.specs.declared.mark.Mark.{Mark}
use Rattle.name_parts.specs.declared.mark.Mark.TheVariants.{Dot}
use Rattle.name_parts.specs.declared.outline.Outline.{Outline}
use Rattle.name_parts.specs.Marks.{part_of_mark, number_of}
use Rattle.name_parts.specs.Slices.{PartAt}
use Rattle.name_parts.specs.Outlines.{WordAt, start_of, Sees, count_of, mark_places, Outlined, OutlineOf, EndOf, BytesAt}
use Rattle.name_parts.specs.Dotted.{DottedWords}
use Rattle.name_parts.specs.Tables.{PlacesOf, PartialNames}
use Rattle.name_parts.proofs.Mere.{mere_out}
use Rattle.name_parts.proofs.Standing.{part_here, part_or_not, word_or_not}
use Rattle.name_parts.proofs.Spelling.{start_more, start_within}
use Rattle.name_parts.proofs.Deciding.{spans_or_not, ends_or_not}
use Rattle.name_parts.proofs.Joining.{lawful_word, dotted_spans}

-- a name has at most 63 parts
pub held_few : (text : List ℕ) (o : Outline) → ∥ LawfulName text ∥₁ → OutlineOf text o → (count_of o) ≤ 63
held_few text o lawful outline = let (ps, name) = lawful_name text lawful in omega (arith, (outline ps name).all, name.few)

-- the runs of words joined by dots are the partial names
pub held_partial : (text : List ℕ) (o : Outline) (r : Runs) → OutlineOf text o → r.count ≡ min ((count_of o) + 1) 64 → ((i j : ℕ) → Ends r i j ↔ DottedWords (min ((count_of o) + 1) 64) o.words.digits (mark_places o Dot).digits i j) → PartialNames text r
held_partial text o r outline counted ends ps name =
    let whole = outline ps name in
    let count : min ((count_of o) + 1) 64 ≡ length ps + 1 = omega (arith, whole.all, name.few) in
    let see : (Kind : ℕ → Type 0) (d : ℕ) → Sees Kind (count_of o) d → ((i : ℕ) → Kind i → i < length ps) → (i : ℕ) → Has d i ↔ Kind i = λ Kind d sees inside i. (λ h. ((sees i).0 h).1, λ k. (sees i).1 (omega (arith, inside i k, whole.all), k)) in
    let spans = dotted_spans ps (lawful_word (alternates name.form)) name.few (min ((count_of o) + 1) 64) o.words.digits (mark_places o Dot).digits count (see (WordAt ps) o.words.digits whole.outlined.words (λ i a. a.1.inside)) (see (PartAt ps dot) (mark_places o Dot).digits (whole.outlined.marks Dot) (λ i a. a.inside)) in
    record { counted = counted ∙ count; ends = λ i j. (λ e. (spans i j).0 ((ends i j).0 e), λ s. (ends i j).1 ((spans i j).1 s)) }

-- what is merely known of partial names is known
pub mere_partial : (text : List ℕ) (r : Runs) → ∥ PartialNames text r ∥₁ → PartialNames text r
mere_partial text r mere ps name = record {
  counted = ∥∥₁_elim mere (ℕ_set r.count (length ps + 1)) (λ f. (f ps name).counted);
  ends = λ i j. (λ e. mere_out mere (spans_or_not ps i j) (λ f. ((f ps name).ends i j).0 e), λ s. mere_out mere (ends_or_not r i j) (λ f. ((f ps name).ends i j).1 s));
}

module _ (text : List ℕ) (o : Outline) (mere : ∥ OutlineOf text o ∥₁) where
  module _ (ps : List Part) (name : IsName text ps) where
    pub held_count : (count_of o) ≡ length ps
    held_count = ∥∥₁_elim mere (ℕ_set (count_of o) (length ps)) (λ f. (f ps name).all)

    pub held_start : (i : ℕ) → i < (count_of o) → get_or o.starts.items i 0 ≡ start_of ps i
    held_start i lt = ∥∥₁_elim mere (ℕ_set (get_or o.starts.items i 0) (start_of ps i)) (λ f. (f ps name).outlined.starts i lt)

    -- the places of a kind
    held : (Kind : ℕ → Type 0) (d : ℕ) → (Outlined ps o → Sees Kind (count_of o) d) → ((i : ℕ) → Decided (Kind i)) → ((i : ℕ) → Kind i → i < length ps) → (i : ℕ) → Has d i ↔ Kind i
    held Kind d sees decided inside i = (
      λ h. mere_out mere (decided i) (λ f. ((sees (f ps name).outlined i).0 h).1),
      λ k. mere_out mere (has_or_not d i) (λ f. (sees (f ps name).outlined i).1 (omega (arith, inside i k, held_count), k)),
    )

    pub held_words : (i : ℕ) → Has o.words.digits i ↔ WordAt ps i
    held_words = held (WordAt ps) o.words.digits (λ x. x.words) (word_or_not ps) (λ i a. a.1.inside)

    pub held_mark : (m : Mark) (i : ℕ) → Has (mark_places o m).digits i ↔ PartAt ps (part_of_mark m) i
    held_mark m = held (PartAt ps (part_of_mark m)) (mark_places o m).digits (λ x. x.marks m) (part_or_not ps (part_of_mark m)) (λ i a. a.inside)

  module _ (lawful : ∥ LawfulName text ∥₁) where
    -- a part begins before it ends, within the text
    module _ (i end : ℕ) (lt : i < (count_of o)) (ends : EndOf text i end) where
      pub held_forward : get_or o.starts.items i 0 ≤ end
      held_forward =
          let (ps, name) = lawful_name text lawful in
          let here = part_here ps i dot (omega (arith, held_count ps name)) in
          omega (arith, held_start ps name i lt, ends ps name, start_more ps (get_or ps i dot) i here)

      pub held_within : end ≤ length text
      held_within = let (ps, name) = lawful_name text lawful in omega (arith, ends ps name, start_within ps text name (i + 1))

  -- at a place of a word, the bytes of the part are the word
  pub word_here : (ps : List Part) → IsName text ps → (i : ℕ) (bytes : List ℕ) → BytesAt text i bytes → Has o.words.digits i → PartAt ps (word bytes) i
  word_here ps name i bytes here has = let (v, at-it) = (held_words ps name i).0 has in subst (λ u. PartAt ps (word u) i) (sym (here ps name (word v) at-it)) at-it

-- the row with the number of a mark holds the places of the mark
pub held_row : (text : List ℕ) (o : Outline) → ∥ OutlineOf text o ∥₁ → (m : Mark) (n : ℕ) → n ≡ number_of m → PlacesOf text (part_of_mark m) (row_at o.marks n).digits
held_row text o mere m n same = subst (λ k. PlacesOf text (part_of_mark m) (row_at o.marks k).digits) (sym same) (λ ps name. held_mark text o mere ps name m)
