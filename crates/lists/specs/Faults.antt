-- Which fault a text has that is no lawful list. Bytes over 512 come first, at the limit; then the first byte
-- that cannot go on, or the end; but where the text lacks closing brackets alone, the innermost that is open.
use Rattle.std.specs.Prelude.{◌≡◌, ℕ, ◌+◌, ◌<◌, ◌≤◌, Bool, true, false, cond, ◌||◌, List, [], ◌∷◌, ◌++◌, length, take, drop, replicate, ◌==◌, nat_eq, nat_le, slice_index_or}
use Rattle.faults.specs.declared.fault.Fault.{Fault}
use Rattle.faults.specs.declared.kind.Kind.{Kind}
use Rattle.faults.specs.declared.kind.Kind.TheVariants.{ByteNotAllowedInList, WordTooLongInList, ItemMissing, BracketUnmatched, BracketsTooDeep, GroupNameUnlawful, TextTooLong}
use Rattle.names.specs.Language.{Stuck}
use Rattle.names.specs.Words.{word_byte, count_of}
use Rattle.names.specs.Faults.{fault}
use Rattle.lists.specs.Texts.{ItemText, ListText}

-- whether the text stands in braces that are open
abbrev pub braced_after : Bool → List ℕ → Bool
braced_after braced [] = braced
braced_after braced (b ∷ bs) = braced_after (cond (b == 123) true (cond (b == 125) false braced)) bs

abbrev pub in_braces : List ℕ → Bool
in_braces front = braced_after false front

-- whether no bracket is open that a `)` could close
abbrev pub unmatched : List ℕ → Bool
unmatched front = nat_le (count_of (λ b. nat_eq b 40) front) (count_of (λ b. nat_eq b 41) front)

-- the kind of fault at the first byte that cannot go on outside braces
abbrev pub kind_here : List ℕ → List ℕ → Kind
kind_here front [] = ItemMissing
kind_here front (b ∷ bs) =
    cond (word_byte b) WordTooLongInList
    (cond (b == 40) BracketsTooDeep
    (cond (b == 41) (cond (unmatched front) BracketUnmatched ItemMissing)
    (cond (b == 42 || b == 124) ItemMissing ByteNotAllowedInList)))

abbrev pub kind_at : List ℕ → ℕ → Kind
kind_at text place = cond (in_braces (take place text)) GroupNameUnlawful (kind_here (take place text) (drop place text))

-- The text lacks closing brackets and nothing else. The place is the innermost bracket that is open: what follows
-- it is a whole list.
pub record Unclosed (text : List ℕ) (place : ℕ) : Type 0 where
  pub within : place < length text
  pub bracket : slice_index_or text place 0 ≡ 40
  pub inside : ItemText (drop (place + 1) text)
  pub open_brackets : ℕ
  pub closes : ListText (text ++ replicate (open_brackets + 1) 41)

-- where a text leaves the grammar, its length aside
pub data Slip (text : List ℕ) : Fault → Type 0 where
  stuck : {place : ℕ} → Stuck ListText text place → (place ≡ length text → (n : ℕ) → ListText (text ++ replicate n 41) → ⊥) → Slip text (fault (kind_at text place) place)
  unclosed : {place : ℕ} → Unclosed text place → Slip text (fault BracketUnmatched place)

pub data ListFault (text : List ℕ) : Fault → Type 0 where
  long : 512 < length text → ListFault text (fault TextTooLong 512)
  slip : {f : Fault} → length text ≤ 512 → Slip text f → ListFault text f
