-- What the reader hands out at a place of a text: the next token with its place, or the fault that it finds.
use Rattle.std.specs.Prelude.{◌≡◌, ℕ, ◌+◌, ◌<◌, ◌≤◌, Bool, true, false, List, [], ◌∷◌, length, drop, Some, None, Ok, Err, Option, Result, MatchResult, ◌==◌, nat_eq, slice_index}
use Rattle.std.specs.List.{AllByRecursion}
use Rattle.faults.specs.declared.fault.Fault.{Fault}
use Rattle.faults.specs.declared.kind.Kind.TheVariants.{ByteNotAllowedInList, WordTooLongInList, GroupNameUnlawful}
use Rattle.names.specs.Words.{word_byte, WordBytes}
use Rattle.names.specs.Faults.{fault}
use Rattle.lists.specs.declared.token.Token.{Token}
use Rattle.lists.specs.declared.token.Token.TheVariants.{Word, Dot, At, Plus, Any, Open, Close, Star, Bar, Group}
use Rattle.lists.specs.declared.token.Lexeme.{Lexeme}
use Rattle.lists.specs.Trees.{Sign, atom, word, dot, at, plus, any, group, open_bracket, close_bracket, star, bar}
use Rattle.lists.specs.Bytes.{group_byte, IsGroupName, sign_of, part, Past, Run}
use Rattle.lists.specs.Tokens.{Shows, Spells}

-- the sign that a token is
abbrev pub sign : Token → Sign
sign (Word w) = atom (word w.now)
sign Dot = atom dot
sign At = atom at
sign Plus = atom plus
sign Any = atom any
sign Open = open_bracket
sign Close = close_bracket
sign Star = star
sign Bar = bar
sign (Group g) = group g.now

abbrev pub is_blank : ℕ → Bool
is_blank b = b == 32

abbrev pub is_closing : ℕ → Bool
is_closing b = b == 125

-- from one place to another there are blanks alone, and no blank follows
abbrev pub Gap : List ℕ → ℕ → ℕ → Type 0
Gap text i j = Run is_blank text i j

-- the token that comes next after a place: past the blanks, the bytes from its place to its end show its sign
pub record TokenAt (text : List ℕ) (from place end : ℕ) (s : Sign) : Type 0 where
  pub gap : Gap text from place
  pub some : place < end
  pub within : end ≤ length text
  pub shows : Shows (part text place end) (drop end text) s

-- a byte that begins no sign
pub record NoSign (b : ℕ) : Type 0 where
  pub no_blank : nat_eq b 32 ≡ false
  pub no_word : word_byte b ≡ false
  pub no_brace : nat_eq b 123 ≡ false
  pub no_mark : sign_of b ≡ None

-- The faults that the reader tells by itself, after the blanks from a place on: a byte that begins no sign; a word's
-- 33rd byte; in braces, the first byte that is no blank and no group name's, a group name's 33rd byte, and after a
-- group name the first byte that is no blank and not `}`.
pub data TokenFault (text : List ℕ) (from : ℕ) : Fault → Type 0 where
  bad_byte : {p : ℕ} → Gap text from p → p < length text → NoSign (slice_index text p) → TokenFault text from (fault ByteNotAllowedInList p)
  long_word : {p : ℕ} → Gap text from p → p + 32 < length text → WordBytes (part text p (p + 33)) → TokenFault text from (fault WordTooLongInList (p + 32))
  no_name : {p x : ℕ} → Gap text from p → p < length text → slice_index text p ≡ 123 → Gap text (p + 1) x → Past group_byte (drop x text) → TokenFault text from (fault GroupNameUnlawful x)
  long_name : {p x : ℕ} → Gap text from p → p < length text → slice_index text p ≡ 123 → Gap text (p + 1) x → x + 32 < length text → AllByRecursion (λ b. group_byte b ≡ true) (part text x (x + 33)) → TokenFault text from (fault GroupNameUnlawful (x + 32))
  no_brace : {p x e y : ℕ} → Gap text from p → p < length text → slice_index text p ≡ 123 → Gap text (p + 1) x → x ≤ e → IsGroupName (part text x e) → Past group_byte (drop e text) → Gap text e y → Past is_closing (drop y text) → TokenFault text from (fault GroupNameUnlawful y)

-- a sign begins at a place, past the blanks from another place on
pub record SignBegins (text : List ℕ) (from place : ℕ) : Type 0 where
  pub gap : Gap text from place
  pub inside : place < length text

-- the token that comes next after a place, or the fault there
abbrev pub FirstToken : List ℕ → ℕ → Result Lexeme Fault → Type 0
FirstToken text from result = MatchResult result (λ l. TokenAt text from l.place l.end (sign l.token)) (λ f. TokenFault text from f)

-- the next token, or none where only blanks are left
abbrev pub Next : List ℕ → ℕ → Option Lexeme → Type 0
Next text from None = Gap text from (length text)
Next text from (Some l) = TokenAt text from l.place l.end (sign l.token)

-- the reader goes from one place to the token's end, or to the text's; a fault leaves it where it is
abbrev pub Passes : List ℕ → ℕ → ℕ → Result (Option Lexeme) Fault → Type 0
Passes text from to (Ok None) = Next text from None × (to ≡ length text)
Passes text from to (Ok (Some l)) = Next text from (Some l) × (to ≡ l.end)
Passes text from to (Err f) = TokenFault text from f × (to ≡ from)

-- what the reader hands out from a place on, to the text's end: these signs, one after another
pub data Handed (text : List ℕ) : ℕ → List Sign → Type 0 where
  all : {at : ℕ} → Gap text at (length text) → Handed text at []
  first : {at place end : ℕ} {s : Sign} {ss : List Sign} → TokenAt text at place end s → Handed text end ss → Handed text at (s ∷ ss)

-- the tokens with the blanks between them are the text again: the reader hands out signs exactly if they spell it
abbrev pub HandsOut : List ℕ → Type 0
HandsOut text = (ss : List Sign) → (Handed text 0 ss → Spells text ss) × (Spells text ss → Handed text 0 ss)
