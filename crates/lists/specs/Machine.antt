-- How far a list text can be read from left to right. The inner functions of the check are held to this machine;
-- what it means is in the promise of the check itself, which speaks of texts and trees alone.
use Rattle.std.specs.Prelude.{◌≡◌, ℕ, ◌+◌, ◌-◌, ◌<◌, ◌≤◌, Bool, true, false, cond, ◌⊎◌, List, length, drop, Some, None, Ok, Err, Option, Result, MatchResult, slice_index, ◌==◌, ◌≢◌, nat_lt}
use Rattle.faults.specs.declared.fault.Fault.{Fault}
use Rattle.faults.specs.declared.kind.Kind.TheVariants.{ItemMissing, BracketUnmatched}
use Rattle.names.specs.Faults.{fault}
use Rattle.names.specs.Machine.{run}
use Rattle.names.specs.Words.{word_byte}
use Rattle.lists.specs.Trees.{Sign, atom, group, open_bracket, close_bracket, star, bar}
use Rattle.lists.specs.Bytes.{group_byte, blanks, sign_of, part, Past}

-- d brackets are open, and an item is due (true) or stands before (false)
pub data At : Type 0 where
  within : ℕ → Bool → At

abbrev pub sign_step : At → Sign → Option At
sign_step (within d due) (atom a) = Some (within d false)
sign_step (within d due) (group g) = Some (within d false)
sign_step (within d due) open_bracket = cond (nat_lt d 16) (Some (within (d + 1) true)) None
sign_step (within d true) close_bracket = None
sign_step (within d false) close_bracket = cond (nat_lt 0 d) (Some (within (d - 1) false)) None
sign_step (within d true) star = None
sign_step (within d false) star = Some (within d false)
sign_step (within d true) bar = None
sign_step (within d false) bar = Some (within d true)

-- between signs; in a word of k bytes; in braces, before, in and after the group name
pub data State : Type 0 where
  out : At → State
  word : At → ℕ → State
  brace : At → State
  name : At → ℕ → State
  braced : At → State

-- after an item
abbrev pub item : At → At
item (within d due) = within d false

-- between signs, where the machine of signs goes on
abbrev pub lift : Option At → Option State
lift None = None
lift (Some a) = Some (out a)

abbrev pub signed : At → Option Sign → Option State
signed a None = None
signed a (Some s) = lift (sign_step a s)

abbrev pub out_step : At → ℕ → Option State
out_step a b = cond (b == 32) (Some (out a)) (cond (word_byte b) (Some (word (item a) 1)) (cond (b == 123) (Some (brace (item a))) (signed a (sign_of b))))

abbrev pub braced_step : At → ℕ → Option State
braced_step a b = cond (b == 32) (Some (braced a)) (cond (b == 125) (Some (out a)) None)

abbrev pub byte_step : State → ℕ → Option State
byte_step (out a) b = out_step a b
byte_step (word a k) b = cond (word_byte b) (cond (nat_lt k 32) (Some (word a (k + 1))) None) (out_step a b)
byte_step (brace a) b = cond (b == 32) (Some (brace a)) (cond (group_byte b) (Some (name a 1)) None)
byte_step (name a k) b = cond (group_byte b) (cond (nat_lt k 32) (Some (name a (k + 1))) None) (braced_step a b)
byte_step (braced a) b = braced_step a b

abbrev pub reads : Option State → List ℕ → Option State
reads o t = run byte_step o t

-- at the front of a text an item is due, and no bracket is open
abbrev pub start : Option State
start = Some (out (within 0 true))

-- between signs, or at the end of a word
abbrev pub Stands : State → At → List ℕ → Type 0
Stands (out a) c rest = a ≡ c
Stands (word a k) c rest = (a ≡ c) × Past word_byte rest
Stands (brace a) c rest = ⊥
Stands (name a k) c rest = ⊥
Stands (braced a) c rest = ⊥

-- reading the text from one place to another leads from one state of the signs to another
pub record Leads (text : List ℕ) (i j : ℕ) (a c : At) : Type 0 where
  pub forward : i ≤ j
  pub within_text : j ≤ length text
  pub state : State
  pub reading : reads (Some (out a)) (part text i j) ≡ Some state
  pub stands : Stands state c (drop j text)

-- the text up to a place stands within d brackets
abbrev pub Enters : List ℕ → ℕ → ℕ → Type 0
Enters text at d = (due : Bool) × Leads text 0 at (within 0 true) (within d due)

-- some byte of the text is not blank
abbrev pub NotBlank : List ℕ → Type 0
NotBlank text = (n : ℕ) → text ≢ blanks n

-- a list begins at a place, within d brackets
pub record ListBegins (text : List ℕ) (at d : ℕ) : Type 0 where
  pub marked : NotBlank text
  pub shallow : d ≤ 16
  pub leads : Leads text 0 at (within 0 true) (within d true)

-- a bracket opens at a place, within d others, and a reader stands behind it
pub record BracketOpens (text : List ℕ) (place at d : ℕ) : Type 0 where
  pub marked : NotBlank text
  pub shallow : d ≤ 16
  pub inside : place < length text
  pub bracket : slice_index text place ≡ 40
  pub behind : at ≡ place + 1
  pub enters : Enters text place d

-- A list is read from one place to another, at any depth up to d: up to and with the bracket that closes it, or to
-- the text's end.
abbrev pub ListRead : List ℕ → ℕ → ℕ → Bool → ℕ → Type 0
ListRead text from d false end = (end ≡ length text) × ((e : ℕ) → e ≤ d → Leads text from end (within e true) (within e false))
ListRead text from d true end = (0 < d) × ((e : ℕ) → e < d → Leads text from end (within (e + 1) true) (within e false))

-- an item is read from one place to another, at any depth up to d
abbrev pub ItemRead : List ℕ → ℕ → ℕ → ℕ → Type 0
ItemRead text from end d = (from < end) × ((e : ℕ) (due : Bool) → e ≤ d → Leads text from end (within e due) (within e false))

-- whether an item stands before a place, where one is due or not
abbrev pub ItemStands : ℕ → Bool → Result (Unit {0}) Fault → Type 0
ItemStands place due result = MatchResult result (λ _. due ≡ false) (λ f. (due ≡ true) × (f ≡ fault ItemMissing place))

-- a `)`: without an open bracket it is unmatched, and an item stands before it
abbrev pub Closes : ℕ → ℕ → Bool → Result (Unit {0}) Fault → Type 0
Closes place d due (Ok n) = (0 < d) × (due ≡ false)
Closes place d due (Err f) = ((d ≡ 0) × (f ≡ fault BracketUnmatched place)) ⊎ ((0 < d) × ((due ≡ true) × (f ≡ fault ItemMissing place)))
