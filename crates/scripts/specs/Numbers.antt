-- Numbers in fields.
use Rattle.std.specs.Prelude.{◌≡◌, ℕ, ◌^◌, ◌<◌, ◌⊎◌, List, length, slice_index}
use Rattle.std.specs.Fmt.{decimal}
use Rattle.std.specs.NonZero.{non_zero_u32_get}
use Rattle.std.specs.declared.num.NonZeroU32.{NonZeroU32}

-- how a number is written in a field: in decimal digits, without leading zeros
abbrev pub written : NonZeroU32 → List ℕ
written n = decimal (non_zero_u32_get n)

-- a number in a field is at most 4,294,967,295; that it is not 0 is a fact of its type
abbrev pub IsSmall : NonZeroU32 → Type 0
IsSmall n = non_zero_u32_get n < 2 ^ 32

-- the text begins with `+`, or with a zero that other bytes follow
abbrev pub IsPadded : List ℕ → Type 0
IsPadded text = (slice_index text 0 ≡ 43) ⊎ ((1 < length text) × (slice_index text 0 ≡ 48))

-- the text is the number in decimal digits, without leading zeros
pub record Writes (text : List ℕ) (n : NonZeroU32) : Type 0 where
  pub digits : text ≡ written n
  pub small : IsSmall n
