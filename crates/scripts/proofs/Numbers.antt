-- Fields that write numbers.
use Rattle.std.proofs.Common.{◌≡◌, ℕ, ◌^◌, ◌<◌, zero, suc, inl, inr, List, length, get_or, Option, Result, Ok, Err, sym, ◌∙◌, subst, ap, arith}
use Rattle.std.specs.Prelude.{MatchOption}
use Rattle.std.specs.Result.{result_ok}
use Rattle.std.specs.Fmt.{decimal}
use Rattle.std.specs.Str.Parse.{AllDigits, digits_value, ParsesUnsigned}
use Rattle.std.proofs.lemmas.Fmt.{first_decimal, decimal_digit, decimal_is_IsNumeral, decimal-digits_value, parse-decimal, IsAscii-decimal, decimal_injective}
use Rattle.std.specs.NonZero.{non_zero_u32_get}
use Rattle.std.specs.declared.num.NonZeroU32.{NonZeroU32}
use Rattle.std.proofs.lemmas.Str.{IsUtf8-from_ascii}
use Rattle.std.specs.Str.{IsUtf8}
use Rattle.std.proofs.lemmas.Str.Parse.{IsNumeralModel, numerals_by_value, tells_digits, digit_at, parse_plain}
use Rattle.scripts.specs.Numbers.{IsPadded, Writes}

own : IsNumeralModel (AllDigits 10) (digits_value 10)
own = numerals_by_value _ tells_digits

wide : (n : ℕ) → n < 2 ^ 32 → n < 2 ^ 64
wide n small = omega arith

-- no number is written with a plus, or with a zero in front
pub not_padded : (n : ℕ) → n < 2 ^ 32 → IsPadded (decimal n) → ⊥
not_padded n small (inl plus) =
    let numeral = (decimal_is_IsNumeral n (wide n small)).0 in
    omega (arith, digit_at (decimal n) 0 numeral.1 numeral.0, plus)
not_padded zero small (inr (more, first)) = omega (arith, more, ap (length {A = ℕ}) (decimal_digit 0 (omega arith)))
not_padded (suc n) small (inr (more, first)) = omega (arith, first_decimal (suc n) (omega arith) (wide (suc n) small), first)

alone_first : (bs : List ℕ) → 0 < length bs → (1 < length bs → ⊥) → length bs ≡ 1
alone_first bs some few = omega (arith, few)

-- no number is written so
abbrev Unwritten : List ℕ → Type 0
Unwritten bs = (n : ℕ) → n < 2 ^ 32 → bs ≡ decimal n → ⊥

-- what is read of a text that is not so
read : {E : Type 0} (bs : List ℕ) (r : Result ℕ E) → (IsPadded bs → ⊥) → ParsesUnsigned 32 10 bs r → MatchOption (result_ok r) (Unwritten bs) (λ n. bs ≡ decimal n)
read {E} bs (Ok n) plain h =
    let is : (AllDigits 10 bs × (0 < length bs) × (digits_value 10 bs < 2 ^ 32)) × (n ≡ digits_value 10 bs) = parse_plain own {E = E} 32 bs (Ok n) h (λ plus. plain (inl plus)) in
    let alone : get_or bs 0 0 ≡ 48 → length bs ≡ 1 = λ first. alone_first bs is.0.1 (λ more. plain (inr (more, first))) in
    subst (λ v. bs ≡ decimal v) (sym is.1) (sym (decimal-digits_value own bs is.0.0 is.0.1 alone (wide _ is.0.2)))
read {E} bs (Err e) plain h = λ n small is. let never = parse-decimal {E = E} 32 n bs (Err e) small (wide n small) is h in cc

pub read_text : {E : Type 0} (bs text : List ℕ) (r : Result ℕ E) (o : Option ℕ) → (IsPadded bs → ⊥) → text ≡ bs → ParsesUnsigned 32 10 text r → o ≡ result_ok r → MatchOption o (Unwritten bs) (λ n. bs ≡ decimal n)
read_text {E} bs text r o plain is h e =
    subst (λ o. MatchOption o (Unwritten bs) (λ n. bs ≡ decimal n)) (sym e) (read bs r plain (subst (λ t. ParsesUnsigned {E = E} 32 10 t r) is h))

-- a number is written in text
pub is_text : (n : ℕ) → n < 2 ^ 32 → IsUtf8 (decimal n)
is_text n small = IsUtf8-from_ascii (decimal n) (IsAscii-decimal n (wide n small))

-- a field writes the number that is 0 or more as its value says
pub none_of_zero : (bs : List ℕ) (o : ℕ) → bs ≡ decimal o → o ≡ 0 → (n : NonZeroU32) → Writes bs n → ⊥
none_of_zero bs o is e n writes =
    let same = decimal_injective o (non_zero_u32_get n) (omega arith) (wide _ writes.small) (sym is ∙ writes.digits) in
    omega (arith, n.ok, same)
