-- The bytes of words are those that the library calls alphanumeric, and two more.
use Rattle.std.proofs.Common.{◌≡◌, ℕ, Bool, ◌&&◌, ◌||◌, ap, ◌==◌, nat_le, arith}
use Rattle.std.specs.Char.{is_ascii_alphanumeric}
use Rattle.names.specs.Words.{word_byte}

last_first : (l u d : Bool) → ((l || u) || d) ≡ ((d || u) || l)
last_first l u d = grind arith

pub word_byte_is : (b : ℕ) → word_byte b ≡ ((is_ascii_alphanumeric b || (b == 45)) || (b == 95))
unfolding word_byte
word_byte_is b = ap (λ v. (v || (b == 45)) || (b == 95)) (last_first (nat_le 97 b && nat_le b 122) (nat_le 65 b && nat_le b 90) (nat_le 48 b && nat_le b 57))
