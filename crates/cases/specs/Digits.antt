-- Hexadecimal digits.
use Rattle.std.specs.Prelude.{ℕ, ◌+◌, ◌-◌, ◌*◌, ◌/◌, ◌%◌, cond, ◌&&◌, List, Some, None, Option, nat_le, length, map, get_or}
use Rattle.std.specs.Simd.{first_chunks}

-- the value of a digit, `0` to `9` or `A` to `F`
abbrev pub digit_value : ℕ → Option ℕ
digit_value b = cond (nat_le 48 b && nat_le b 57) (Some (b - 48)) (cond (nat_le 65 b && nat_le b 70) (Some (b - 65 + 10)) None)

-- the byte of two digits
abbrev pub byte_value : List ℕ → ℕ
byte_value pair = get_or pair 0 0 % 16 * 16 + get_or pair 1 0 % 16

-- the bytes that digits make, two each; a last one alone makes none
abbrev pub paired : List ℕ → List ℕ
paired digits = map byte_value (first_chunks 2 (length digits / 2) digits)
