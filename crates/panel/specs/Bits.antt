-- The number that a float of 64 bits is, and the whole number nearest to it. From the top a float has one bit of sign,
-- 11 of exponent and 52 of digits (IEEE 754, binary64).
use Rattle.std.specs.Prelude.{Bool, true, false, not, ℕ, zero, suc, ◌+◌, ◌*◌, ◌/◌, ◌%◌, ◌^◌, ℤ, pos, neg_ℤ, eqb, leb, Float}
use Rattle.std.specs.Float.{binary64}
use Rattle.std.specs.Float.Ieee.{to_bits}
use Rattle.std.specs.Float.Ieee.Nearest.{closest}

-- a float's 64 bits as a number. The kit has one `Float` for all that is not a number, which has one such pattern here;
-- it is asked nothing but whether it is finite
abbrev pub bits : Float → ℕ
bits x = to_bits binary64 x

abbrev pub sign : ℕ → Bool
sign b = leb (2 ^ 63) b

abbrev pub exponent : ℕ → ℕ
exponent b = b % 2 ^ 63 / 2 ^ 52

abbrev pub digits : ℕ → ℕ
digits b = b % 2 ^ 52

-- an exponent of eleven ones is that of an infinity, or of what is not a number, whatever the digits
unfoldable pub is_finite : ℕ → Bool
is_finite b = not (eqb (exponent b) 2047)

-- ---- the exact value, counted in units of 2^-1074, the smallest float above zero

-- how many units are one
abbrev pub one : ℕ
one = 2 ^ 1074

-- by digits and exponent: above the digits stands a leading one, but with the exponent 0 none
abbrev pub units_of : ℕ → ℕ → ℕ
units_of t zero = t
units_of t (suc x) = (2 ^ 52 + t) * 2 ^ x

unfoldable pub units : ℕ → ℕ
units b = units_of (digits b) (exponent b)

-- a size with its sign; a negative zero is 0
abbrev pub signed : Bool → ℕ → ℤ
signed true n = neg_ℤ (pos n)
signed false n = pos n

abbrev pub exact : ℕ → ℤ
exact b = signed (sign b) (units b)

-- ---- rounded

-- the nearest whole number, of a half the even one (02, R-12). `closest a d` is the kit's, of the fraction a / d: the
-- quotient, one more where the remainder is above half of d, and at half of d where the quotient is odd
unfoldable pub nearest_whole : ℕ → ℤ
nearest_whole b = signed (sign b) (closest (units b) one)
