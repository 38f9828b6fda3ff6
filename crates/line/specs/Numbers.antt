-- Whole numbers: millionths, what a signed number of 64 bits holds, floor and rest, ranges.
use Rattle.std.specs.Prelude.{Bool, false, ◌||◌, ℕ, suc, ◌*◌, ◌-◌, ◌/◌, ◌%◌, ◌^◌, ℤ, pos, negsuc, eqb}
use Rattle.std.specs.Int.Signed.{lt_z}

-- millionths in a nanosecond; a rate counts in the same parts
abbrev pub million : ℕ
million = 1000000

-- the largest slope that the code works with (`Computable`), in millionths; a clock's is far smaller
abbrev pub steepest : ℕ
steepest = 2 * million - 1

-- the last number that a signed number of 64 bits holds
abbrev pub signed_end : ℕ
signed_end = 2 ^ 63 - 1

-- floor(x / d), towards minus infinity
abbrev pub floor_div : ℤ → ℕ → ℤ
floor_div (pos n) d = pos (n / d)
floor_div (negsuc n) d = negsuc (n / d)

-- what that leaves, in 0..d-1
abbrev pub floor_mod : ℤ → ℕ → ℕ
floor_mod (pos n) d = n % d
floor_mod (negsuc n) d = d - suc (n % d)

abbrev pub is_zero : ℤ → Bool
is_zero (pos n) = eqb n 0
is_zero (negsuc n) = false

-- whether x lies outside low..high; `lt_z a b` is a < b
unfoldable pub outside : ℤ → ℤ → ℤ → Bool
outside low high x = lt_z x low || lt_z high x
