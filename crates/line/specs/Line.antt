-- Lines: the exact value at a time, in millionths, and the value in whole nanoseconds.
use Rattle.std.specs.Prelude.{Bool, not, ◌&&◌, ℕ, ◌-◌, ◌<◌, ℤ, pos, neg_ℤ, ◌+ℤ◌, ◌-ℤ◌, ◌*ℤ◌, ◌≤ℤ◌, eqb, ltb}
use Rattle.std.specs.Int.Signed.{le_z}
use Rattle.line.specs.Numbers.{million, signed_end, floor_div, floor_mod, is_zero, outside}
use Rattle.line.specs.declared.Line.{Line}

-- R0 is `reference`, S0 is `synthetic`, a is `rate`; beside S0 stands a remainder in millionths (02, R-7)
abbrev pub line : ℤ → ℤ → ℕ → ℤ → Line
line R0 S0 rem a = record { reference = R0; synthetic = S0; remainder = rem; rate = a }

-- zeros, which stand where there is no line
abbrev pub zero_line : Line
zero_line = line (pos 0) (pos 0) 0 (pos 0)

-- 1,000,000 + a: millionths of a nanosecond that the line gains in each nanosecond
abbrev pub slope : ℤ → ℤ
slope a = pos million +ℤ a

-- S0 x 1,000,000 + remainder + (t - R0) x (1,000,000 + a): millionths, of any size, with no rounding (02, R-7)
unfoldable pub exact_at : Line → ℤ → ℤ
exact_at l t = ((l.synthetic *ℤ pos million) +ℤ pos l.remainder) +ℤ ((t -ℤ l.reference) *ℤ slope l.rate)

-- that in whole nanoseconds, rounded towards minus infinity (01, 'The clock we sell'; 02, R-7)
unfoldable pub value_at : Line → ℤ → ℤ
value_at l t = floor_div (exact_at l t) million

-- and the millionths that are left
unfoldable pub remainder_at : Line → ℤ → ℕ
remainder_at l t = floor_mod (exact_at l t) million

-- the line T with the rate a from its exact value at P on (01, 'The update word and its effect'; 02, R-7)
unfoldable pub turned : Line → ℤ → ℤ → Line
turned T P a = line P (value_at T P) (remainder_at T P) a

-- ---- tests

-- the line is zeros
unfoldable pub is_zeros : Line → Bool
is_zeros l = is_zero l.reference && is_zero l.synthetic && eqb l.remainder 0 && is_zero l.rate

-- reference and synthetic in 0..end, the remainder in 0..999,999, the rate in -widest..widest
unfoldable pub bounded : Line → ℤ → ℤ → Bool
bounded l end widest =
    not (outside (pos 0) end l.reference)
    && not (outside (pos 0) end l.synthetic)
    && ltb l.remainder million
    && not (outside (neg_ℤ widest) widest l.rate)

-- at t the line shows at least b; `le_z a b` is a ≤ b
unfoldable pub reaches : Line → ℤ → ℤ → Bool
reaches l t b = le_z b (value_at l t)

-- ---- what the code rests on

-- between -1,000,000 and 1,000,000: a line with such a rate rises
pub record Rising (a : ℤ) : Type 0 where
  pub low : neg_ℤ (pos (million - 1)) ≤ℤ a
  pub high : a ≤ℤ pos (million - 1)

-- a line whose value the code finds
pub record Computable (l : Line) : Type 0 where
  pub reference : pos 0 ≤ℤ l.reference
  pub synthetic : pos 0 ≤ℤ l.synthetic
  pub remainder : l.remainder < million
  pub rate : Rising l.rate

-- in 0..2^63 - 1
pub record Storable (x : ℤ) : Type 0 where
  pub low : pos 0 ≤ℤ x
  pub high : x ≤ℤ pos signed_end
