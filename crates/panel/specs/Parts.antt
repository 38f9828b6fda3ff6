-- What the inner parts of the code compute. The rules in the other files do not rest on this one; proofs/ shows that
-- the parts give the rules.
use Rattle.std.specs.Prelude.{ℕ, min, ℤ}
use Rattle.std.specs.Float.Ieee.Nearest.{closest}
use Rattle.panel.specs.Bits.{sign, units, one, signed}

-- a size that is wider than any rate
abbrev pub cap : ℕ
cap = 2048

-- the nearest whole number without its sign, and the cap for all from there on
unfoldable pub capped_size : ℕ → ℕ
capped_size b = min (closest (units b) one) cap

abbrev pub capped_whole : ℕ → ℤ
capped_whole b = signed (sign b) (capped_size b)
