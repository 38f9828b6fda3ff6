-- The rate that is answered is the whole number nearest to the float's exact value, at a half the even one, and there
-- is no other such number.
use Rattle.std.specs.Prelude.{◌≡◌, ℕ, ◌*◌, ◌%◌, ◌≤◌, ℤ, pos, nat_abs, ◌*ℤ◌, ◌-ℤ◌, Float}
use Rattle.panel.specs.Bits.{bits, one, exact, nearest_whole}
use Rattle.panel.specs.Panel.{quotient, translating}
use Rattle.panel.specs.declared.Command.{Command}
use Rattle.panel.specs.declared.Command.TheVariants.{Trim, Pull}

-- twice the distance between the whole number r and the float of these bits, in units; `nat_abs z` is z without its sign
abbrev pub twice_apart : ℕ → ℤ → ℕ
twice_apart b r = 2 * nat_abs (r *ℤ pos one -ℤ exact b)

pub record Nearest (b : ℕ) (r : ℤ) : Type 0 where
  pub within : twice_apart b r ≤ one
  pub even : twice_apart b r ≡ one → nat_abs r % 2 ≡ 0

-- where nothing is refused the command's rate is the one nearest to this float
abbrev pub NearestRate : Command → Float → Type 0
NearestRate c ppm = (translating c).refusal ≡ 0 → Nearest (bits ppm) (translating c).request.rate

abbrev pub TrimNearest : Type 0
TrimNearest = (ppm : Float) → NearestRate (Trim ppm) ppm

abbrev pub PullNearest : Type 0
PullNearest = (offset window : Float) → NearestRate (Pull offset window) (quotient offset window)

-- so 6 too is judged on the nearest one
abbrev pub WholeNearest : Type 0
WholeNearest = (b : ℕ) → Nearest b (nearest_whole b)

abbrev pub OnlyNearest : Type 0
OnlyNearest = (b : ℕ) (r : ℤ) → Nearest b r → r ≡ nearest_whole b
