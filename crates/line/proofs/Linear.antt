-- Whole numbers for `omega`, beyond what the library's `ints` has: tests, and floors and rests by a million. z is `up z` less `down z`.
use mathlib.Core.Path.{◌≡◌}
use mathlib.Core.Bool.{not}
use Prim.Native.Nat.{◌+◌, ◌*◌, ◌-◌, ◌≤◌}
use native.Mathlib.Omega.{arith}
use lib.IntN.{ℤ, pos, negsuc}
use lib.Signed.{le_z, lt_z, ◌≤ℤ◌}
use borrow.Author.Differences.{up, down}
use Rattle.std.proofs.lemmas.Int.{ints}
use Rattle.line.specs.Numbers.{million, floor_div, floor_mod}

-- the code's test and the rule's
pub not_lt : (x y : ℤ) → not (lt_z x y) ≡ le_z y x
not_lt x y = grind (arith, ints)

pub ≤ℤ_trans : {x y z : ℤ} → x ≤ℤ y → y ≤ℤ z → x ≤ℤ z
≤ℤ_trans h k = omega (arith, ints)

-- v is x, in millionths, rounded down to whole units
pub record Floors (x v : ℤ) : Type 0 where
  pub below : up v * million + down x ≤ up x + down v * million
  pub above : up x + down v * million ≤ up v * million + down x + (million - 1)

pub floor_lin : (x : ℤ) → Floors x (floor_div x million)
floor_lin (pos n) = record { below = omega arith; above = omega arith }
floor_lin (negsuc n) = record { below = omega arith; above = omega arith }

-- floor and rest together are the number
pub rest_lin : (x : ℤ) → up (floor_div x million) * million + floor_mod x million + down x ≡ up x + down (floor_div x million) * million
rest_lin (pos n) = omega arith
rest_lin (negsuc n) = omega arith
