-- Rates as a slip's field has them, and back.
use mathlib.Core.Path.{◌≡◌, refl, sym}
use Prim.Native.Nat.{ℕ, ◌≤◌}
use native.Mathlib.Omega.{arith}
use lib.IntN.{ℤ, pos, negsuc, nat_abs, ◌+ℤ◌}
use lib.Signed.{◌≤ℤ◌}
use Rattle.std.proofs.lemmas.Int.{ints}
use Rattle.clock.specs.Numbers.{MAX_RATE}
use Rattle.clock.specs.Clock.{Permitted}
use Rattle.slip.specs.Layout.{rate_field, rate_of, rate_field_end}

pub natural_back : (x : ℤ) → pos 0 ≤ℤ x → pos (nat_abs x) ≡ x
natural_back (pos n) h = refl
natural_back (negsuc n) h = absurd h.le

module _ (a : ℤ) (h : Permitted a) where
  rate_natural : pos 0 ≤ℤ (a +ℤ MAX_RATE)
  rate_natural = omega (arith, ints, h.low)

  pub rate_sum : a +ℤ MAX_RATE ≡ pos (rate_field a)
  rate_sum = sym (natural_back (a +ℤ MAX_RATE) rate_natural)

  pub rate_high : rate_field a ≤ rate_field_end
  rate_high = omega (arith, ints, rate_sum, h.high)

pub field_permitted : (n : ℕ) → n ≤ rate_field_end → Permitted (rate_of n)
field_permitted n h = record {
  low = omega (arith, ints);
  high = omega (arith, ints);
}
