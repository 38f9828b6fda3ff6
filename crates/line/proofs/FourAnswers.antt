-- The value of a line as the code finds it, over natural numbers: the four answers, and the rests beside them.
use Prim.Native.Nat.{ℕ, suc, ◌+◌, ◌-◌, ◌*◌, ◌/◌, ◌%◌, ◌≤◌, ◌<◌}
use native.Mathlib.Omega.{arith}
use mathlib.Core.Path.{◌≡◌, refl, sym, ap, ◌∙◌}
use lib.IntN.{ℤ, pos, negsuc, ◌-ℤ◌}
use borrow.Author.Tests.{lt-ltb, le-ltb}
use Rattle.line.specs.Numbers.{million, signed_end, floor_div, floor_mod}
use Rattle.line.specs.Line.{exact_at, value_at, remainder_at}
use Rattle.line.specs.Value.{placed}
use Rattle.line.specs.Parts.{IsLine, exact_of}
use Rattle.line.specs.declared.Line.{Line}
use Rattle.line.specs.declared.numbers.Numbers.{Numbers}
use Rattle.line.specs.declared.Value.TheVariants.{Below, Within, Above}
use Rattle.std.proofs.lemmas.Int.{ints}
use Rattle.line.proofs.Linear.{floor_lin, rest_lin}

-- ---- differences of natural numbers

minus_ge : (t r : ℕ) → r ≤ t → pos t -ℤ pos r ≡ pos (t - r)
minus_ge t r h = omega (arith, ints)

minus_lt : (t r : ℕ) → t < r → pos t -ℤ pos r ≡ negsuc (r - suc t)
minus_lt t r h = omega (arith, ints)

-- floor and rest after a fall of d from s whole ones and a remainder
module _ (s rem d : ℕ) (small : rem < million) where
  abbrev after : ℤ
  after = pos (s * million + rem) -ℤ pos d

  fall_floor : (g : ℕ) → g ≡ (d + (million - 1 - rem)) / million → floor_div after million ≡ pos s -ℤ pos g
  fall_floor g e = omega (arith, ints, floor_lin after)

  fall_rest : floor_mod after million ≡ million - 1 - (d + (million - 1 - rem)) % million
  fall_rest = omega (arith, ints, floor_lin after, rest_lin after)

-- ---- the four answers

placed_within : (n : ℕ) → n ≤ signed_end → placed (pos n) ≡ Within (pos n)
unfolding placed
placed_within n h = simp (le-ltb signed_end n h)

placed_above : (n : ℕ) → signed_end < n → placed (pos n) ≡ Above
unfolding placed
placed_above n h = simp (lt-ltb signed_end n h)

placed_below : (a b : ℕ) → a < b → placed (pos a -ℤ pos b) ≡ Below
unfolding placed
placed_below a b h = ap placed (minus_lt a b h)

module _ (n : Numbers) (t : ℕ) where
  abbrev r0 : ℕ
  r0 = n.reference

  abbrev s0 : ℕ
  s0 = n.synthetic

  -- millionths gained from R0 on, or fallen before it, each with what it carries into whole ones
  abbrev growth : ℕ
  growth = (t - r0) * n.slope + n.remainder

  abbrev fall : ℕ
  fall = (r0 - t) * n.slope + (million - 1 - n.remainder)

  abbrev value : ℤ
  value = floor_div (exact_of n t) million

  exact_ahead : r0 ≤ t → exact_of n t ≡ pos (s0 * million + n.remainder + (t - r0) * n.slope)
  unfolding exact_of
  exact_ahead h = rw (minus_ge t r0 h)

  exact_behind : t < r0 → exact_of n t ≡ pos (s0 * million + n.remainder) -ℤ pos ((r0 - t) * n.slope)
  unfolding exact_of
  exact_behind h =
      let e : suc (r0 - suc t) ≡ r0 - t = omega arith in
      rw (minus_lt t r0 h) (rw e)

  ahead : (g : ℕ) → r0 ≤ t → g ≡ growth / million → value ≡ pos (s0 + g)
  ahead g h e = rw (exact_ahead h) (ap pos (omega arith))

  behind : (g : ℕ) → t < r0 → g ≡ fall / million → value ≡ pos s0 -ℤ pos g
  behind g h e = rw (exact_behind h) (fall_floor s0 n.remainder ((r0 - t) * n.slope) n.remainder_fits g e)

  pub remainder_ahead : r0 ≤ t → growth % million ≡ floor_mod (exact_of n t) million
  remainder_ahead h = rw (exact_ahead h) (omega arith)

  pub remainder_behind : t < r0 → million - 1 - fall % million ≡ floor_mod (exact_of n t) million
  remainder_behind h = rw (exact_behind h) (sym (fall_rest s0 n.remainder ((r0 - t) * n.slope) n.remainder_fits))

  module _ (g : ℕ) where
    pub is_above : r0 ≤ t → g ≡ growth / million → signed_end - s0 < g → Above ≡ placed value
    is_above h e k = sym (ap placed (ahead g h e) ∙ placed_above _ (omega (arith, n.synthetic_fits)))

    pub is_up : r0 ≤ t → g ≡ growth / million → g ≤ signed_end - s0 → Within (pos (s0 + g)) ≡ placed value
    is_up h e k = sym (ap placed (ahead g h e) ∙ placed_within _ (omega (arith, n.synthetic_fits)))

    pub is_below : t < r0 → g ≡ fall / million → s0 < g → Below ≡ placed value
    is_below h e k = sym (ap placed (behind g h e) ∙ placed_below s0 g k)

    pub is_down : t < r0 → g ≡ fall / million → g ≤ s0 → Within (pos (s0 - g)) ≡ placed value
    is_down h e k = sym (ap placed (behind g h e ∙ minus_ge s0 g k) ∙ placed_within _ (omega (arith, n.synthetic_fits)))

pub ruleset four_answers = (is_above, is_up, is_below, is_down)

pub ruleset both_rests = (remainder_ahead, remainder_behind)

-- ---- the line's numbers, as the code holds them

module _ (l : Line) (n : Numbers) (i : IsLine l n) where
  of_exact : (t : ℤ) {m : ℕ} → pos m ≡ t → exact_of n m ≡ exact_at l t
  unfolding exact_of exact_at
  of_exact t {m} e = rw (← i.reference, ← i.synthetic, ← i.remainder, ← i.slope, ← e) refl

  pub exact_value : (t : ℤ) {m : ℕ} → pos m ≡ t → floor_div (exact_of n m) million ≡ value_at l t
  unfolding value_at
  exact_value t e = ap (λ (z : ℤ). floor_div z million) (of_exact t e)

  pub exact_remainder : (t : ℤ) {m : ℕ} → pos m ≡ t → floor_mod (exact_of n m) million ≡ remainder_at l t
  unfolding remainder_at
  exact_remainder t e = ap (λ (z : ℤ). floor_mod z million) (of_exact t e)
