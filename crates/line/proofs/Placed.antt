-- A whole number as an i64 sees it: each test of the code on it is the test of the number.
use mathlib.Core.Bool.{Bool, true, false, not, cond, ◌||◌}
use mathlib.Core.Path.{◌≡◌, refl, ap, ◌∙◌}
use Prim.Native.Nat.{ℕ}
use native.Mathlib.Omega.{arith}
use lib.Dec.{ltb}
use lib.IntN.{ℤ, pos, negsuc}
use lib.Signed.{lt_z, le_z}
use borrow.Author.Tests.{ltb-true, ltb-false, le-ltb}
use Rattle.std.specs.Ordering.{partial_lt, partial_le}
use Rattle.std.proofs.Common.{rules}
use Rattle.std.proofs.lemmas.Int.{ints}
use Rattle.line.specs.contracts.ValuePartialOrd.TheImpl.{partial_cmp-value}
use Rattle.line.specs.Numbers.{signed_end}
use Rattle.line.specs.Line.{line, Storable}
use Rattle.line.specs.Value.{placed, is_under, is_over, is_less, number_of, drawn_if, held, is_beyond, line_or}
use Rattle.line.proofs.Linear.{not_lt}
use Rattle.line.specs.declared.Line.{Line}
use Rattle.line.specs.declared.Value.{Value}
use Rattle.line.specs.declared.Value.TheVariants.{Below, Within, Above}
use Rattle.std.specs.Prelude.{Option, Some, None}

-- a number that is held is seen as itself
pub placed_in : (z : ℤ) → Storable z → placed z ≡ Within z
unfolding placed
placed_in (pos n) i = simp (le-ltb signed_end n (omega (arith, ints, i.high)))
placed_in (negsuc n) i = absurd i.low.le

pub number_in : (z : ℤ) → Storable z → number_of (placed z) ≡ z
number_in z i = ap number_of (placed_in z i)

pub under_law : (z b : ℤ) → Storable b → is_under (placed z) b ≡ lt_z z b
unfolding placed
under_law (negsuc n) b i = grind (arith, ints, i.low)
under_law (pos n) b i = go (ltb signed_end n) refl
  where
    go : (y : Bool) → ltb signed_end n ≡ y → is_under (cond y Above (Within (pos n))) b ≡ lt_z (pos n) b
    go true e = grind (arith, ints, i.high, ltb-true signed_end n e)
    go false e = refl

pub over_law : (z b : ℤ) → Storable b → is_over (placed z) b ≡ lt_z b z
unfolding placed
over_law (negsuc n) b i = grind (arith, ints, i.low)
over_law (pos n) b i = go (ltb signed_end n) refl
  where
    go : (y : Bool) → ltb signed_end n ≡ y → is_over (cond y Above (Within (pos n))) b ≡ lt_z b (pos n)
    go true e = grind (arith, ints, i.high, ltb-true signed_end n e)
    go false e = refl

-- ---- the order that the code derives: v < w and v <= w

abbrev pub less : Value → Value → Bool
less v w = partial_lt partial_cmp-value.it v w

abbrev pub no_more : Value → Value → Bool
no_more v w = partial_le partial_cmp-value.it v w

pub under_is : (v : Value) (b : ℤ) → less v (Within b) ≡ is_under v b
under_is Below b = refl
under_is (Within x) b = search rules
under_is Above b = refl

pub over_is : (v : Value) (b : ℤ) → less (Within b) v ≡ is_over v b
over_is Below b = refl
over_is (Within x) b = search rules
over_is Above b = refl

-- a bound that is held is reached
pub reached_law : (z b : ℤ) → Storable b → no_more (Within b) (placed z) ≡ le_z b z
reached_law z b i = flip (placed z) ∙ ap not (under_law z b i) ∙ not_lt z b
  where
    flip : (v : Value) → no_more (Within b) v ≡ not (is_under v b)
    flip Below = refl
    flip (Within x) = search rules
    flip Above = refl

-- of two numbers, the first of them held
pub less_law : (z w : ℤ) → Storable z → is_less (placed z) (placed w) ≡ lt_z z w
less_law z w i = rw (placed_in z i) (go (placed w) ∙ over_law w z i)
  where
    go : (v : Value) → is_less (Within z) v ≡ is_over v z
    go Below = refl
    go (Within y) = refl
    go Above = refl

-- ---- lines drawn anew

pub drawn_in : (l : Line) → Storable l.synthetic → held l ≡ Some l
unfolding held
drawn_in l i = rw (placed_in l.synthetic i)

-- the line through z at P, by how z is seen
abbrev pub line_of : ℤ → ℕ → ℤ → Value → Option Line
line_of P rem a Below = None
line_of P rem a (Within x) = Some (line P x rem a)
line_of P rem a Above = None

pub line_of_lem : (P : ℤ) (rem : ℕ) (a z : ℤ) → line_of P rem a (placed z) ≡ held (line P z rem a)
unfolding held placed
line_of_lem P rem a (negsuc n) = refl
line_of_lem P rem a (pos n) = go (ltb signed_end n)
  where
    go : (y : Bool) → line_of P rem a (cond y Above (Within (pos n))) ≡ drawn_if (cond y Above (Within (pos n))) (line P (pos n) rem a)
    go true = refl
    go false = refl

-- S0 outside 0..E, whatever E is held
pub beyond_law : (R S : ℤ) (rem : ℕ) (a E : ℤ) → Storable E → is_beyond (held (line R S rem a)) E ≡ (lt_z S (pos 0) || lt_z E S)
unfolding held placed
beyond_law R (negsuc n) rem a E i = refl
beyond_law R (pos n) rem a E i = go (ltb signed_end n) refl
  where
    go : (y : Bool) → ltb signed_end n ≡ y →
        is_beyond (drawn_if (cond y Above (Within (pos n))) (line R (pos n) rem a)) E ≡ (lt_z (pos n) (pos 0) || lt_z E (pos n))
    go true e = grind (arith, ints, i.high, ltb-true signed_end n e)
    go false e = grind (arith, ints)

-- what holds of the line, if its S0 is held, and of another, holds of the one that is taken
pub line_or_keeps : (P : Line → Type 0) (R S : ℤ) (rem : ℕ) (a : ℤ) (other : Line) → (Storable S → P (line R S rem a)) → P other →
    P (line_or (held (line R S rem a)) other)
unfolding held placed
line_or_keeps P R (negsuc n) rem a other f p = p
line_or_keeps P R (pos n) rem a other f p = go (ltb signed_end n) refl
  where
    go : (y : Bool) → ltb signed_end n ≡ y → P (line_or (drawn_if (cond y Above (Within (pos n))) (line R (pos n) rem a)) other)
    go true e = p
    go false e = f (record { low = omega (arith, ints); high = omega (arith, ints, ltb-false signed_end n e) })
