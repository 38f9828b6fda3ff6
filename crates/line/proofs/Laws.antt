-- The laws of lines that callers use: no caller unfolds a line's value.
use mathlib.Core.Path.{◌≡◌, refl, sym, ap, ◌∙◌}
use Prim.Native.Nat.{ℕ, ◌+◌, ◌≤◌, ◌<◌}
use native.Mathlib.Nat.{mul-le-mul_right, add-mul}
use native.Mathlib.Omega.{arith}
use lib.IntN.{ℤ, pos, negsuc, nat_abs, ◌+ℤ◌, ◌-ℤ◌, ◌*ℤ◌, +ℤ_idr, +ℤ_invr, zero-*ℤ}
use lib.Signed.{le_z, ◌≤ℤ◌, le_z_yes}
use lib.Dec.{T, eqb, eqb→eq}
use Rattle.line.specs.Numbers.{million, floor_div, floor_mod, is_zero}
use Rattle.line.specs.Line.{line, zero_line, slope, exact_at, value_at, remainder_at, turned, is_zeros, reaches, Rising}
use Rattle.line.specs.declared.Line.{Line}
use Rattle.std.specs.Int.Signed.{pos-nat_abs, yes_non_neg}
use borrow.Author.Differences.{up, down}
use Rattle.std.proofs.lemmas.Int.{ints}
use Rattle.line.proofs.Linear.{Floors, floor_lin, rest_lin}
use Rattle.line.proofs.Tests.{four}

-- ---- the exact value

-- a line that begins at a whole value
pub exact_set : (P S a t : ℤ) → exact_at (line P S 0 a) t ≡ (S *ℤ pos million) +ℤ ((t -ℤ P) *ℤ slope a)
unfolding exact_at
exact_set P S a t = ap (λ (z : ℤ). z +ℤ ((t -ℤ P) *ℤ slope a)) (+ℤ_idr (S *ℤ pos million))

-- at its own reference a line is S0 and the remainder
exact_begins : (l : Line) → exact_at l l.reference ≡ (l.synthetic *ℤ pos million) +ℤ pos l.remainder
unfolding exact_at
exact_begins l = rw (+ℤ_invr l.reference, zero-*ℤ (slope l.rate)) (+ℤ_idr _)

-- floor and rest together are the number
whole_and_rest : (x : ℤ) → (floor_div x million *ℤ pos million) +ℤ pos (floor_mod x million) ≡ x
whole_and_rest x = omega (arith, ints, rest_lin x)

-- a line turned at P begins there at its exact value
pub exact_turned : (l : Line) (P a t : ℤ) → exact_at (turned l P a) t ≡ exact_at l P +ℤ ((t -ℤ P) *ℤ slope a)
unfolding exact_at turned value_at remainder_at
exact_turned l P a t = ap (λ (z : ℤ). z +ℤ ((t -ℤ P) *ℤ slope a)) (whole_and_rest (exact_at l P))

times_rises : (x y : ℤ) (n : ℕ) → x ≤ℤ y → (x *ℤ pos n) ≤ℤ (y *ℤ pos n)
times_rises x y n h =
    let k : up x + down y ≤ up y + down x = omega (arith, ints) in
    omega (arith, ints, mul-le-mul_right n k, add-mul (up x) (down y) n, add-mul (up y) (down x) n)

exact_rises : (l : Line) (s t : ℤ) → Rising l.rate → s ≤ℤ t → exact_at l s ≤ℤ exact_at l t
unfolding exact_at
exact_rises l s t p h =
    let n = nat_abs (slope l.rate) in
    let low : pos 0 ≤ℤ slope l.rate = omega (arith, ints) in
    let is : slope l.rate ≡ pos n = sym (pos-nat_abs (slope l.rate) (yes_non_neg low)) in
    rw is (omega (arith, ints, times_rises (s -ℤ l.reference) (t -ℤ l.reference) n (omega (arith, ints))))

-- ---- the value

-- it is the exact value rounded down
pub value_floor : (l : Line) (t : ℤ) → value_at l t ≡ floor_div (exact_at l t) million
unfolding value_at
value_floor l t = refl

value_floors : (l : Line) (t : ℤ) → Floors (exact_at l t) (value_at l t)
unfolding value_at
value_floors l t = floor_lin (exact_at l t)

-- of a line that begins at a whole value it is S0 and the floor of the gain (01, 'The clock we sell')
pub value_set : (P S a t : ℤ) → value_at (line P S 0 a) t ≡ S +ℤ floor_div ((t -ℤ P) *ℤ slope a) million
value_set P S a t =
    let W = S *ℤ pos million in
    let g = (t -ℤ P) *ℤ slope a in
    let f : Floors (W +ℤ g) (value_at (line P S 0 a) t) = rw (exact_set P S a t) at (value_floors (line P S 0 a) t) in
    omega (arith, ints, f, floor_lin g)

-- lines that agree in exact value agree in value
pub value_same : (l m : Line) (t : ℤ) → exact_at l t ≡ exact_at m t → value_at l t ≡ value_at m t
unfolding value_at
value_same l m t e = ap (λ (z : ℤ). floor_div z million) e

-- a line never falls
pub value_rises : (l : Line) (s t : ℤ) → Rising l.rate → s ≤ℤ t → value_at l s ≤ℤ value_at l t
value_rises l s t p h = omega (arith, ints, exact_rises l s t p h, value_floors l s, value_floors l t)

-- from its beginning on a line shows at least S0
pub reaches_early : (l : Line) (t b : ℤ) → Rising l.rate → T (le_z l.reference t) → T (le_z b l.synthetic) → T (reaches l t b)
unfolding reaches
reaches_early l t b p begun enough =
    let start = (l.synthetic *ℤ pos million) +ℤ pos l.remainder in
    let risen : start ≤ℤ exact_at l t = rw (exact_begins l) at (exact_rises l l.reference t p (le_z_yes begun)) in
    omega (arith, ints, value_floors l t)

-- a line that begins at 0 with 0 and the rate 0 has the value t at t
pub value_identity : (t : ℤ) → value_at zero_line t ≡ t
unfolding exact_at
value_identity t = omega (arith, ints, value_floors zero_line t)

zero_is : (z : ℤ) → T (is_zero z) → z ≡ pos 0
zero_is (pos n) t = ap pos (eqb→eq n 0 t)
zero_is (negsuc n) t = absurd t

pub zeros_are : (l : Line) → T (is_zeros l) → l ≡ zero_line
unfolding is_zeros
zeros_are l t =
    let parts = four (is_zero l.reference) (is_zero l.synthetic) (eqb l.remainder 0) (is_zero l.rate) t in
    go l.reference l.synthetic l.remainder l.rate
    (zero_is l.reference parts.0) (zero_is l.synthetic parts.1) (eqb→eq l.remainder 0 parts.2) (zero_is l.rate parts.3)
  where
    go : (R S : ℤ) (rem : ℕ) (a : ℤ) → R ≡ pos 0 → S ≡ pos 0 → rem ≡ 0 → a ≡ pos 0 → line R S rem a ≡ zero_line
    go R S rem a p q m r = simp (p, q, m, r)

-- ---- a line turned at P

pub turned_reference : (l : Line) (P a : ℤ) → (turned l P a).reference ≡ P
unfolding turned
turned_reference l P a = refl

pub turned_rate : (l : Line) (P a : ℤ) → (turned l P a).rate ≡ a
unfolding turned
turned_rate l P a = refl

pub turned_remainder : (l : Line) (P a : ℤ) → (turned l P a).remainder < million
unfolding turned remainder_at
turned_remainder l P a = rest_small (exact_at l P)
  where
    rest_small : (x : ℤ) → floor_mod x million < million
    rest_small (pos n) = omega arith
    rest_small (negsuc n) = omega arith

-- at P it agrees with the old line, whatever the new rate
pub turned_agrees : (l : Line) (P a : ℤ) → exact_at (turned l P a) P ≡ exact_at l P
turned_agrees l P a = exact_turned l P a P ∙ rw (+ℤ_invr P, zero-*ℤ (slope a)) (+ℤ_idr (exact_at l P))
