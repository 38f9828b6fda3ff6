-- A finite float, capped and rounded as the code does, is the capped whole number by its bits.
use mathlib.Core.Path.{◌≡◌, refl, sym, ap, ◌∙◌}
use mathlib.Core.Bool.{Bool, true, false, cond, true≢false}
use Prim.Native.Nat.{ℕ, ◌-◌, ◌*◌, ◌/◌, ◌^◌, ◌≤◌, ◌<◌, min}
use native.Mathlib.Nat.{mul-one, mul-div_cancel, min-eq_left, min-eq_right}
use native.Mathlib.Omega.{arith}
use lib.Dec.{ltb, ltb→lt, nltb→le}
use lib.IntN.{ℤ, pos}
use lib.Pow.{pow_pos}
use lib.Ieee.{Float, nan, inf, fin, binary64, up, down, lt, fits, neg, of_bits, round, to_signed}
use lib.Ieee.Back.{round_whole}
use lib.Ieee.Exact.{HasValue}
use lib.Ieee.Fits.{down_pos}
use lib.Ieee.Nearest.{closest, closest_mono, closest_same}
use Rattle.std.specs.Float.{float_is_finite, float_clamp, round_with, round_ties_even}
use Rattle.tables.proofs.Tests.{by_cases, if_true, if_false}
use Rattle.panel.specs.Bits.{bits, one, signed, units, sign}
use Rattle.panel.specs.Parts.{cap, capped_size, capped_whole}
use Rattle.panel.proofs.Floats.{Says, bits_say, finite_by_bits}

-- the floats of the cap, and of its negative
abbrev end : Bool → Float
end s = fin s 1 (pos 11)

-- a whole number up to the cap is the same as a float
to_whole : (s : Bool) (n : ℕ) → n ≤ cap → to_signed 31 (round binary64 s n 1) ≡ signed s n
unfolding to_signed
to_whole s n h = go (round binary64 s n 1) (round_whole binary64 s n (omega arith))
  where
    small : (c : ℕ) → cap ≤ c → min n c ≡ n
    small c l = min-eq_left (omega arith)

    sized : (u : Bool) (q : ℕ) → u ≡ s → q ≡ n → cond u (signed true (min q (2 ^ 31))) (signed false (min q (2 ^ 31 - 1))) ≡ signed s n
    sized true q e i = rw (← e, i, small (2 ^ 31) (omega arith))
    sized false q e i = rw (← e, i, small (2 ^ 31 - 1) (omega arith))

    go : (y : Float) → HasValue y s n 1 → to_signed 31 y ≡ signed s n
    go nan v = absurd v
    go (inf u) v = absurd v
    go (fin u m e) v =
        sized u (m * up e / down e) v.0
        (ap (λ (a : ℕ). a / down e) (sym (mul-one (m * up e)) ∙ v.1) ∙ mul-div_cancel n (down_pos e))

-- ---- between the caps, by size and sign

-- the size a / d
module _ (a d : ℕ) (dp : 0 < d) where
  over : 1 * 2 ^ 11 * d < a * 1 → cap ≤ closest a d
  over h = closest_mono cap 1 a d (omega arith) dp (omega arith)

  under : a * 1 ≤ 1 * 2 ^ 11 * d → closest a d ≤ cap
  under h = closest_mono a d cap 1 dp (omega arith) (omega arith)

-- what the code answers
abbrev answered : Float → ℤ
answered x = to_signed 31 (round_ties_even binary64 (float_clamp x (end true) (end false)))

clamped : (s : Bool) (m : ℕ) (e : ℤ) → float_clamp (fin s m e) (end true) (end false)
    ≡ cond (ltb (1 * 2 ^ 11 * down e) (m * up e * 1)) (end s) (fin s m e)
unfolding lt
clamped true m e = refl
clamped false m e = refl

to_even : (s : Bool) (m : ℕ) (e : ℤ) → round_ties_even binary64 (fin s m e) ≡ round binary64 s (closest (m * up e) (down e)) 1
unfolding round_with
to_even true m e = refl
to_even false m e = refl

by_size : (s : Bool) (m : ℕ) (e : ℤ) → answered (fin s m e) ≡ signed s (min (closest (m * up e) (down e)) cap)
by_size s m e =
    let a = m * up e in
    let d = down e in
    let test = ltb (1 * 2 ^ 11 * d) (a * 1) in
    rw clamped
    (by_cases test
    (λ t. rw (if_true test (end s) (fin s m e) t, to_even)
    (to_whole s cap (omega arith) ∙ ap (signed s) (sym (min-eq_right (over a d (down_pos e) (ltb→lt (1 * 2 ^ 11 * d) (a * 1) t))))))
    (λ t. let h = under a d (down_pos e) (nltb→le (1 * 2 ^ 11 * d) (a * 1) t) in
    rw (if_false test (end s) (fin s m e) t, to_even) (to_whole s (closest a d) h ∙ ap (signed s) (sym (min-eq_left h)))))

-- ---- by the float's bits

by_says : (x : Float) (s : Bool) (n : ℕ) → Says x true s n → answered x ≡ signed s (min (closest n one) cap)
by_says nan s n h = absurd (true≢false h)
by_says (inf u) s n h = absurd (true≢false h)
by_says (fin u m e) s n h =
    by_size u m e
    ∙ ap (λ (k : ℕ). signed u (min k cap)) (closest_same (m * up e) (down e) n one (down_pos e) (pow_pos 1074) h.2)
    ∙ ap (λ (u : Bool). signed u (min (closest n one) cap)) (sym h.1)

-- with the code's cap
pub rounded : (x : Float) → fits binary64 x ≡ true → float_is_finite x ≡ true →
    let c = of_bits binary64 0x40a0_0000_0000_0000 in
    to_signed 31 (round_ties_even binary64 (float_clamp x (neg c) c)) ≡ capped_whole (bits x)
unfolding of_bits neg capped_size
rounded x held f =
    by_says x (sign (bits x)) (units (bits x)) (rw (sym (finite_by_bits x held) ∙ f) at (bits_say x held))
