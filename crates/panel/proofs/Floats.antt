-- A float is what its bits say: finite or not, its sign, and its size in units.
use mathlib.Core.Path.{◌≡◌, refl, sym, ap, ◌∙◌, subst}
use mathlib.Core.Bool.{Bool, true, false, not, cond, true≢false}
use Prim.Native.Nat.{ℕ, zero, suc, ◌+◌, ◌*◌, ◌^◌}
use native.Mathlib.Nat.{mul-one}
use lib.Dec.{T, eqb}
use Rattle.std.specs.Float.{float_is_finite}
use lib.Ieee.{Float, nan, inf, fin, binary64, up, down, odd, of_fields, of_bits, fits, is_nan}
use lib.Ieee.Bits.{of_bits-to_bits}
use lib.Ieee.Exact.{HasValue, odd_sign}
use Rattle.panel.specs.Bits.{bits, sign, exponent, digits, is_finite, one, units_of, units}

-- the kit's float x, beside whether the bits are those of a finite one, their sign and their size in units
abbrev pub Says : Float → Bool → Bool → ℕ → Type 0
Says nan f s n = f ≡ false
Says (inf u) f s n = f ≡ false
Says (fin u m e) f s n = (f ≡ true) × (s ≡ u) × (m * up e * one ≡ n * down e)

-- ---- by sign, exponent and digits

odd_says : (s : Bool) (q k n : ℕ) → q * 2 ^ k ≡ n → Says (odd 53 s q k 1074) true s n
odd_says s q k n e = go (odd 53 s q k 1074) (odd_sign 53 s q k 1074)
  where
    go : (x : Float) → HasValue x s (q * 2 ^ k) (2 ^ 1074) → Says x true s n
    go nan v = absurd v
    go (inf u) v = absurd v
    go (fin u m i) v = (refl, sym v.0, v.1 ∙ ap (λ (a : ℕ). a * down i) e)

fields_say : (s : Bool) (t e : ℕ) → Says (of_fields binary64 s e t) (not (eqb e 2047)) s (units_of t e)
unfolding of_fields
fields_say s t zero = odd_says s t 0 t (mul-one t)
fields_say s t (suc x) = go (eqb (suc x) 2047) (eqb t 0)
  where
    go : (a b : Bool) → Says (cond a (cond b (inf s) nan) (odd 53 s (2 ^ 52 + t) x 1074)) (not a) s ((2 ^ 52 + t) * 2 ^ x)
    go true true = refl
    go true false = refl
    go false b = odd_says s (2 ^ 52 + t) x ((2 ^ 52 + t) * 2 ^ x) refl

-- ---- by a pattern, and by a float's own bits

pub pattern_says : (b : ℕ) → Says (of_bits binary64 b) (is_finite b) (sign b) (units b)
unfolding of_bits is_finite units
pattern_says b = fields_say (sign b) (digits b) (exponent b)

pub bits_say : (x : Float) → fits binary64 x ≡ true → Says x (is_finite (bits x)) (sign (bits x)) (units (bits x))
bits_say x held =
    subst (λ (y : Float). Says y (is_finite (bits x)) (sign (bits x)) (units (bits x)))
    (of_bits-to_bits binary64 x (subst T (sym held) tt))
    (pattern_says (bits x))

-- ---- the code's tests

finite_says : (x : Float) (f s : Bool) (n : ℕ) → Says x f s n → float_is_finite x ≡ f
unfolding float_is_finite
finite_says nan f s n h = sym h
finite_says (inf u) f s n h = sym h
finite_says (fin u m e) f s n h = sym h.0

-- the kit's test is that of the bits
pub finite_by_bits : (x : Float) → fits binary64 x ≡ true → float_is_finite x ≡ is_finite (bits x)
finite_by_bits x held = finite_says x _ _ _ (bits_say x held)

-- and what is finite is a number
pub no_nan : (x : Float) (f s : Bool) (n : ℕ) → Says x f s n → f ≡ true → T (not (is_nan x))
unfolding is_nan
no_nan nan f s n h t = absurd (true≢false (sym t ∙ h))
no_nan (inf u) f s n h t = tt
no_nan (fin u m e) f s n h t = tt
