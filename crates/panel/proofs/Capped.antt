-- A size that is told as the cap where it is more: the limits of a rate don't see the difference.
use mathlib.Core.Path.{◌≡◌, sym, ◌∙◌}
use mathlib.Core.Bool.{Bool, true, false, true≢false}
use Prim.Native.Nat.{ℕ, zero, suc, ◌≤◌, min}
use native.Mathlib.Nat.{min-eq_left, min-eq_right, le_of_lt}
use native.Mathlib.Omega.{arith}
use lib.Dec.{leb, ltb, lt→ltb, leb→le, nleb→lt}
use lib.Ieee.Nearest.{closest}
use Rattle.line.specs.Numbers.{outside}
use Rattle.clock.specs.Numbers.{rate_outside}
use Rattle.tables.proofs.Tests.{is_true, by_cases}
use Rattle.panel.specs.Bits.{sign, units, one, signed, nearest_whole}
use Rattle.panel.specs.Parts.{cap, capped_size, capped_whole}

wide : (s : Bool) (n : ℕ) → cap ≤ n → rate_outside (signed s n) ≡ true
unfolding rate_outside outside
wide false n h = is_true (ltb 1000 n) (lt→ltb 1000 n (omega arith))
wide true zero h = absurd (omega arith)
wide true (suc n) h = rw (is_true (ltb 999 n) (lt→ltb 999 n (omega arith)))

-- a size and its capped form, at a sign
same : (s : Bool) (n : ℕ) → rate_outside (signed s (min n cap)) ≡ rate_outside (signed s n)
same s n =
    by_cases (leb n cap)
    (λ t. rw (min-eq_left (leb→le n cap t)))
    (λ t. let h = le_of_lt (nleb→lt n cap t) in rw (min-eq_right h, wide s cap (omega arith), wide s n h))

kept : (s : Bool) (n : ℕ) → rate_outside (signed s n) ≡ false → signed s (min n cap) ≡ signed s n
kept s n f =
    by_cases (leb n cap)
    (λ t. rw (min-eq_left (leb→le n cap t)))
    (λ t. absurd (true≢false (sym (wide s n (le_of_lt (nleb→lt n cap t))) ∙ f)))

pub capped_wide : (b : ℕ) → rate_outside (capped_whole b) ≡ rate_outside (nearest_whole b)
unfolding capped_size nearest_whole
capped_wide b = same (sign b) (closest (units b) one)

pub capped_kept : (b : ℕ) → rate_outside (nearest_whole b) ≡ false → capped_whole b ≡ nearest_whole b
unfolding capped_size nearest_whole
capped_kept b = kept (sign b) (closest (units b) one)
