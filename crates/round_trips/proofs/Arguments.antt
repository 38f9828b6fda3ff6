-- Arguments as a slip's fields have them, and back.
use mathlib.Core.Path.{◌≡◌, refl, sym, ap, ◌∙◌, subst}
use mathlib.Core.Bool.{Bool, true, false, not, cond, ◌&&◌}
use Prim.Native.Nat.{ℕ, ◌-◌, ◌^◌, ◌<◌}
use native.Mathlib.Omega.{arith}
use lib.Dec.{T, lit<}
use lib.IntN.{ℤ, pos, negsuc, nat_abs, +ℤ-neg_ℤ_cancel, -ℤ-+ℤ_cancel, ◌-ℤ◌}
use lib.Signed.{◌≤ℤ◌}
use lib.Pow.{pow_pos}
use Rattle.std.proofs.lemmas.Int.{ints}
use Rattle.line.specs.Numbers.{outside}
use Rattle.clock.specs.Numbers.{END, END2, MAX_RATE}
use Rattle.clock.specs.Clock.{Permitted}
use Rattle.clock.specs.Update.{is_version3, end_of}
use Rattle.clock.proofs.Ranges.{inside}
use Rattle.slip.specs.Layout.{time_width, flagged_width, rate_field, rate_of}
use Rattle.slip.proofs.Rates.{rate_sum}

-- ---- a field that isn't flagged has no bits, and its value is 0

pub flagged_fits : (flagged : Bool) (width value : ℕ) → (T flagged → value < 2 ^ width) → cond flagged value 0 < 2 ^ flagged_width flagged width
flagged_fits true width value h = h tt
flagged_fits false width value h = lit< tt

pub flagged_kept : (flagged : Bool) (width value : ℕ) → value < 2 ^ flagged_width flagged width → cond flagged value 0 ≡ value
flagged_kept true width value h = refl
flagged_kept false width value h = none value h
  where
    none : (n : ℕ) → n < 1 → 0 ≡ n
    none n h = omega arith

-- ---- tests that fail

pub and_fails : (a b : Bool) → T (not b) → T (not (a && b))
and_fails true b n = n
and_fails false b n = tt

-- ---- times: a word's end is the largest number that its times' width holds

end_is_widest : (word : ℕ) → end_of word ≡ pos (2 ^ time_width word - 1)
end_is_widest word = go (is_version3 word)
  where
    go : (newer : Bool) → cond newer END END2 ≡ pos (2 ^ cond newer 63 61 - 1)
    go true = refl
    go false = refl

pub time_fits : (word : ℕ) (x : ℤ) → pos 0 ≤ℤ x → x ≤ℤ end_of word → nat_abs x < 2 ^ time_width word
time_fits word (pos n) l h = omega (arith, ints, pow_pos (time_width word), subst (λ (e : ℤ). pos n ≤ℤ e) (end_is_widest word) h)
time_fits word (negsuc n) l h = absurd l.le

pub time_within : (word n : ℕ) → n < 2 ^ time_width word → T (not (outside (pos 0) (end_of word) (pos n)))
time_within word n h =
    inside (pos 0) (end_of word) (pos n) (omega (arith, ints)) (subst (λ (e : ℤ). pos n ≤ℤ e) (sym (end_is_widest word)) (omega (arith, ints)))

-- ---- rates

pub rate_back : (a : ℤ) → Permitted a → rate_of (rate_field a) ≡ a
rate_back a h = ap (λ (z : ℤ). z -ℤ MAX_RATE) (sym (rate_sum a h)) ∙ +ℤ-neg_ℤ_cancel a MAX_RATE

pub rate_again : (n : ℕ) → rate_field (rate_of n) ≡ n
rate_again n = ap nat_abs (-ℤ-+ℤ_cancel (pos n) MAX_RATE)
