-- Numbers shifted up and down, and bytes joined to one number.
use mathlib.Core.Path.{◌≡◌, sym, ap, ◌∙◌}
use Prim.Native.Nat.{ℕ, ◌+◌, ◌*◌, ◌/◌, ◌%◌, ◌^◌, ◌<◌}
use native.Mathlib.Nat.{add-zero, add-mul, mul_assoc, mod-lt}
use native.Mathlib.Omega.{arith}
use lib.Pow.{pow-add, pow_pos, shl_lt, shl-shr, shr-shr, split, low, mod-mod-pow}

-- ---- shifts

-- up in two steps
pub shl_shl : (y j k : ℕ) → y * 2 ^ j * 2 ^ k ≡ y * 2 ^ (j + k)
shl_shl y j k = mul_assoc y (2 ^ j) (2 ^ k) ∙ ap (λ (n : ℕ). y * n) (sym (pow-add 2 j k))

-- what is shifted out above is gone
pub shl_low : (h k o y : ℕ) → y < 2 ^ k → (h * 2 ^ k + y) * 2 ^ o % 2 ^ (k + o) ≡ y * 2 ^ o
shl_low h k o y hy =
    let e : (h * 2 ^ k + y) * 2 ^ o ≡ h * 2 ^ (k + o) + y * 2 ^ o = simp (add-mul, shl_shl h k o) in
    ap (λ (n : ℕ). n % 2 ^ (k + o)) e ∙ low h (k + o) (shl_lt k o hy)

-- so that of v its k low bits are left
shl_field : (v k o : ℕ) → v * 2 ^ o % 2 ^ (k + o) ≡ v % 2 ^ k * 2 ^ o
shl_field v k o =
    ap (λ (n : ℕ). n * 2 ^ o % 2 ^ (k + o)) (sym (split v k)) ∙ shl_low (v / 2 ^ k) k o (v % 2 ^ k) (mod-lt v (pow_pos k))

-- in a word
pub shl_word : (v k o : ℕ) → k + o ≡ 64 → v * 2 ^ o % 2 ^ 64 ≡ v % 2 ^ k * 2 ^ o
shl_word v k o e = ap (λ (n : ℕ). v * 2 ^ o % 2 ^ n) (sym e) ∙ shl_field v k o

-- in a word, the last of them by a step of its own
pub shl_word_twice : (v k o : ℕ) → k + (o + 1) ≡ 64 → v * 2 ^ o % 2 ^ 64 * 2 % 2 ^ 64 ≡ v % 2 ^ k * 2 ^ (o + 1)
shl_word_twice v k o e =
    ap (λ (n : ℕ). n * 2 % 2 ^ 64) (shl_word v (1 + k) o (omega arith))
    ∙ ap (λ (n : ℕ). n % 2 ^ 64) (shl_shl (v % 2 ^ (1 + k)) o 1)
    ∙ shl_word (v % 2 ^ (1 + k)) k (o + 1) e
    ∙ ap (λ (n : ℕ). n * 2 ^ (o + 1)) (mod-mod-pow v 1 k)

-- nothing stands below what was shifted up
pub shl_clear : (y k : ℕ) → y * 2 ^ k % 2 ^ k ≡ 0
shl_clear y k = ap (λ (n : ℕ). n % 2 ^ k) (sym (add-zero (y * 2 ^ k))) ∙ low y k (pow_pos k)

-- a number with nothing below bit k was shifted up by k
pub shr_shl : (x k : ℕ) → x % 2 ^ k ≡ 0 → x ≡ x / 2 ^ k * 2 ^ k
shr_shl x k e = sym (split x k) ∙ ap (λ (n : ℕ). x / 2 ^ k * 2 ^ k + n) e ∙ add-zero (x / 2 ^ k * 2 ^ k)

-- up by o and down by more
pub shl_shr_more : (y o r : ℕ) → y * 2 ^ o / 2 ^ (o + r) ≡ y / 2 ^ r
shl_shr_more y o r = sym (shr-shr (y * 2 ^ o) o r) ∙ ap (λ (n : ℕ). n / 2 ^ r) (shl-shr y o)

-- and by less
pub shl_shr_less : (y k r : ℕ) → y * 2 ^ (k + r) / 2 ^ r ≡ y * 2 ^ k
shl_shr_less y k r = ap (λ (n : ℕ). n / 2 ^ r) (sym (shl_shl y k r)) ∙ shl-shr (y * 2 ^ k) r

-- ---- bytes joined

module _ (a b c d e f g h : ℕ) where
  -- eight bytes as one number, one after another
  abbrev pub chained : ℕ
  chained = ((((((a * 256 + b) * 256 + c) * 256 + d) * 256 + e) * 256 + f) * 256 + g) * 256 + h

  -- the same, each byte at its place
  pub chained_sum : chained ≡ a * 2 ^ 56 + b * 2 ^ 48 + c * 2 ^ 40 + d * 2 ^ 32 + e * 2 ^ 24 + f * 2 ^ 16 + g * 2 ^ 8 + h
  chained_sum = omega arith
