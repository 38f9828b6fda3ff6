-- Rows of bits and the numbers that they stand for.
use mathlib.Core.Path.{◌≡◌, refl, sym, ap, ap₂, ◌∙◌}
use mathlib.Core.Bool.{Bool, true, false}
use mathlib.Core.List.{List, [], ◌∷◌, ◌++◌}
use Prim.Native.Nat.{ℕ, zero, suc, ◌+◌, ◌*◌, ◌/◌, ◌%◌, ◌^◌, ◌<◌}
use native.Mathlib.Nat.{zero-add, add_assoc, add-mul, mul_assoc, mul_comm, zero-mul, mod-one, pow-zero, pow-suc, mod-lt, mod-eq_of_lt}
use native.Mathlib.Omega.{arith}
use native.Mathlib.Numerals.{one-add}
use lib.Dec.{eqb}
use lib.ListN.{length, take, drop, length-append}
use lib.Seq.{take_at, drop_at}
use lib.Pow.{pow-add, pow_pos, mod-pow-add, high, low}
use lib.Arith.{digits_lt}
use Rattle.fields.specs.Bits.{digit, number, odd, digits}

pub length_digits : (w n : ℕ) → length (digits w n) ≡ w
unfolding digits
length_digits zero n = refl
length_digits (suc w) n = ap suc (length_digits w _)

pub number_append : (a b : List Bool) → number (a ++ b) ≡ number a * 2 ^ length b + number b
unfolding number
number_append [] b = simp (zero-mul, zero-add)
number_append (x ∷ a) b =
    simp (number_append a b, length-append a b, pow-add 2 (length a) (length b), add-mul, mul_assoc, add_assoc)

digit_lt : (b : Bool) → digit b < 2
digit_lt true = omega arith
digit_lt false = omega arith

pub number_lt : (a : List Bool) → number a < 2 ^ length a
unfolding number
number_lt [] = omega (arith, pow-zero 2)
number_lt (b ∷ a) =
    rw (pow-suc 2 (length a)) (omega (arith, digits_lt (digit_lt b) (number_lt a), mul_comm (2 ^ length a) 2))

digit_inj : (x y : Bool) → digit x ≡ digit y → x ≡ y
digit_inj true true e = refl
digit_inj true false e = absurd (omega arith)
digit_inj false true e = absurd (omega arith)
digit_inj false false e = refl

odd_digit : (n : ℕ) → digit (odd n) ≡ n % 2
odd_digit n = go (n % 2) (mod-lt n (omega arith))
  where
    go : (k : ℕ) → k < 2 → digit (eqb k 1) ≡ k
    go zero h = refl
    go (suc zero) h = refl
    go (suc (suc k)) h = absurd (omega arith)

pub number_digits : (w n : ℕ) → number (digits w n) ≡ n % 2 ^ w
unfolding number digits
number_digits zero n = sym (mod-one n)
number_digits (suc w) n =
    simp (number_digits w n, odd_digit, length_digits w n, ← one-add w, mod-pow-add n 1 w)

-- rows as long as each other that stand for one number are one row: so a law of digits is one of remainders
pub number_inj : (a b : List Bool) → length a ≡ length b → number a ≡ number b → a ≡ b
unfolding number
number_inj [] [] l e = refl
number_inj [] (y ∷ b) l e = absurd (omega arith)
number_inj (x ∷ a) [] l e = absurd (omega arith)
number_inj (x ∷ a) (y ∷ b) l e = ap₂ {C = List Bool} (λ h t. h ∷ t) (digit_inj x y heads) (number_inj a b len tails)
  where
    len : length a ≡ length b
    len = omega arith

    at_a : number b < 2 ^ length a
    at_a = rw len (number_lt b)

    same : digit x * 2 ^ length a + number a ≡ digit y * 2 ^ length a + number b
    same = rw (← len) at e

    heads : digit x ≡ digit y
    heads = sym (high (digit x) (length a) (number_lt a)) ∙ ap (λ (k : ℕ). k / 2 ^ length a) same ∙ high (digit y) (length a) at_a

    tails : number a ≡ number b
    tails = sym (low (digit x) (length a) (number_lt a)) ∙ ap (λ (k : ℕ). k % 2 ^ length a) same ∙ low (digit y) (length a) at_a

pub digits_number : (a : List Bool) → digits (length a) (number a) ≡ a
digits_number a =
    number_inj _ _ (length_digits (length a) (number a)) (number_digits (length a) (number a) ∙ mod-eq_of_lt (number_lt a))

-- the low bits are all that counts
digits_low : (k n m : ℕ) → n % 2 ^ k ≡ m % 2 ^ k → digits k n ≡ digits k m
digits_low k n m e = number_inj _ _ (simp length_digits) (simp (number_digits, e))

pub digits_mod : (k n : ℕ) → digits k (n % 2 ^ k) ≡ digits k n
digits_mod k n = digits_low k (n % 2 ^ k) n (mod-eq_of_lt (mod-lt n (pow_pos k)))

pub digits_append : (j k n : ℕ) → digits (j + k) n ≡ digits j (n / 2 ^ k) ++ digits k n
digits_append j k n =
    number_inj _ _
    (simp (length-append (digits j (n / 2 ^ k)) (digits k n), length_digits))
    (simp (number_append (digits j (n / 2 ^ k)) (digits k n), length_digits, number_digits, mod-pow-add n j k))

digits_three : (o k r n : ℕ) → digits (o + (k + r)) n ≡ digits o (n / 2 ^ (k + r)) ++ (digits k (n / 2 ^ r) ++ digits r n)
digits_three o k r n = digits_append o (k + r) n ∙ ap (λ (t : List Bool). digits o (n / 2 ^ (k + r)) ++ t) (digits_append k r n)

-- k bits from bit o on of a number of o + (k + r) bits
pub digits_part : (o k r n : ℕ) → take k (drop o (digits (o + (k + r)) n)) ≡ digits k (n / 2 ^ r)
digits_part o k r n =
    rw (
      digits_three o k r n,
      drop_at (digits o (n / 2 ^ (k + r))) (digits k (n / 2 ^ r) ++ digits r n) o (length_digits o (n / 2 ^ (k + r))),
    )
    (take_at (digits k (n / 2 ^ r)) (digits r n) k (length_digits k (n / 2 ^ r)))

-- a number put together of h and the k low bits of v
pub digits_joined : (o k h v : ℕ) → digits (o + k) (h * 2 ^ k + v % 2 ^ k) ≡ digits o h ++ digits k v
digits_joined o k h v =
    let lt : v % 2 ^ k < 2 ^ k = mod-lt v (pow_pos k) in
    digits_append o k (h * 2 ^ k + v % 2 ^ k)
    ∙ ap₂ {C = List Bool} (λ a b. a ++ b) (ap (digits o) (high h k lt)) (digits_low k (h * 2 ^ k + v % 2 ^ k) v (low h k lt))
