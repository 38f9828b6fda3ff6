-- A quotient rounded to the nearest whole number, by how twice the remainder compares with the divisor.
use mathlib.Core.Path.{◌≡◌, refl, sym, subst}
use mathlib.Core.Bool.{not}
use Prim.Native.Nat.{ℕ, ◌+◌, ◌%◌, ◌≤◌, ◌<◌, compare, Ordering}
use native.Mathlib.Numerals.{add-one}
use native.Mathlib.Omega.{arith}
use lib.Dec.{T, eqb, leb→le, nleb→lt, eqb→eq, is_le, compare_is_eq, eqb_refl}
use lib.Ieee.{nearest}

module _ (q a b : ℕ) where
  pub less : a < b → nearest q (compare a b) ≡ q
  less h = go (compare a b) (nleb→lt a b) (eqb→eq a b)
    where
      go : (o : Ordering) → (T (not (is_le o)) → b < a) → (T (compare_is_eq o) → a ≡ b) → nearest q o ≡ q
      go Ordering.lt k e = refl
      go Ordering.eq k e = let z : a ≡ b = e tt in absurd (omega arith)
      go Ordering.gt k e = let z : b < a = k tt in absurd (omega arith)

  pub more : b < a → nearest q (compare a b) ≡ q + 1
  more h = go (compare a b) (leb→le a b)
    where
      go : (o : Ordering) → (T (is_le o) → a ≤ b) → nearest q o ≡ q + 1
      go Ordering.lt k = let z : a ≤ b = k tt in absurd (omega arith)
      go Ordering.eq k = let z : a ≤ b = k tt in absurd (omega arith)
      go Ordering.gt k = sym (add-one q)

  pub half : a ≡ b → nearest q (compare a b) ≡ q + q % 2
  half h = go (compare a b) (λ (e : a ≡ b). subst (λ (x : ℕ). T (eqb a x)) e (eqb_refl a))
    where
      go : (o : Ordering) → (a ≡ b → T (compare_is_eq o)) → nearest q o ≡ q + q % 2
      go Ordering.lt n = absurd (n h)
      go Ordering.eq n = refl
      go Ordering.gt n = absurd (n h)
