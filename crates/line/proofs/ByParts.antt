-- A quotient by a million and its rest, the distance taken apart.
use Prim.Native.Nat.{ℕ, ◌+◌, ◌*◌, ◌/◌, ◌%◌}
use native.Mathlib.Nat.{add-mul, mul_assoc, mul_comm, div-add-mod', add_assoc}
use native.Mathlib.Omega.{arith}
use mathlib.Core.Path.{◌≡◌, sym, ap, ◌∙◌}
use Rattle.line.specs.Numbers.{million}

module _ (d v carry : ℕ) where
  swap : d / million * million * v ≡ d / million * v * million
  swap = mul_assoc _ _ _ ∙ ap (λ (n : ℕ). d / million * n) (mul_comm million v) ∙ sym (mul_assoc _ _ _)

  split : d * v + carry ≡ d / million * v * million + (d % million * v + carry)
  split =
      ap (λ (n : ℕ). n * v + carry) (sym (div-add-mod' d million))
      ∙ ap (λ (n : ℕ). n + carry) (add-mul _ _ _ ∙ ap (λ (n : ℕ). n + d % million * v) swap)
      ∙ add_assoc _ _ _

  pub scaled_by_parts : d / million * v + (d % million * v + carry) / million ≡ (d * v + carry) / million
  scaled_by_parts = omega (arith, split)

  pub rest_by_parts : (d % million * v + carry) % million ≡ (d * v + carry) % million
  rest_by_parts = omega (arith, split)

pub ruleset by_parts = (scaled_by_parts, rest_by_parts)
