-- What an answer says of the tests that gave it.
use mathlib.Core.Path.{◌≡◌, refl}
use mathlib.Core.Bool.{Bool, true, false, not}
use mathlib.Core.List.{List}
use Prim.Native.Nat.{ℕ, zero, suc}
use lib.Dec.{T}
use Rattle.std.specs.Prelude.{Ok, Err}
use Rattle.tables.specs.Tables.{Row, first, answer_to, answer}
use Rattle.tables.specs.Refusals.{refused_if}
use Rattle.tables.specs.declared.Refusal.{Refusal}

-- what is not refused failed the test
pub let_pass : (t b : Bool) (r : Refusal) {x : Unit} → Ok x ≡ refused_if t r → t ≡ b → T (not b)
unfolding refused_if
let_pass t true r {x} e h = let k : Ok x ≡ refused_if true r = rw h at e in cc
let_pass t false r e h = tt

module _ {A : Type 0} (rows : List Row) (taken : A) where
  pub told_ok : (x : A) → Ok x ≡ answer rows (Ok taken) (λ n. Err n) → (first rows ≡ 0) × (x ≡ taken)
  told_ok x = go (first rows)
    where
      go : (n : ℕ) → Ok x ≡ answer_to n (Ok taken) (λ m. Err m) → (n ≡ 0) × (x ≡ taken)
      go zero e = (refl, cc)
      go (suc n) e = cc

  pub told_err : (m : ℕ) → Err m ≡ answer rows (Ok taken) (λ n. Err n) → (m ≡ first rows) × (m ≡ 0 → ⊥)
  told_err m = go (first rows)
    where
      go : (n : ℕ) → Err m ≡ answer_to n (Ok taken) (λ k. Err k) → (m ≡ n) × (m ≡ 0 → ⊥)
      go zero e = cc
      go (suc n) e = (cc, λ z. absurd cc)
