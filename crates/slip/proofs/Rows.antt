-- Rows slip by slip: one step of a row, and the argument from slip to slip.
use mathlib.Core.Path.{◌≡◌, refl, sym, ap, ◌∙◌, subst}
use mathlib.Core.List.{List, [], ◌∷◌}
use Prim.Native.Nat.{ℕ, zero, suc, ◌-◌, ◌≤◌, ◌<◌}
use native.Mathlib.Nat.{not-suc-le-zero}
use native.Mathlib.Omega.{arith}
use lib.ListN.{length, drop, length-drop}
use Rattle.tables.proofs.Tables.{by_number, told_taken, told_refused}
use Rattle.slip.specs.Row.{RowRead, stopped_by, ahead, stepped, row_after, row_by}
use Rattle.slip.specs.declared.Received.{Received}

-- ---- one step

module _ (r : Received) where
  stepped_taken : (row : RowRead) → r.refusal ≡ 0 → stepped r row ≡ ahead r row
  stepped_taken row = told_taken (ahead r row) stopped_by r.refusal

  stepped_refused : (row : RowRead) → (r.refusal ≡ 0 → ⊥) → stepped r row ≡ stopped_by r.refusal
  stepped_refused row = told_refused (ahead r row) stopped_by r.refusal

  -- the row behind matters only where the slip was taken
  stepped_alike : (row other : RowRead) → (r.refusal ≡ 0 → row ≡ other) → stepped r row ≡ stepped r other
  stepped_alike row other h =
      by_number r.refusal (λ e. ap (stepped r) (h e)) (λ e. stepped_refused row e ∙ sym (stepped_refused other e))

-- the first byte is at hand already
drop_more : (n : ℕ) (b : ℕ) (bytes : List ℕ) → 0 < n → drop (n - 1) bytes ≡ drop n (b ∷ bytes)
drop_more zero b bytes h = absurd (not-suc-le-zero h)
drop_more (suc n) b bytes h =
    let e : suc n - 1 ≡ n = omega arith in
    ap (λ (k : ℕ). drop k bytes) e

-- ---- a row, by a reader that uses bytes where it takes a slip, and no more than there are

module _ (reader : List ℕ → Received) (uses : (bytes : List ℕ) → (reader bytes).refusal ≡ 0 → 0 < (reader bytes).length)
    (within : (bytes : List ℕ) → (reader bytes).length ≤ length bytes) where
  abbrev row : List ℕ → RowRead
  row bytes = row_by reader bytes

  -- what is behind the slip on the front
  abbrev rest : List ℕ → List ℕ
  rest bytes = drop (reader bytes).length bytes

  -- bytes that belong to the slip before are passed over
  passed_over : (n : ℕ) (bytes : List ℕ) → row_after reader n bytes ≡ row (drop n bytes)
  unfolding row_after
  passed_over zero bytes = refl
  passed_over (suc n) [] = refl
  passed_over (suc n) (b ∷ bytes) = passed_over n bytes

  pub row_step : (bytes : List ℕ) → 0 < length bytes → row bytes ≡ stepped (reader bytes) (row (rest bytes))
  unfolding row_after
  row_step [] h = absurd (not-suc-le-zero h)
  row_step (b ∷ bytes) h =
      let r = reader (b ∷ bytes) in
      stepped_alike r (row_after reader (r.length - 1) bytes) (row (drop r.length (b ∷ bytes)))
      (λ e. passed_over (r.length - 1) bytes ∙ ap row (drop_more r.length b bytes (uses (b ∷ bytes) e)))

  pub row_taken : (bytes : List ℕ) → (reader bytes).refusal ≡ 0 → row bytes ≡ ahead (reader bytes) (row (rest bytes))
  row_taken bytes accepted =
      row_step bytes (omega (arith, uses bytes accepted, within bytes)) ∙ stepped_taken (reader bytes) (row (rest bytes)) accepted

  pub row_refused : (bytes : List ℕ) → 0 < length bytes → ((reader bytes).refusal ≡ 0 → ⊥) → row bytes ≡ stopped_by (reader bytes).refusal
  row_refused bytes some h = row_step bytes some ∙ stepped_refused (reader bytes) (row (rest bytes)) h

  -- the rest is shorter than the bytes were
  shorter : (bytes : List ℕ) (n : ℕ) → (reader bytes).refusal ≡ 0 → length bytes ≤ suc n → length (rest bytes) ≤ n
  shorter bytes n accepted h = omega (arith, length-drop (reader bytes).length bytes, uses bytes accepted)

  -- what holds of no bytes and where a slip is refused, and of a slip and a row if of the row, holds of every row
  module _ (Q : List ℕ → RowRead → Type 0) (none : Q [] (stopped_by 0))
      (refused : (bytes : List ℕ) → 0 < length bytes → ((reader bytes).refusal ≡ 0 → ⊥) → Q bytes (stopped_by (reader bytes).refusal))
      (taken : (bytes : List ℕ) (behind : RowRead) → (reader bytes).refusal ≡ 0 → Q (rest bytes) behind → Q bytes (ahead (reader bytes) behind)) where
    up_to : (n : ℕ) (bytes : List ℕ) → length bytes ≤ n → Q bytes (row bytes)
    unfolding row_after
    up_to zero [] h = none
    up_to zero (b ∷ bytes) h = absurd (not-suc-le-zero h)
    up_to (suc n) [] h = none
    up_to (suc n) (b ∷ bytes) h =
        let l : List ℕ = b ∷ bytes in
        by_number (reader l).refusal
        (λ e. subst (Q l) (sym (row_taken l e)) (taken l (row (rest l)) e (up_to n (rest l) (shorter l n e h))))
        (λ e. subst (Q l) (sym (row_refused l (omega arith) e)) (refused l (omega arith) e))

    pub by_slips : (bytes : List ℕ) → Q bytes (row bytes)
    by_slips bytes = up_to (length bytes) bytes (omega arith)
