-- Writing into one byte, and so into the row.
use mathlib.Core.Path.{◌≡◌, refl, sym, ap, ap₂, ◌∙◌, subst}
use mathlib.Core.Bool.{Bool}
use mathlib.Core.List.{List, [], ◌++◌, append_assoc}
use Prim.Native.Nat.{ℕ, suc, ◌+◌, ◌-◌, ◌*◌, ◌/◌, ◌%◌, ◌^◌, ◌≤◌, ◌<◌}
use native.Mathlib.Nat.{mod-lt}
use native.Mathlib.Omega.{arith}
use lib.ListN.{length, take, drop, get_or, set, take-append-drop}
use lib.Seq.{length-take-le}
use lib.Pow.{pow_pos, pow-add, shr-shr}
use lib.Arith.{digits_lt}
use Rattle.fields.specs.Bits.{digits, row}
use Rattle.fields.specs.Field.{over}
use Rattle.fields.proofs.Numbers.{length_digits, digits_mod, digits_append, digits_joined}
use Rattle.fields.proofs.Rows.{length_row, row_set, row_here}
use Rattle.fields.proofs.Over.{over_part, over_all, over_over}

-- ---- the front of a byte

-- bits replaced there are replaced in the row
pub front_written
    : (l : List ℕ) (i x : ℕ) (new : List Bool) → digits 8 x ≡ over (digits 8 (get_or l i 0)) 0 new → length new ≤ 8 → i < length l
    → row (set l i x) ≡ over (row l) (8 * i) new
front_written l i x new e le h =
    let d : List Bool = digits 8 (get_or l i 0) in
    let p : List Bool = row (take i l) in
    let s : List Bool = row (drop (suc i) l) in
    let k : ℕ = length new in
    let old : List Bool = take k d in
    let rest : List Bool = drop k d in
    let lp : length p ≡ 8 * i = omega (arith, length_row (take i l), length-take-le i l (omega arith)) in
    let lo : length old ≡ k = length-take-le k d (omega (arith, length_digits 8 (get_or l i 0))) in
    let parts : d ≡ old ++ rest = sym (take-append-drop k d) in
    row_set l i x h
    ∙ ap (λ (t : List Bool). p ++ (t ++ s)) (e ∙ over_part d [] old new rest 0 parts refl lo)
    ∙ ap (λ (t : List Bool). p ++ t) (append_assoc new rest s)
    ∙ sym
    (over_part (row l) p old new (rest ++ s) (8 * i)
    (row_here l i h ∙ ap (λ (t : List Bool). p ++ (t ++ s)) parts ∙ ap (λ (t : List Bool). p ++ t) (append_assoc old rest s))
    lp lo)

-- a number whose first k bits are replaced
front_replaced : (b k r v : ℕ) → digits (k + r) (v * 2 ^ r + b % 2 ^ r) ≡ over (digits (k + r) b) 0 (digits k v)
front_replaced b k r v =
    digits_joined k r v b
    ∙ sym (over_part (digits (k + r) b) [] (digits k (b / 2 ^ r)) (digits k v) (digits r b) 0 (digits_append k r b) refl (simp length_digits))

module _ (b k v : ℕ) (hk : k ≤ 8) where
  eight : k + (8 - k) ≡ 8
  eight = omega arith

  pub front_digits : digits 8 (v * 2 ^ (8 - k) + b % 2 ^ (8 - k)) ≡ over (digits 8 b) 0 (digits k v)
  front_digits = rw eight at (front_replaced b k (8 - k) v)

  pub front_fits : v < 2 ^ k → v * 2 ^ (8 - k) + b % 2 ^ (8 - k) < 256
  front_fits hv =
      subst (λ (n : ℕ). v * 2 ^ (8 - k) + b % 2 ^ (8 - k) < 2 ^ n) eight
      (rw (pow-add 2 k (8 - k)) (digits_lt hv (mod-lt b (pow_pos (8 - k)))))

-- ---- whole bytes

byte_written : (l : List ℕ) (i x v : ℕ) → x ≡ v % 256 → i < length l → row (set l i x) ≡ over (row l) (8 * i) (digits 8 v)
byte_written l i x v e h =
    front_written l i x (digits 8 v)
    (ap (digits 8) e ∙ digits_mod 8 v ∙ sym (over_all (digits 8 (get_or l i 0)) (digits 8 v) (simp length_digits)))
    (omega (arith, length_digits 8 v)) h

-- n high bits of a number stand in l; with the next 8 in the byte i, n + 8 stand there
pub store_step
    : (l0 l : List ℕ) (place n left number i x : ℕ) → length l ≡ length l0 → row l ≡ over (row l0) place (digits n (number / 2 ^ (left + 8)))
    → 8 * i ≡ place + n → i < length l → x ≡ number / 2 ^ left % 256
    → row (set l i x) ≡ over (row l0) place (digits (n + 8) (number / 2 ^ left))
store_step l0 l place n left number i x len inv e h ex =
    let new : List Bool = digits 8 (number / 2 ^ left) in
    let d : List Bool = digits n (number / 2 ^ (left + 8)) in
    let ln : length new ≡ 8 = length_digits 8 (number / 2 ^ left) in
    let ld : length d ≡ n = length_digits n (number / 2 ^ (left + 8)) in
    byte_written l i x (number / 2 ^ left) ex h
    ∙ ap₂ (λ (r : List Bool) (p : ℕ). over r p new) inv e
    ∙ over_over (row l0) place d new (place + n) (omega arith) (omega (arith, length_row l0))
    ∙ ap (over (row l0) place)
    (ap (λ (y : ℕ). digits n y ++ new) (sym (shr-shr number left 8)) ∙ sym (digits_append n 8 (number / 2 ^ left)))
