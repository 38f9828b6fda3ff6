-- Reading one field: its bound, its bits and its parts.
use mathlib.Core.Path.{◌≡◌, refl, sym, ap, ap₂, ◌∙◌, subst}
use mathlib.Core.Bool.{Bool}
use mathlib.Core.List.{List, ◌++◌}
use Prim.Native.Nat.{ℕ, ◌+◌, ◌*◌, ◌/◌, ◌%◌, ◌^◌, ◌≤◌, ◌<◌}
use native.Mathlib.Nat.{mod-eq_of_lt}
use native.Mathlib.Omega.{arith}
use lib.ListN.{length, take, drop, get_or, length-drop}
use lib.Seq.{take-add, drop-drop, take_at, drop_at, take-append-le, drop-append-le, length-take-le}
use Rattle.fields.specs.Bits.{number, digits, row}
use Rattle.fields.specs.Field.{field}
use Rattle.fields.proofs.Numbers.{length_digits, number_append, number_lt, number_digits, digits_number}
use Rattle.fields.proofs.Rows.{length_row, row_append, row_byte}

pub field_lt : (l : List ℕ) (place w : ℕ) → place + w ≤ 8 * length l → field l place w < 2 ^ w
unfolding field
field_lt l place w h =
    subst (λ (e : ℕ). number (take w (drop place (row l))) < 2 ^ e)
    (length-take-le w (drop place (row l)) (omega (arith, length-drop place (row l), length_row l)))
    (number_lt (take w (drop place (row l))))

pub field_none : (l : List ℕ) (place : ℕ) → field l place 0 ≡ 0
unfolding field number
field_none l place = refl

-- a field's bits, as they stand in the row
pub digits_field : (l : List ℕ) (place w : ℕ) → place + w ≤ 8 * length l → digits w (field l place w) ≡ take w (drop place (row l))
unfolding field
digits_field l place w h =
    let r : List Bool = take w (drop place (row l)) in
    let e : length r ≡ w = length-take-le w (drop place (row l)) (omega (arith, length-drop place (row l), length_row l)) in
    ap (λ (n : ℕ). digits n (number r)) (sym e) ∙ digits_number r

-- a field whose bits are known
pub field_there
    : (l : List ℕ) (place w v : ℕ) (before after : List Bool) → row l ≡ before ++ (digits w v ++ after) → length before ≡ place → v < 2 ^ w
    → field l place w ≡ v
unfolding field
field_there l place w v before after e len h =
    ap (λ (r : List Bool). number (take w (drop place r))) e
    ∙ ap (λ (r : List Bool). number (take w r)) (drop_at before (digits w v ++ after) place len)
    ∙ ap number (take_at (digits w v) after w (length_digits w v))
    ∙ number_digits w v
    ∙ mod-eq_of_lt h

-- bytes behind those that it lies in do not count
pub field_ahead : (l more : List ℕ) (place w : ℕ) → place + w ≤ 8 * length l → field (l ++ more) place w ≡ field l place w
unfolding field
field_ahead l more place w h =
    ap (λ (r : List Bool). number (take w (drop place r))) (row_append l more)
    ∙ ap (λ (r : List Bool). number (take w r)) (drop-append-le place (row l) (row more) (omega (arith, length_row l)))
    ∙ ap number (take-append-le w (drop place (row l)) (row more) (omega (arith, length-drop place (row l), length_row l)))

-- a field, as a shorter one and what follows it
pub field_more : (l : List ℕ) (place n k : ℕ) → place + (n + k) ≤ 8 * length l → field l place (n + k) ≡ field l place n * 2 ^ k + field l (place + n) k
unfolding field
field_more l place n k h =
    ap number (take-add n k (drop place (row l)))
    ∙ number_append (take n (drop place (row l))) (take k (drop n (drop place (row l))))
    ∙ ap₂ (λ (e : ℕ) (t : List Bool). number (take n (drop place (row l))) * 2 ^ e + number (take k t))
    (length-take-le k (drop n (drop place (row l))) (omega (arith, length-drop n (drop place (row l)), length-drop place (row l), length_row l)))
    (drop-drop n place (row l))

-- a field that lies in one byte, with o bits before it and r after
pub field_byte : (l : List ℕ) (i o k r : ℕ) → i < length l → o + (k + r) ≡ 8 → field l (8 * i + o) k ≡ get_or l i 0 / 2 ^ r % 2 ^ k
unfolding field
field_byte l i o k r h e = ap number (row_byte l i o k r h e) ∙ number_digits k (get_or l i 0 / 2 ^ r)
