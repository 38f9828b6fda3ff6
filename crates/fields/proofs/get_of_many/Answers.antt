-- The field lies inside eight bytes, or goes on in the ninth.
use Rattle.std.proofs.Common.{ℕ, ◌+◌, ◌-◌, ◌*◌, ◌/◌, ◌%◌, ◌^◌, ◌<◌, ap, ap₂, sym, subst, ◌∙◌, arith}
use native.Mathlib.Nat.{lt_of_lt_of_le}
use lib.Pow.{pow_mono}
use Rattle.fields.specs.Field.{field}
use Rattle.fields.proofs.Reading.{field_lt}
use Rattle.fields.proofs.Windows.{window_in, window_past}
use Rattle.fields.proofs.get_of_many.Goals as goal

pub returns-then-before-width-le64 : goal.returns-then-before-width-le64
returns-then-before-width-le64 c =
    let a = c.args in
    let i = c.window_start-first.result in
    ap (λ (x : ℕ). x * 2 ^ (a.place - 8 * i) % 2 ^ 64 / 2 ^ (64 - a.width)) c.eight-number.ensures
    ∙ window_in a.bytes.now (8 * i) 64 a.place a.width (a.place - 8 * i) (omega arith) (omega arith) (omega arith) (omega arith)

pub returns : goal.returns
returns c =
    let a = c.args in
    let i = c.window_start-first.result in
    let near : a.place < 8 * i + 8 = omega arith in
    ap₂ (λ (x y : ℕ). x * 2 ^ (a.place - 8 * i) % 2 ^ 64 / 2 ^ (64 - a.width) + y / 2 ^ (72 - (a.place - 8 * i) - a.width)) c.eight-number.ensures c.from.ensures
    ∙ window_past a.bytes.now i a.place a.width (omega arith) near (omega arith) (omega arith) (omega arith) (c.type_inv.bytes (i + 8)).fits

-- the sum is a field of at most 64 bits
pub overflow_add-result : goal.overflow_add-result
overflow_add-result c =
    let a = c.args in
    let below : field a.bytes.now a.place a.width < 2 ^ 64 =
    lt_of_lt_of_le (field_lt a.bytes.now a.place a.width (omega arith)) (pow_mono {i = a.width} {j = 64} (omega arith)) in
    record { fits = subst (λ (x : ℕ). x < 2 ^ 64) (sym (returns c)) below }
