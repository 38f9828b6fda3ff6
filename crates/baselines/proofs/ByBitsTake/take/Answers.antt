use mathlib.Core.Path.{◌≡◌, sym, ap, ◌∙◌}
use mathlib.Core.List.{List}
use Prim.Native.Nat.{ℕ, ◌+◌, ◌-◌, ◌*◌, ◌/◌, ◌%◌, ◌^◌, ◌≤◌, ◌<◌}
use native.Mathlib.Nat.{lt_of_lt_of_le}
use native.Mathlib.Omega.{arith}
use lib.ListN.{length, get_or}
use lib.Pow.{pow_mono}
use Rattle.fields.specs.Field.{field}
use Rattle.fields.proofs.Reading.{field_lt, field_none, field_more, field_byte}
use Rattle.baselines.proofs.ByBitsTake.take.Goals as goal

-- a bit more, out of the byte that has bit place + n
field_bit
    : (l : List ℕ) (place n : ℕ) → place + (n + 1) ≤ 8 * length l
    → field l place (n + 1) ≡ field l place n * 2 + get_or l ((place + n) / 8) 0 / 2 ^ (7 - (place + n) % 8) % 2
field_bit l place n h =
    field_more l place n 1 h
    ∙ ap (λ (p : ℕ). field l place n * 2 + field l p 1) (omega arith)
    ∙ ap (λ (v : ℕ). field l place n * 2 + v)
    (field_byte l ((place + n) / 8) ((place + n) % 8) 1 (7 - (place + n) % 8) (omega arith) (omega arith))

-- what was taken so far is short enough for one more bit
short : (l : List ℕ) (place n : ℕ) {value : ℕ} → n ≤ 63 → place + n ≤ 8 * length l → value ≡ field l place n → value < 2 ^ 63
short l place n h k e = rw e (lt_of_lt_of_le (field_lt l place n k) (pow_mono {i = n} {j = 63} h))

pub loop-n-init : goal.loop-n-init
loop-n-init c = sym (field_none c.args.bytes.now c.args.place)

pub overflow_mul-value : goal.overflow_mul-value
overflow_mul-value c =
    omega (arith, short c.args.bytes.now c.args.place c.loop-n.n (omega arith) (omega arith) c.loop-n.invariant)

pub overflow_add-value : goal.overflow_add-value
overflow_add-value c =
    omega (arith, short c.args.bytes.now c.args.place c.loop-n.n (omega arith) (omega arith) c.loop-n.invariant, c.bit_of.ensures)

pub loop-n-preserved : goal.loop-n-preserved
loop-n-preserved c =
    rw (c.bit_of.ensures, c.loop-n.invariant) (sym (field_bit c.args.bytes.now c.args.place c.loop-n.n (omega arith)))
