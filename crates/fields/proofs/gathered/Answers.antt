-- One byte more. What was taken fits 56 bits, so there is room for it.
use Rattle.std.proofs.Common.{◌≡◌, List, ℕ, ◌+◌, ◌-◌, ◌*◌, ◌^◌, ◌≤◌, ◌<◌, length, ap, sym, ◌∙◌, arith}
use native.Mathlib.Nat.{lt_of_lt_of_le}
use lib.Pow.{pow_mono}
use Rattle.fields.specs.Field.{field}
use Rattle.fields.proofs.Reading.{field_lt, field_none}
use Rattle.fields.proofs.Windows.{field_next}
use Rattle.fields.proofs.gathered.Goals as goal

short : (l : List ℕ) (first i n : ℕ) → first ≤ i → n ≡ field l (8 * first) (8 * (i - first)) → i < length l → length l ≤ first + 8 → n < 2 ^ 56
short l first i n begun e h few =
    rw e
    (lt_of_lt_of_le (field_lt l (8 * first) (8 * (i - first)) (omega arith)) (pow_mono {i = 8 * (i - first)} {j = 56} (omega arith)))

pub loop-i-init : goal.loop-i-init
loop-i-init c =
    let a = c.args in
    let none : 0 ≡ 8 * (a.first - a.first) = omega arith in
    sym (field_none a.bytes.now (8 * a.first)) ∙ ap (field a.bytes.now (8 * a.first)) none

pub overflow_mul-number : goal.overflow_mul-number
overflow_mul-number c =
    let a = c.args in
    let l = c.loop-i in
    let room : l.number < 2 ^ 56 = short a.bytes.now a.first l.i l.number (omega arith) l.invariant (omega arith) (omega arith) in
    record { fits = omega arith }

pub overflow_add-number : goal.overflow_add-number
overflow_add-number c =
    let a = c.args in
    let l = c.loop-i in
    let room : l.number < 2 ^ 56 = short a.bytes.now a.first l.i l.number (omega arith) l.invariant (omega arith) (omega arith) in
    record { fits = omega (arith, c.from.ensures, (c.type_inv.bytes l.i).fits) }

pub loop-i-preserved : goal.loop-i-preserved
loop-i-preserved c =
    let a = c.args in
    let l = c.loop-i in
    let more : 8 * (l.i - a.first + 1) ≡ 8 * (l.i + 1 - a.first) = omega arith in
    ap (λ (b : ℕ). l.number * 256 + b) c.from.ensures
    ∙ field_next a.bytes.now a.first l.i (l.i - a.first) l.number l.invariant (omega arith) (omega arith) (c.type_inv.bytes l.i).fits
    ∙ ap (field a.bytes.now (8 * a.first)) more
