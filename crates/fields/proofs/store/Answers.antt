-- One byte more: what stands there then are eight bits more of the number.
use Rattle.std.proofs.Common.{◌≡◌, ℕ, ◌+◌, ◌-◌, ◌*◌, ◌/◌, ◌^◌, ap, ap₂, refl, sym, ◌∙◌, arith}
use Rattle.fields.specs.Bits.{digits, row}
use Rattle.fields.specs.Field.{over}
use Rattle.fields.proofs.Over.{over_no_digits}
use Rattle.fields.proofs.Writing.{store_step}
use Rattle.fields.proofs.store.Goals as goal

pub loop-i-init : goal.loop-i-init
loop-i-init c =
    let a = c.args in
    sym (over_no_digits (row a.buf.now) (8 * a.first) 0 (a.number / 2 ^ (8 * (a.bytes - 0))) refl)

pub loop-i-preserved : goal.loop-i-preserved
loop-i-preserved c =
    let a = c.args in
    let l = c.loop-i in
    let left : ℕ = 8 * (a.bytes - 1 - l.i) in
    let one_less : 8 * (a.bytes - l.i) ≡ left + 8 = omega arith in
    let more : 8 * l.i + 8 ≡ 8 * (l.i + 1) = omega arith in
    let rest : left ≡ 8 * (a.bytes - (l.i + 1)) = omega arith in
    store_step a.buf.now l.buf (8 * a.first) (8 * l.i) left a.number (a.first + l.i) c.low_byte-x.result (omega arith)
    (l.invariant ∙ ap (λ (k : ℕ). over (row a.buf.now) (8 * a.first) (digits (8 * l.i) (a.number / 2 ^ k))) one_less)
    (omega arith) (omega arith) c.low_byte-x.ensures
    ∙ ap₂ (λ (n k : ℕ). over (row a.buf.now) (8 * a.first) (digits n (a.number / 2 ^ k))) more rest
