-- The bits before the field wait in front of it, and all is as it was but for the field.
use Rattle.std.proofs.Common.{◌≡◌, List, Bool, ℕ, ◌+◌, ◌*◌, ◌/◌, ◌%◌, ap₂, sym, ◌∙◌, arith}
use Rattle.fields.specs.Bits.{digits, row}
use Rattle.fields.specs.Field.{over}
use Rattle.fields.proofs.Over.{over_no_digits}
use Rattle.fields.proofs.Waiting.{reach_waiting, front_waits}
use Rattle.fields.proofs.put.Goals as goal

pub returns-then-width-eq0 : goal.returns-then-width-eq0
returns-then-width-eq0 c =
    let a = c.args in
    sym (over_no_digits (row a.buf.now) a.place a.width a.value (omega arith))

pub add-pending-requires : goal.add-pending-requires
add-pending-requires c =
    let a = c.args in
    (omega (arith, reach_waiting c.front_bits-word.result (a.place % 8) (a.place / 8)), omega arith)

pub finish-requires : goal.finish-requires
finish-requires c =
    let a = c.args in
    omega (arith, c.add-pending.ensures.reached, reach_waiting c.front_bits-word.result (a.place % 8) (a.place / 8))

pub returns : goal.returns
returns c =
    let a = c.args in
    let word = c.front_bits-word.result in
    let place : 8 * (a.place / 8) + a.place % 8 ≡ a.place = omega arith in
    c.finish.ensures
    ∙ c.add-pending.ensures.merges
    ∙ ap₂ (λ (r : List Bool) (p : ℕ). over r p (digits a.width a.value))
    (front_waits a.buf.now (a.place / 8) (a.place % 8) word (omega arith) (omega arith) c.front_bits-word.ensures)
    (reach_waiting word (a.place % 8) (a.place / 8) ∙ place)
