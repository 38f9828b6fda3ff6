-- The first of the fields are written or wait.
use Rattle.std.proofs.Common.{take}
use Rattle.fields.specs.Bits.{row}
use Rattle.fields.specs.Field.{over}
use Rattle.fields.specs.Record.{total, packed, widths_in, values_in}
use Rattle.fields.specs.Pending.{Together}
use Rattle.fields.proofs.put_all.Given as goal

abbrev pub invariant-loop-field : goal.invariant-loop-field
invariant-loop-field l =
    let ws = take l.field-index (widths_in l.fields) in
    let vs = take l.field-index (values_in l.fields) in
    Together l.buf l.pending (over (row l.fn.buf) 0 (packed ws vs)) (total ws)
