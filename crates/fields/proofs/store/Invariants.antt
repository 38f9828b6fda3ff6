-- After i turns the first i of the bytes stand in the row.
use Rattle.std.proofs.Common.{◌≡◌, ◌-◌, ◌*◌, ◌/◌, ◌^◌}
use Rattle.fields.specs.Bits.{digits, row}
use Rattle.fields.specs.Field.{over}
use Rattle.fields.proofs.store.Given as goal

abbrev pub invariant-loop-i : goal.invariant-loop-i
invariant-loop-i l = row l.buf ≡ over (row l.fn.buf) (8 * l.first) (digits (8 * l.i) (l.number / 2 ^ (8 * (l.bytes - l.i))))
