-- The first i of the values are taken, and the place is where they end.
use Rattle.std.proofs.Common.{◌≡◌, ◌+◌, length, take}
use Rattle.fields.specs.Record.{total, fields}
use Rattle.fields.proofs.Take.take_six.Given as goal

abbrev pub invariant-loop-i : goal.invariant-loop-i
invariant-loop-i g l = record {
  stands : l.place ≡ 0 + total (take l.i l.fn.widths);
  sized : length l.values ≡ length l.fn.widths;
  taken : take l.i l.values ≡ fields l.fn.bytes 0 (take l.i l.fn.widths);
}
