-- The first i of the values are taken, and the reader stands behind them.
use Rattle.std.proofs.Common.{◌≡◌, ◌+◌, length, take}
use Rattle.fields.specs.Record.{total, fields}
use Rattle.fields.specs.Reader.{reader_at}
use Rattle.fields.proofs.Reader.fields.Given as goal

abbrev pub invariant-loop-i : goal.invariant-loop-i
invariant-loop-i g l = record {
  stands : l.reader ≡ reader_at l.fn.self.src (l.fn.self.place + total (take l.i l.fn.widths));
  sized : length l.values ≡ length l.fn.widths;
  taken : take l.i l.values ≡ fields l.fn.self.src.now l.fn.self.place (take l.i l.fn.widths);
}
