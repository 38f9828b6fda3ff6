-- The number is the bytes from `first` up to i.
use Rattle.std.proofs.Common.{◌≡◌, ◌-◌, ◌*◌}
use Rattle.fields.specs.Field.{field}
use Rattle.fields.proofs.gathered.Given as goal

abbrev pub invariant-loop-i : goal.invariant-loop-i
invariant-loop-i l = l.number ≡ field l.bytes (8 * l.first) (8 * (l.i - l.first))
