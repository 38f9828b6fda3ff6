use Rattle.std.proofs.Common.{◌≡◌}
use Rattle.fields.specs.Field.{field}
use Rattle.baselines.proofs.ByBitsTake.take.Given as goal

abbrev pub invariant-loop-n : goal.invariant-loop-n
invariant-loop-n l = l.value ≡ field l.bytes l.place l.n
