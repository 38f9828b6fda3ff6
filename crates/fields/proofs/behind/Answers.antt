-- Behind the bits of the word there is room for as many as it lacks.
use native.Mathlib.Nat.{mod-lt}
use lib.Pow.{pow_pos}
use Rattle.fields.proofs.Waiting.{sum_fits}
use Rattle.fields.proofs.behind.Goals as goal

pub overflow_add-result : goal.overflow_add-result
overflow_add-result c =
    record { fits = sum_fits c.args.word c.args.count _ c.ranges.word.fits c.requires.0 c.requires.1 (mod-lt _ (pow_pos 64)) }
