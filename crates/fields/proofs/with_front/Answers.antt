-- Whatever the old bits are, the sum is a byte, and has the new bits before them.
use Rattle.std.proofs.Common.{◌∙◌, ap, ℕ, ◌-◌, ◌/◌, ◌^◌}
use Rattle.fields.specs.Bits.{digits}
use Rattle.fields.specs.Field.{over}
use Rattle.fields.proofs.Waiting.{byte_digits, byte_fits}
use Rattle.fields.proofs.with_front.Goals as goal

pub overflow_cast-result : goal.overflow_cast-result
overflow_cast-result c =
    record { fits = byte_fits c.args.word c.args.count c.from.result c.requires.0 c.requires.1 c.ranges.word.fits }

pub returns : goal.returns
returns c =
    byte_digits c.args.word c.args.count c.from.result c.requires.0 c.requires.1
    ∙ ap (λ (b : ℕ). over (digits 8 b) 0 (digits c.args.count (c.args.word / 2 ^ (64 - c.args.count)))) c.from.ensures
