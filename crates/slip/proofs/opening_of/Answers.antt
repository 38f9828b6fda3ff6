use Rattle.std.proofs.Common.{arith}
use Rattle.std.proofs.lemmas.Grind.{common_steps}
use Rattle.tables.specs.Refusals.{refused_if}
use Rattle.fields.proofs.Reading.{field_lt}
use Rattle.slip.specs.Layout.{header_width}
use Rattle.slip.proofs.opening_of.Goals as goal

pub overflow_mul-take : goal.overflow_mul-take
unfolding refused_if
overflow_mul-take g c = grind (arith, common_steps, field_lt c.args.bytes.now 0 header_width)
