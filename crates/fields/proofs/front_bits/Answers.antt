-- The shifts up, in a word, are one.
use Rattle.fields.proofs.Waiting.{front_word}
use Rattle.fields.proofs.front_bits.Goals as goal

pub returns : goal.returns
returns c = rw c.from.ensures (front_word c.args.byte c.args.count c.ranges.byte.fits c.requires)
