-- The place is where the next field lies.
use Rattle.std.proofs.Common.{refl, ◌∙◌, arith, length-set}
use Rattle.fields.specs.Record.{fields}
use Rattle.fields.proofs.Turns.{inside_at, taken_step, total_more}
use Rattle.fields.proofs.Take.take_six.Goals as goal

pub loop-i-init : goal.loop-i-init
unfolding fields
loop-i-init g c = record { stands = refl; sized = omega arith; taken = refl }

pub take-requires : goal.take-requires
take-requires g c =
    inside_at c.args.widths c.args.bytes.now c.loop-i.i 0 c.loop-i.place (omega arith) c.loop-i.invariant.stands c.requires

pub overflow_add-place : goal.overflow_add-place
overflow_add-place g c =
    record { fits = (inside_at c.args.widths c.args.bytes.now c.loop-i.i 0 c.loop-i.place (omega arith) c.loop-i.invariant.stands c.requires).2 }

pub loop-i-preserved : goal.loop-i-preserved
loop-i-preserved g c =
    let l = c.loop-i in
    let ws = c.args.widths in
    record {
      stands = omega (arith, total_more ws l.i (omega arith), l.invariant.stands);
      sized = length-set l.values l.i _ ∙ l.invariant.sized;
      taken =
          taken_step ws l.values c.args.bytes.now l.i 0 l.place c.take.result (omega arith) (omega (arith, l.invariant.sized))
          l.invariant.stands l.invariant.taken c.take.ensures;
    }
