-- The reader stands where the next field lies, and moves on to where it ends.
use Rattle.std.proofs.Common.{get_or, add-zero, ap, refl, sym, ◌∙◌, arith, length-set}
use lib.ListN.{length-replicate}
use Rattle.fields.specs.Field.{field}
use Rattle.fields.specs.Reader.{reader_at, moved_on}
use Rattle.fields.specs.declared.Reader.{Reader}
use Rattle.fields.specs.Record.{fields}
use Rattle.fields.proofs.Turns.{inside_at, taken_step, total_more}
use Rattle.fields.proofs.Reader.fields.Goals as goal

pub loop-i-init : goal.loop-i-init
unfolding fields
loop-i-init g c = record {
  stands = ap (reader_at c.args.self.src) (sym (add-zero c.args.self.place));
  sized = length-replicate g.row.N 0 ∙ omega arith;
  taken = refl;
}

pub field-requires : goal.field-requires
field-requires g c =
    rw c.loop-i.invariant.stands (inside_at c.args.widths c.args.self.src.now c.loop-i.i c.args.self.place _ (omega arith) refl c.requires)

pub past-reader-requires : goal.past-reader-requires
past-reader-requires g c =
    rw c.loop-i.invariant.stands (inside_at c.args.widths c.args.self.src.now c.loop-i.i c.args.self.place _ (omega arith) refl c.requires).2

pub loop-i-preserved : goal.loop-i-preserved
loop-i-preserved g c =
    let l = c.loop-i in
    let ws = c.args.widths in
    let start = c.args.self.place in
    record {
      stands =
          c.past-reader.ensures
          ∙ ap (λ (r : Reader). moved_on r (get_or ws l.i 0)) l.invariant.stands
          ∙ ap (reader_at c.args.self.src) (omega (arith, total_more ws l.i (omega arith)));
      sized = length-set l.values l.i _ ∙ l.invariant.sized;
      taken =
          taken_step ws l.values c.args.self.src.now l.i start _ c.field.result (omega arith) (omega (arith, l.invariant.sized)) refl l.invariant.taken
          (c.field.ensures ∙ ap (λ (r : Reader). field r.src.now r.place (get_or ws l.i 0)) l.invariant.stands);
    }
