-- One field more waits or is written, and its place is where the ones before end.
use Rattle.std.proofs.Common.{◌≡◌, ℕ, ◌+◌, ◌<◌, List, length, get_or, refl, sym, ap₂, ◌∙◌, arith}
use Rattle.std.proofs.lemmas.List.{length-map}
use lib.ListN.{get_or-map}
use Rattle.fields.specs.Bits.{digits, row}
use Rattle.fields.specs.Field.{over}
use Rattle.fields.specs.Record.{widths_in, values_in}
use Rattle.fields.specs.Pending.{reach, merged}
use Rattle.fields.specs.declared.Packed.{Packed}
use Rattle.fields.proofs.Rows.{length_row}
use Rattle.fields.proofs.Waiting.{reach_waiting, nothing_waits}
use Rattle.fields.proofs.Turns.{total_more, total_le, narrow_at, packed_none, put_all_step}
use Rattle.fields.proofs.put_all.Goals as goal

one_width : (fs : List Packed) → length (widths_in fs) ≡ length fs
one_width fs = length-map fs _

one_value : (fs : List Packed) → length (values_in fs) ≡ length fs
one_value fs = length-map fs _

width_at : (fs : List Packed) (i : ℕ) → get_or (widths_in fs) i 0 ≡ (get_or fs i (record { width = 0; value = 0 })).width
width_at fs i = get_or-map (λ (f : Packed). f.width) fs i (record { width = 0; value = 0 })

value_at : (fs : List Packed) (i : ℕ) → get_or (values_in fs) i 0 ≡ (get_or fs i (record { width = 0; value = 0 })).value
value_at fs i = get_or-map (λ (f : Packed). f.value) fs i (record { width = 0; value = 0 })

pub loop-field-init : goal.loop-field-init
loop-field-init c =
    let a = c.args in
    record {
      reached = reach_waiting 0 0 0;
      merges =
          nothing_waits a.buf.now 0 0 0 refl
          ∙ packed_none (widths_in a.fields.now) (values_in a.fields.now) (row a.buf.now);
    }

pub add-pending-requires : goal.add-pending-requires
add-pending-requires c =
    let fs = c.args.fields.now in
    let ws = widths_in fs in
    let i = c.loop-field.field-index in
    let t = c.loop-field.invariant in
    let here : i < length ws = omega (arith, one_width fs) in (
      omega (arith, t.reached, width_at fs i, total_more ws i here, total_le ws (i + 1), c.requires.0),
      omega (arith, width_at fs i, narrow_at ws i c.requires.1),
    )

pub loop-field-preserved : goal.loop-field-preserved
loop-field-preserved c =
    let fs = c.args.fields.now in
    let ws = widths_in fs in
    let vs = values_in fs in
    let l = c.loop-field in
    let i = l.field-index in
    let n = c.add-pending in
    let here : i < length ws = omega (arith, one_width fs) in
    let there : i < length vs = omega (arith, one_value fs) in
    record {
      reached = n.ensures.reached ∙ omega (arith, l.invariant.reached, width_at fs i, total_more ws i here);
      merges =
          put_all_step (row c.args.buf.now) (merged l.buf l.pending) (merged n.new.buf n.result) ws vs i (reach l.pending)
          here there l.invariant.reached (omega (arith, length_row c.args.buf.now, c.requires.0)) l.invariant.merges
          (n.ensures.merges
          ∙ ap₂ (λ (w v : ℕ). over (merged l.buf l.pending) (reach l.pending) (digits w v)) (sym (width_at fs i)) (sym (value_at fs i)));
    }
