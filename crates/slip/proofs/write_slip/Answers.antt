use Rattle.std.proofs.Common.{◌≡◌, ℕ, List, refl, sym, ap, ap₂, ◌∙◌, subst, rules}
use Rattle.clock.specs.declared.Request.{Request}
use Rattle.fields.specs.Bits.{row, Bytes}
use Rattle.fields.specs.Field.{over}
use Rattle.fields.specs.Record.{packed, AllInside}
use Rattle.slip.specs.Layout.{bare, layout}
use Rattle.slip.specs.Parts.{sizes}
use Rattle.slip.specs.declared.Sizes.{Sizes}
use Rattle.slip.proofs.Layouts.{layout_inside, sizes_alike}
use Rattle.slip.proofs.Writings.{slip_written}
use Rattle.slip.proofs.write_slip.Goals as goal

laid : (u v : Request) (s : Sizes) → s ≡ sizes (bare v.word) → v ≡ u → s.layout ≡ layout u
laid u v s e is = ap (λ (t : Sizes). t.layout) (e ∙ sizes_alike (bare v.word) v refl ∙ ap {B = Sizes} sizes is)

pub put_all-requires : goal.put_all-requires
put_all-requires c =
    let u = c.args.slip in
    let l = c.args.buffer.now in
    let is = laid u c.slip.inside.request c.sizes_of-sizes.result c.sizes_of-sizes.ensures c.slip.view_is in
    subst (AllInside l 0) (sym (c.packed_of-packed.ensures.widths ∙ is)) (layout_inside u l c.requires)

pub returns : goal.returns
returns c =
    let u = c.args.slip in
    let old = c.args.buffer.now in
    let is = laid u c.slip.inside.request c.sizes_of-sizes.result c.sizes_of-sizes.ensures c.slip.view_is in
    let before : Bytes old = λ i. search rules in
    slip_written u old c.put_all.new.buf before (λ i. (c.type_inv.buffer i).fits) c.requires
    (c.put_all.ensures
    ∙ ap₂ (λ (l v : List ℕ). over (row old) 0 (packed l v)) (c.packed_of-packed.ensures.widths ∙ is)
    (c.packed_of-packed.ensures.values ∙ c.values_of-values.ensures))
