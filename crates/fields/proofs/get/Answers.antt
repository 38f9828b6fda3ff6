-- A field of no bits is 0.
use Rattle.std.proofs.Common.{ap, sym, ◌∙◌, arith}
use Rattle.fields.specs.Field.{field}
use Rattle.fields.proofs.Reading.{field_none}
use Rattle.fields.proofs.get.Goals as goal

pub returns-then-width-eq0 : goal.returns-then-width-eq0
returns-then-width-eq0 c =
    let a = c.args in
    sym (field_none a.bytes.now a.place) ∙ ap (field a.bytes.now a.place) (omega arith)
