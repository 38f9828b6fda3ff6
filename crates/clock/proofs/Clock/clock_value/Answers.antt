use mathlib.Core.Path.{◌≡◌, sym}
use mir.Syntax.{w64}
use mir.Val.{to_z, of_z}
use mir.ValLaws.{to_z-of_z}
use Rattle.line.proofs.Placed.{placed_in}
use Rattle.clock.specs.Reading.{clock_value}
use Rattle.clock.proofs.Ranges.{range_storable}
use borrow.Author.Tests.{ne_eqb}
use borrow.Author.Rules.{rules}
use Rattle.clock.proofs.Clock.clock_value.Goals as goal

pub returns-then-self-eq1 : goal.returns-then-self-eq1
unfolding clock_value
returns-then-self-eq1 c = simp (to_z-of_z w64 _ c.ranges.now, c.if-self-eq1.true, c.value_at.ensures)

pub returns-else-self-eq1 : goal.returns-else-self-eq1
unfolding clock_value
returns-else-self-eq1 c =
    let self = c.args.self in
    let backstop : to_z w64 (of_z w64 self.backstop) ≡ self.backstop = search rules in
    simp (backstop, ne_eqb self.started 1 c.if-self-eq1.false) (sym (placed_in self.backstop (range_storable c.requires.0.backstop)))
