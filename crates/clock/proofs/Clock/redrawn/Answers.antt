use mathlib.Core.Path.{◌≡◌, sym, ◌∙◌, subst}
use mir.Syntax.{w64}
use mir.Val.{to_z, of_z}
use mir.ValLaws.{to_z-of_z}
use Rattle.clock.specs.Clock.{InRange, Drawable}
use Rattle.clock.specs.Update.{point}
use Rattle.clock.proofs.Requests.{old_drawable}
use Rattle.clock.proofs.Redrawn.{point_is, known, valid, at_point, drawn_is}
use borrow.Author.Rules.{rules}
use Rattle.clock.proofs.Clock.redrawn.Goals as goal

pub new_line-requires : goal.new_line-requires
new_line-requires c =
    let self = c.args.self in
    let u = c.args.request in
    let now = c.args.now in
    let reference : to_z w64 (of_z w64 u.reference) ≡ u.reference = search rules in
    let back : to_z w64 (of_z w64 c.flagged_or-point.result) ≡ c.flagged_or-point.result = search rules in
    let at : to_z w64 (of_z w64 c.flagged_or-point.result) ≡ point u now =
    point_is u c.flags-flags.ensures reference (to_z-of_z w64 now c.ranges.now) (back ∙ c.flagged_or-point.ensures) in (
      (known self u now c.requires).values,
      subst Drawable (sym c.old_line.ensures) (old_drawable self (valid self u now c.requires)),
      subst InRange (sym at) (at_point self u now c.requires),
    )

pub returns : goal.returns
returns c =
    let self = c.args.self in
    let u = c.args.request in
    let now = c.args.now in
    let reference : to_z w64 (of_z w64 u.reference) ≡ u.reference = search rules in
    let back : to_z w64 (of_z w64 c.flagged_or-point.result) ≡ c.flagged_or-point.result = search rules in
    let at : to_z w64 (of_z w64 c.flagged_or-point.result) ≡ point u now =
    point_is u c.flags-flags.ensures reference (to_z-of_z w64 now c.ranges.now) (back ∙ c.flagged_or-point.ensures) in
    drawn_is self u now c.requires c.old_line.ensures at c.new_line.ensures
