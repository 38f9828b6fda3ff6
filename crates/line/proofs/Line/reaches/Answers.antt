use mathlib.Core.Path.{◌≡◌, ◌∙◌, subst⁻¹}
use mathlib.Core.Bool.{true, ◌&&◌}
use lib.Signed.{le_z}
use lib.Dec.{T}
use mir.Facts.{and_yes}
use mir.Syntax.{w64}
use mir.Val.{to_z, of_z}
use mir.ValLaws.{to_z-of_z}
use native.Mathlib.Omega.{arith}
use Rattle.std.proofs.lemmas.Int.{ints}
use Rattle.line.specs.Line.{value_at, reaches}
use Rattle.line.proofs.Placed.{reached_law}
use Rattle.line.proofs.Laws.{reaches_early}
use borrow.Author.Rules.{rules}
use Rattle.line.proofs.Line.reaches.Goals as goal

pub returns-then-reference-t : goal.returns-then-reference-t
unfolding reaches
returns-then-reference-t c =
    let l = c.args.self in
    let t = c.args.t in
    let b = c.args.bound in
    let reference : to_z w64 (of_z w64 l.reference) ≡ l.reference = search rules in
    let synthetic : to_z w64 (of_z w64 l.synthetic) ≡ l.synthetic = search rules in
    let passed : (le_z l.reference t && le_z b l.synthetic) ≡ true =
    simp (reference, synthetic, to_z-of_z w64 t c.ranges.t, to_z-of_z w64 b c.ranges.bound) at c.if-reference-t.true in
    let both = and_yes (le_z l.reference t) (le_z b l.synthetic) (subst⁻¹ T passed tt) in
    omega (arith, ints, reaches_early l t b c.requires.computable.rate both.0 both.1)

pub returns-else-reference-t : goal.returns-else-reference-t
unfolding reaches
returns-else-reference-t c =
    c.le.ensures
    ∙ simp (to_z-of_z w64 _ c.ranges.bound, c.value_at.ensures, to_z-of_z w64 _ c.ranges.t)
    (reached_law (value_at c.args.self c.args.t) c.args.bound c.requires.bound)
