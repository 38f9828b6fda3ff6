use mathlib.Core.Path.{◌≡◌}
use native.Mathlib.Omega.{arith}
use lib.IntN.{pos, neg_ℤ, ◌-ℤ◌}
use mir.Syntax.{w32, w64}
use mir.Val.{to_z, of_z}
use mir.ValLaws.{to_z-of_z}
use Rattle.std.proofs.lemmas.Int.{ints}
use Rattle.line.specs.Numbers.{outside}
use Rattle.line.specs.Line.{bounded}
use borrow.Author.Rules.{rules}
use Rattle.line.proofs.Line.is_bounded.Goals as goal

pub returns : goal.returns
unfolding bounded outside
returns c =
    let l = c.args.self in
    let reference : to_z w64 (of_z w64 l.reference) ≡ l.reference = search rules in
    let synthetic : to_z w64 (of_z w64 l.synthetic) ≡ l.synthetic = search rules in
    let rate : to_z w32 (of_z w32 l.rate) ≡ l.rate = search rules in
    let lowest : to_z w32 (of_z w32 (pos 0 -ℤ c.args.widest)) ≡ neg_ℤ c.args.widest = omega (arith, ints) in
    simp (c.from.ensures, reference, synthetic, rate, lowest, to_z-of_z w64 _ c.ranges.«end», to_z-of_z w32 _ c.ranges.widest)
