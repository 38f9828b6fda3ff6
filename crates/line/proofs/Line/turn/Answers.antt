use mathlib.Core.Logic.{◌⊎◌, inl, inr}
use mathlib.Core.Path.{◌≡◌, sym, ap, ◌∙◌}
use Prim.Native.Nat.{ℕ}
use lib.IntN.{ℤ, pos}
use mir.Syntax.{w32, w64}
use mir.Val.{to_z, of_z}
use mir.ValLaws.{to_z-of_z}
use Rattle.std.specs.Prelude.{None}
use Rattle.line.specs.Numbers.{million, floor_div}
use Rattle.line.specs.Line.{value_at, remainder_at, turned}
use Rattle.line.specs.Value.{placed, held}
use Rattle.line.specs.Parts.{IsLine, exact_of}
use Rattle.line.specs.declared.Line.{Line}
use Rattle.line.specs.declared.numbers.Numbers.{Numbers}
use Rattle.line.specs.declared.Value.{Value}
use Rattle.line.specs.declared.Value.TheVariants.{Below, Above}
use Rattle.line.proofs.Casts.{cast_is}
use Rattle.line.proofs.Placed.{line_of, line_of_lem}
use Rattle.line.proofs.FourAnswers.{exact_value, exact_remainder}
use borrow.Author.Rules.{rules}
use Rattle.line.proofs.Line.turn.Goals as goal

module _ (old : Line) (P a : ℤ) (numbers : Numbers) {at : ℕ} (is : IsLine old numbers) (at_is : pos at ≡ P) where
  -- what `Numbers::value_at` answered, as the caller is told
  told : {v : Value} → v ≡ placed (floor_div (exact_of numbers at) million) →
      line_of P (remainder_at old P) a v ≡ held (turned old P a)
  unfolding turned
  told e =
      let rem = remainder_at old P in
      ap (line_of P rem a) (e ∙ ap placed (exact_value old numbers is P at_is)) ∙ line_of_lem P rem a (value_at old P)

  none_told : {v : Value} → (v ≡ Below) ⊎ (v ≡ Above) → v ≡ placed (floor_div (exact_of numbers at) million) →
      None ≡ held (turned old P a)
  none_told (inl e) f = told (sym e ∙ f)
  none_told (inr e) f = told (sym e ∙ f)

pub returns-in-Below : goal.returns-in-Below
returns-in-Below c =
    none_told c.args.self c.args.point c.args.rate c.of-numbers.result c.of-numbers.ensures
    (cast_is c.ranges.point c.requires.time) c.in-Below.is c.value_at.ensures

pub returns-in-Within : goal.returns-in-Within
returns-in-Within c =
    let P = c.args.point in
    let a = c.args.rate in
    let x = c.in-Within.value in
    let at_is = cast_is c.ranges.point c.requires.time in
    let back : to_z w64 (of_z w64 x) ≡ x = search rules in
    let rem = c.remainder_at.ensures ∙ exact_remainder c.args.self c.of-numbers.result c.of-numbers.ensures P at_is in
    simp (rem, to_z-of_z w64 P c.ranges.point, to_z-of_z w32 a c.ranges.rate, back)
    (told c.args.self P a c.of-numbers.result c.of-numbers.ensures at_is (sym c.in-Within.is ∙ c.value_at.ensures))
