use mathlib.Core.Bool.{cond}
use mathlib.Core.Path.{◌≡◌, sym, ap, ◌∙◌, subst}
use lib.Dec.{T}
use mir.Syntax.{w32, w64}
use mir.Val.{to_z, of_z}
use mir.ValLaws.{to_z-of_z}
use Rattle.clock.specs.Update.{has_rate}
use Rattle.clock.specs.declared.Flags.{Flags}
use Rattle.clock.proofs.Requests.{synthetic_in_range}
use Rattle.clock.proofs.NewLine.{set_drawn, kept_drawn, turned_drawn}
use borrow.Author.Rules.{rules}
use Rattle.clock.proofs.new_line.Goals as goal

pub returns-then-flags : goal.returns-then-flags
returns-then-flags c =
    let u = c.args.request in
    let old = c.args.old in
    let set = ap (λ (f : Flags). f.synthetic) (sym c.flags-flags.ensures) ∙ c.if-flags.true in
    let synthetic : to_z w64 (of_z w64 u.synthetic) ≡ u.synthetic = search rules in
    let old_rate : to_z w32 (of_z w32 old.rate) ≡ old.rate = search rules in
    let new_rate : to_z w32 (of_z w32 u.rate) ≡ u.rate = search rules in
    let back : to_z w32 (of_z w32 c.flagged_or.result) ≡ c.flagged_or.result = search rules in
    let new : to_z w32 (of_z w32 c.flagged_or.result) ≡ cond (has_rate u) u.rate old.rate = back ∙ c.flagged_or.ensures ∙ simp (c.flags-flags.ensures, old_rate, new_rate) in
    simp (to_z-of_z w64 _ c.ranges.point, synthetic, new, set)
    (set_drawn (has_rate u) old c.args.point u.synthetic u.rate (synthetic_in_range u c.requires.0 (subst T (sym set) tt)))

pub returns-then-flags-2 : goal.returns-then-flags-2
returns-then-flags-2 c =
    let u = c.args.request in
    let e = sym c.flags-flags.ensures in
    let new_rate : to_z w32 (of_z w32 u.rate) ≡ u.rate = search rules in
    c.turn.ensures
    ∙ simp (to_z-of_z w64 _ c.ranges.point, new_rate, ap (λ (f : Flags). f.synthetic) e ∙ c.if-flags.false, ap (λ (f : Flags). f.rate) e ∙ c.if-flags-2.true)
    (turned_drawn c.args.old c.args.point u.synthetic u.rate)

pub returns-else-flags-2 : goal.returns-else-flags-2
returns-else-flags-2 c =
    let u = c.args.request in
    let e = sym c.flags-flags.ensures in
    simp (ap (λ (f : Flags). f.synthetic) e ∙ c.if-flags.false, ap (λ (f : Flags). f.rate) e ∙ c.if-flags-2.false)
    (kept_drawn c.args.old c.args.point u.synthetic u.rate c.requires.1)
