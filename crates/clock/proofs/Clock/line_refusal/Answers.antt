use mathlib.Core.Path.{◌≡◌, sym, ◌∙◌, subst}
use mir.Syntax.{w64}
use mir.Val.{to_z, of_z}
use mir.ValLaws.{to_z-of_z}
use Rattle.std.specs.Prelude.{Err}
use Rattle.tables.specs.declared.Refusal.TheVariants.{LineOutside, BelowBackstop, MonotonicBack}
use Rattle.tables.proofs.Refusals.{walk_first, past, stopped, last_row}
use Rattle.line.specs.Line.{value_at, Computable}
use Rattle.line.specs.Value.{placed, is_under}
use Rattle.line.proofs.Placed.{under_is, over_is}
use Rattle.clock.proofs.Ranges.{computable}
use Rattle.clock.proofs.Requests.{old_drawable}
use Rattle.clock.proofs.NewLine.{judged_table, judged_first}
use borrow.Author.Rules.{rules}
use Rattle.clock.proofs.Clock.line_refusal.Goals as goal

pub value_at-old_value-requires-clause-computable : goal.value_at-old_value-requires-clause-computable
value_at-old_value-requires-clause-computable c =
    subst Computable (sym c.requires.before) (computable (old_drawable c.args.self c.requires.clock))

pub returns-in_err-refuse_if : goal.returns-in_err-refuse_if
returns-in_err-refuse_if c =
    let self = c.args.self in
    let now = to_z-of_z w64 _ c.ranges.now in
    let new : c.value_at-new_value.result ≡ placed (value_at c.args.line c.args.now) = c.value_at-new_value.ensures ∙ simp now in
    let back : c.from_residual.result ≡ Err c.in_err-refuse_if.field-0.0 = search rules in
    stopped LineOutside _ back c.in_err-refuse_if.was c.refuse_if.ensures
    (simp (c.flags-synthetic.ensures, c.begins_beyond-beyond.ensures, c.lt-above.ensures, new, over_is))
    ∙ walk_first (judged_table self c.args.request c.args.now c.args.redrawn c.args.line c.args.old)
    ∙ judged_first self c.args.request c.args.now c.args.redrawn c.args.line c.args.old c.requires

pub returns-in_err-refuse_if-2 : goal.returns-in_err-refuse_if-2
returns-in_err-refuse_if-2 c =
    let self = c.args.self in
    let now = to_z-of_z w64 _ c.ranges.now in
    let backstop : to_z w64 (of_z w64 self.backstop) ≡ self.backstop = search rules in
    let new : c.value_at-new_value.result ≡ placed (value_at c.args.line c.args.now) = c.value_at-new_value.ensures ∙ simp now in
    let under : c.lt-under.result ≡ is_under (placed (value_at c.args.line c.args.now)) self.backstop = c.lt-under.ensures ∙ under_is c.value_at-new_value.result (to_z w64 (of_z w64 self.backstop)) ∙ simp (new, backstop) in
    let back : c.from_residual-in_err-refuse_if-2.result ≡ Err c.in_err-refuse_if-2.field-0.0 = search rules in
    past LineOutside c.refuse_if.ensures (simp (c.flags-synthetic.ensures, c.begins_beyond-beyond.ensures, c.lt-above.ensures, new, over_is)) c.in_ok-refuse_if.was
    (stopped BelowBackstop _ back c.in_err-refuse_if-2.was c.refuse_if-2.ensures (simp (c.flags-synthetic.ensures, under)))
    ∙ walk_first (judged_table self c.args.request c.args.now c.args.redrawn c.args.line c.args.old)
    ∙ judged_first self c.args.request c.args.now c.args.redrawn c.args.line c.args.old c.requires

pub returns : goal.returns
returns c =
    let self = c.args.self in
    let now = to_z-of_z w64 _ c.ranges.now in
    let backstop : to_z w64 (of_z w64 self.backstop) ≡ self.backstop = search rules in
    let new : c.value_at-new_value.result ≡ placed (value_at c.args.line c.args.now) = c.value_at-new_value.ensures ∙ simp now in
    let under : c.lt-under.result ≡ is_under (placed (value_at c.args.line c.args.now)) self.backstop = c.lt-under.ensures ∙ under_is c.value_at-new_value.result (to_z w64 (of_z w64 self.backstop)) ∙ simp (new, backstop) in
    let before : c.value_at-old_value.result ≡ placed (value_at c.args.old c.args.now) = c.value_at-old_value.ensures ∙ simp now in
    past LineOutside c.refuse_if.ensures (simp (c.flags-synthetic.ensures, c.begins_beyond-beyond.ensures, c.lt-above.ensures, new, over_is)) c.in_ok-refuse_if.was
    (past BelowBackstop c.refuse_if-2.ensures (simp (c.flags-synthetic.ensures, under)) c.in_ok-refuse_if-2.was
    (last_row MonotonicBack c.refuse_if-3.ensures (simp (c.flags-synthetic.ensures, c.has-monotonic.ensures, c.is_less-less.ensures, new, before))))
    ∙ walk_first (judged_table self c.args.request c.args.now c.args.redrawn c.args.line c.args.old)
    ∙ judged_first self c.args.request c.args.now c.args.redrawn c.args.line c.args.old c.requires
