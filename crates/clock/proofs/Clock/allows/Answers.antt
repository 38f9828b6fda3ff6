use mathlib.Core.Path.{◌≡◌, ◌∙◌}
use mir.Syntax.{w32}
use mir.Val.{to_z, of_z}
use Rattle.tables.specs.declared.Refusal.TheVariants.{NotStarted, ContinuousReference, ContinuousSet, MonotonicSetAndRate, RateStep}
use Rattle.tables.proofs.Refusals.{walk_first, past, last_row}
use Rattle.clock.specs.Update.{allowed_table}
use borrow.Author.Rules.{rules}
use Rattle.clock.proofs.Clock.allows.Goals as goal

pub returns : goal.returns
unfolding allowed_table
returns c =
    -- the two rates as the machine holds them
    let present : to_z w32 (of_z w32 c.args.self.line.rate) ≡ c.args.self.line.rate = search rules in
    let asked : to_z w32 (of_z w32 c.args.request.rate) ≡ c.args.request.rate = search rules in
    past NotStarted c.refuse_if.ensures (simp c.flags-synthetic.ensures) c.in_ok-refuse_if.was
    (past ContinuousReference c.refuse_if-2.ensures (simp (c.has-continuous.ensures, c.flags-synthetic.ensures)) c.in_ok-refuse_if-2.was
    (past ContinuousSet c.refuse_if-3.ensures (simp (c.has-continuous.ensures, c.flags-synthetic.ensures)) c.in_ok-refuse_if-3.was
    (past MonotonicSetAndRate c.refuse_if-4.ensures (simp (c.has-monotonic.ensures, c.flags-synthetic.ensures)) c.in_ok-refuse_if-4.was
    (last_row RateStep c.refuse_if-5.ensures (simp (c.flags-synthetic.ensures, c.is_wide_step.ensures, present, asked))))))
    ∙ walk_first (allowed_table c.args.self c.args.request)
