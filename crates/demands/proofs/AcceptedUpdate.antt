-- What an accepted update leaves known of its new line on a monotonic and on a continuous clock.
use mathlib.Core.Path.{◌≡◌, refl}
use mathlib.Core.Bool.{Bool, true, false, not, cond, ◌&&◌}
use lib.IntN.{ℤ}
use lib.Signed.{◌≤ℤ◌, ≤ℤ_refl}
use lib.Dec.{T}
use mir.Facts.{yes_and}
use Rattle.tables.proofs.Tests.{fails_second}
use Rattle.line.specs.Line.{value_at, exact_at}
use Rattle.line.specs.declared.Line.{Line}
use Rattle.line.proofs.Laws.{turned_agrees}
use Rattle.clock.specs.Clock.{is_running, monotonic, continuous, old_line}
use Rattle.clock.specs.Update.{has_synthetic, has_reference, has_rate, replaces, point, effect, new_line}
use Rattle.clock.specs.Calls.{update, accepted}
use Rattle.clock.specs.declared.Clock.{Clock}
use Rattle.clock.specs.declared.Request.{Request}
use Rattle.clock.proofs.Ranges.{not_less}
use Rattle.clock.proofs.Rows.{passed_rows}
use Rattle.clock.proofs.Clocks.{new_at_least}

-- a line turned at now is there where the old one was
effect_turned : (s a : Bool) (l : Line) (S new now : ℤ) → T (not s) → exact_at (effect s a l now S new) now ≡ exact_at l now
unfolding effect
effect_turned true a l S new now n = absurd n
effect_turned false true l S new now n = turned_agrees l now new
effect_turned false false l S new now n = refl

module _ (c : Clock) (u : Request) (now : ℤ) (t : T (accepted c (update u now))) where
  -- a running monotonic clock isn't set back
  pub new_not_back : T (monotonic c.word) → T (is_running c) → value_at (old_line c) now ≤ℤ value_at (new_line c u now) now
  new_not_back m s = new_at_least c u now t (value_at (old_line c) now) replaced (λ n. ≤ℤ_refl (value_at (old_line c) now))
    where
      replaced : T (replaces u) → value_at (old_line c) now ≤ℤ value_at (new_line c u now) now
      replaced r =
          let running = yes_and (monotonic c.word) (is_running c) m s in
          not_less _ (value_at (old_line c) now) (fails_second (monotonic c.word && is_running c) _ running (fails_second (replaces u) _ r (passed_rows c u now t).row14))

  -- a running continuous clock is at most turned, and that at now
  pub new_agrees : T (continuous c.word) → T (is_running c) → exact_at (new_line c u now) now ≡ exact_at (old_line c) now
  unfolding new_line point
  new_agrees k s = go (has_reference u) (fails_second (continuous c.word) (has_reference u) k (passed_rows c u now t).row9)
    where
      go : (p : Bool) → T (not p) →
          exact_at (effect (has_synthetic u) (has_rate u) (old_line c) (cond p u.reference now) u.synthetic u.rate) now ≡ exact_at (old_line c) now
      go true n = absurd n
      go false n =
          effect_turned (has_synthetic u) (has_rate u) (old_line c) u.synthetic u.rate now
          (fails_second (continuous c.word && is_running c) (has_synthetic u) (yes_and (continuous c.word) (is_running c) k s) (passed_rows c u now t).row10)
