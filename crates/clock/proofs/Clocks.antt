-- Creation gives what is taken for a clock, and every call leaves it so.
use mathlib.Core.Path.{subst, subst⁻¹}
use mathlib.Core.Bool.{Bool, true, false, not, ◌&&◌, ◌||◌}
use lib.IntN.{ℤ}
use lib.Signed.{◌≤ℤ◌}
use lib.Dec.{T}
use mir.Facts.{or_no}
use Rattle.tables.proofs.Tests.{fails_second, other, by_cases}
use Rattle.line.specs.Line.{value_at, reaches}
use Rattle.clock.specs.Clock.{is_running, old_line, Drawable, Valid}
use Rattle.clock.specs.Taken.{is_clock}
use Rattle.clock.specs.Update.{has_synthetic, has_rate, replaces, new_line, updated}
use Rattle.clock.specs.Calls.{Call, update, ask, accepted, after}
use Rattle.clock.specs.declared.Clock.{Clock}
use Rattle.clock.specs.declared.Request.{Request}
use Rattle.clock.proofs.Ranges.{not_less, in_range}
use Rattle.clock.proofs.Requests.{point_in_range, rate_permitted}
use Rattle.clock.proofs.Values.{running_old_value, above_backstop}
use Rattle.clock.proofs.Taken.{byte_is, taken_valid, taken_created, line_drawable, later_created, running_taken}
use Rattle.clock.proofs.NewLine.{new_begins, new_kept, passed_in_range}
use Rattle.clock.proofs.Rows.{call_passed, either_way, Passed, passed_rows}

-- ---- an accepted update

module _ (c : Clock) (u : Request) (now : ℤ) (t : T (accepted c (update u now))) where
  -- what takes an update is a clock
  pub updates_clock : T (is_clock c)
  updates_clock = (call_passed c (update u now) t).0

  pub updates_valid : Valid c
  updates_valid = taken_valid c updates_clock

  rows : Passed c u now
  rows = passed_rows c u now t

  pub not_early : c.latest ≤ℤ now
  not_early = not_less now c.latest rows.row2

  -- by row 8 the clock was started, or is so now
  started_or_set : T (is_running c || has_synthetic u)
  started_or_set = go (is_running c) (has_synthetic u) rows.row8
    where
      go : (started s : Bool) → T (not (not started && not s)) → T (started || s)
      go true s r = tt
      go false true r = tt
      go false false r = absurd r

  pub updated_started : T (is_running (updated c u now))
  unfolding updated
  updated_started = subst⁻¹ T (byte_is (is_running c || has_synthetic u)) started_or_set

  unreplaced_started : T (not (replaces u)) → T (is_running c)
  unreplaced_started n = other (is_running c) (has_synthetic u) started_or_set (or_no (has_synthetic u) (has_rate u) n).0

  pub new_drawable : Drawable (new_line c u now)
  new_drawable =
      let v = updates_valid in
      let b = new_begins c u now v (point_in_range u rows.row5 now (in_range now rows.row1)) (rate_permitted u rows.row6) in
      record { reference = b.reference; synthetic = passed_in_range c u now v rows.row12; remainder = b.remainder; rate = b.rate }

  -- the new line is at least b at now if it is where it replaces the old one, and if the old one is where that stays
  pub new_at_least : (b : ℤ) → (T (replaces u) → b ≤ℤ value_at (new_line c u now) now) →
      (T (not (replaces u)) → b ≤ℤ value_at (old_line c) now) → b ≤ℤ value_at (new_line c u now) now
  new_at_least b new old = by_cases (replaces u) new (λ n. rw (new_kept c u now n) (old n))

  pub new_above_backstop : c.backstop ≤ℤ value_at (new_line c u now) now
  new_above_backstop =
      new_at_least c.backstop
      (λ r. not_less _ c.backstop (fails_second (replaces u) _ r rows.row13))
      (λ n. subst (λ (x : ℤ). c.backstop ≤ℤ x) (running_old_value c now (unreplaced_started n)) (above_backstop c now updates_valid not_early))

  -- its word and backstop are still as creation takes them
  pub updated_clock : T (is_clock (updated c u now))
  unfolding reaches updated
  updated_clock =
      running_taken (updated c u now) updated_started
      (later_created c.word c.backstop c.latest now (taken_created c updates_clock) rows.row1 not_early)
      (line_drawable (updated c u now).line new_drawable)
      new_above_backstop.le

-- ---- any calls

pub after_clock : (c : Clock) (k : Call) → T (is_clock c) → T (is_clock (after c k))
unfolding after
after_clock c (ask q) g = g
after_clock c (update u now) g = either_way (λ b d. T (is_clock d)) c u now (updated_clock c u now) g

pub after_started : (c : Clock) (k : Call) → T (is_running c) → T (is_running (after c k))
unfolding after
after_started c (ask q) s = s
after_started c (update u now) s = either_way (λ b d. T (is_running d)) c u now (updated_started c u now) s
