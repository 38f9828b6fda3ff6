-- The parts that an operation's table is walked by, as the code does: what an earlier part refuses, and what it lets pass.
use mathlib.Core.Path.{◌≡◌, sym, ap, ◌∙◌}
use mathlib.Core.List.{[], ◌∷◌, ◌++◌}
use lib.IntN.{ℤ}
use lib.Signed.{lt_z}
use Rattle.std.specs.Prelude.{Err}
use Rattle.tables.specs.Tables.{◌when◌, first}
use Rattle.tables.specs.Refusals.{number}
use Rattle.tables.specs.declared.Refusal.{Refusal}
use Rattle.tables.proofs.Refusals.{part_refused, part_passed, answer_refused}
use Rattle.line.specs.Value.{placed}
use Rattle.line.specs.declared.Value.{Value}
use Rattle.clock.specs.Numbers.{END}
use Rattle.clock.specs.Clock.{time_table, InRange, Valid}
use Rattle.clock.specs.Taken.{guarded}
use Rattle.clock.specs.Reading.{clock_value, reading_table, reading, reading_told}
use Rattle.clock.specs.Update.{alone_table, allowed_table, request_table, new_line_table, update_table, updating, update_told}
use Rattle.clock.specs.Parts.{read_of}
use Rattle.clock.specs.declared.Clock.{Clock}
use Rattle.clock.specs.declared.Request.{Request}
use Rattle.clock.proofs.Readings.{time_taken, time_in_range, read_given}
use Rattle.clock.proofs.Taken.{taken_valid}

-- ---- the time

module _ (c : Clock) (now : ℤ) where
  -- what the first rows let pass is a clock, at a time in the range
  pub passed_valid : 0 ≡ first (guarded c (time_table c now)) → Valid c
  passed_valid e = taken_valid c (time_taken c now (sym e))

  pub passed_now : 0 ≡ first (guarded c (time_table c now)) → InRange now
  passed_now e = time_in_range c now (sym e)

  pub read_refused : (r : Refusal) → number r ≡ first (guarded c (time_table c now)) → reading_told (Err r) ≡ reading c now
  unfolding guarded reading reading_table
  read_refused r e =
      answer_refused (guarded c (reading_table c now)) _ _ r
      (part_refused r (guarded c (time_table c now)) (12 when lt_z END (clock_value c now) ∷ []) e)

  pub read_passed : {v : Value} → 0 ≡ first (guarded c (time_table c now)) → v ≡ placed (clock_value c now) → read_of v ≡ reading c now
  read_passed e h = ap read_of h ∙ read_given c now (sym e)

-- ---- a request

module _ (c : Clock) (u : Request) (now : ℤ) where
  pub update_refused : (r : Refusal) → number r ≡ first (guarded c (request_table c u now)) → update_told c (Err r) ≡ updating c u now
  unfolding guarded updating update_table
  update_refused r e =
      answer_refused (guarded c (update_table c u now)) _ _ r
      (part_refused r (guarded c (request_table c u now)) (new_line_table c u now) e)

  pub refused_by_time : (r : Refusal) → number r ≡ first (guarded c (time_table c now)) → number r ≡ first (guarded c (request_table c u now))
  unfolding guarded time_table request_table
  refused_by_time r e = part_refused r (guarded c (time_table c now)) (alone_table u ++ allowed_table c u) e

  pub passed_by_time : 0 ≡ first (guarded c (time_table c now)) → first (alone_table u ++ allowed_table c u) ≡ first (guarded c (request_table c u now))
  unfolding guarded time_table request_table
  passed_by_time e = part_passed (guarded c (time_table c now)) (alone_table u ++ allowed_table c u) tt e

  pub refused_alone : (r : Refusal) → 0 ≡ first (guarded c (time_table c now)) → number r ≡ first (alone_table u) → number r ≡ first (guarded c (request_table c u now))
  refused_alone r e h = part_refused r (alone_table u) (allowed_table c u) h ∙ passed_by_time e

  pub passed_alone : 0 ≡ first (guarded c (time_table c now)) → 0 ≡ first (alone_table u) → first (allowed_table c u) ≡ first (guarded c (request_table c u now))
  unfolding alone_table
  passed_alone e h = part_passed (alone_table u) (allowed_table c u) tt h ∙ passed_by_time e
