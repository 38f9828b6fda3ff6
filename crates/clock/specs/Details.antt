-- The details at now, and whether the clock is started.
use Rattle.std.specs.Prelude.{Bool, false, cond, ◌&&◌, List, ℤ, pos, Result, Ok, Err}
use Rattle.tables.specs.Tables.{Row, answer}
use Rattle.tables.specs.Refusals.{number}
use Rattle.tables.specs.declared.Refusal.{Refusal}
use Rattle.line.specs.Line.{zero_line}
use Rattle.clock.specs.Clock.{is_running, time_table}
use Rattle.clock.specs.Taken.{is_clock, guarded}
use Rattle.clock.specs.declared.Clock.{Clock}
use Rattle.clock.specs.declared.Details.{Details}
use Rattle.clock.specs.declared.Detailed.{Detailed}

-- a clock, and started
unfoldable pub is_started : Clock → Bool
is_started c = is_clock c && is_running c

-- refusals 1 and 2 alone (01, 'Details')
unfoldable pub details_table : Clock → ℤ → List Row
details_table c now = time_table c now

-- in the paper's order; the line is given as zeros before the start
unfoldable pub details_of : Clock → ℤ → Details
details_of c now = record {
  started = is_running c;
  line = cond (is_running c) c.line zero_line;
  error = c.error;
  generation = c.generation;
  latest = c.latest;
  word = c.word;
  backstop = c.backstop;
  now = now;
}

abbrev pub zero_details : Details
zero_details = record {
  started = false;
  line = zero_line;
  error = 0;
  generation = 0;
  latest = pos 0;
  word = 0;
  backstop = pos 0;
  now = pos 0;
}

-- the answer; zeros where it is refused
unfoldable pub detailing : Clock → ℤ → Detailed
detailing c now =
    answer (guarded c (details_table c now))
    (record { refusal = 0; details = details_of c now })
    (λ n. record { refusal = n; details = zero_details })

-- what each case of the result that details return stands for
abbrev pub details_told : Result Details Refusal → Detailed
details_told (Ok details) = record { refusal = 0; details = details }
details_told (Err r) = record { refusal = number r; details = zero_details }
