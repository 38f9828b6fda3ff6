-- Reading the clock at now.
use Rattle.std.specs.Prelude.{cond, List, [], ◌∷◌, ◌++◌, ℤ, pos, Result, Ok, Err}
use Rattle.std.specs.Int.Signed.{lt_z}
use Rattle.tables.specs.Tables.{Row, ◌when◌, answer}
use Rattle.tables.specs.Refusals.{number}
use Rattle.tables.specs.declared.Refusal.{Refusal}
use Rattle.line.specs.Line.{value_at}
use Rattle.clock.specs.Numbers.{END}
use Rattle.clock.specs.Clock.{is_running, time_table}
use Rattle.clock.specs.Taken.{guarded}
use Rattle.clock.specs.declared.Clock.{Clock}
use Rattle.clock.specs.declared.Reading.{Reading}

-- before the start a clock shows its backstop, then its line (01, 'Reading')
unfoldable pub clock_value : Clock → ℤ → ℤ
clock_value c now = cond (is_running c) (value_at c.line now) c.backstop

-- a reading's rows (01, 'When the clock says no')
unfoldable pub reading_table : Clock → ℤ → List Row
reading_table c now = time_table c now ++ (12 when lt_z END (clock_value c now) ∷ [])

-- the answer; 0 where it is refused
unfoldable pub reading : Clock → ℤ → Reading
reading c now =
    answer (guarded c (reading_table c now))
    (record { refusal = 0; value = clock_value c now })
    (λ n. record { refusal = n; value = pos 0 })

-- what each case of the result that a reading returns stands for
abbrev pub reading_told : Result ℤ Refusal → Reading
reading_told (Ok value) = record { refusal = 0; value = value }
reading_told (Err r) = record { refusal = number r; value = pos 0 }
