-- Which numbers are taken for a clock, and the row of our own that stands in front of each of the paper's tables.
use Rattle.std.specs.Prelude.{Bool, not, cond, ◌&&◌, List, ◌∷◌, ℕ, pos, eqb, leb}
use Rattle.clock.specs.Numbers.{END, MAX_RATE}
use Rattle.tables.specs.Tables.{Row, ◌when◌}
use Rattle.line.specs.Line.{zero_line, is_zeros, bounded, reaches}
use Rattle.line.specs.declared.Line.{Line}
use Rattle.clock.specs.Clock.{auto_start, is_running}
use Rattle.clock.specs.Creation.{creation_refusal, UNKNOWN_ERROR, FIRST_GENERATION}
use Rattle.clock.specs.declared.Clock.{Clock}

-- reference and synthetic in 0..END, the remainder in 0..999,999, the rate in -1000..1000
unfoldable pub drawable : Line → Bool
drawable l = bounded l END MAX_RATE

-- as a clock may be that runs: at its latest time the line shows at least the backstop, as rule 13 asks of a new line.
-- It may show more than END: a clock runs on past it, and its readings are then refused with 12
unfoldable pub may_run : Clock → Bool
may_run c = drawable c.line && reaches c.line c.latest c.backstop

-- exactly as creation left it, where it did not start it; the identity line is zeros
unfoldable pub as_created : Clock → Bool
as_created c =
    not (auto_start c.word)
    && is_zeros c.line
    && eqb c.error UNKNOWN_ERROR
    && eqb c.generation FIRST_GENERATION

-- what is taken for a clock: started is 0 or 1; creation would take the word and the backstop at the latest time; the
-- rest is as it may be of a clock that runs, or as creation left it
unfoldable pub is_clock : Clock → Bool
is_clock c =
    leb c.started 1
    && eqb (creation_refusal c.word c.backstop c.latest) 0
    && cond (is_running c) (may_run c) (as_created c)

-- none of the paper's numbers
abbrev pub NOT_A_CLOCK : ℕ
NOT_A_CLOCK = 255

-- a table of the paper behind the row of our own: what is not taken for a clock is told so before anything else
unfoldable pub guarded : Clock → List Row → List Row
guarded c rows = NOT_A_CLOCK when not (is_clock c) ∷ rows

-- zeros, which are not taken for a clock
abbrev pub zero_clock : Clock
zero_clock = record {
  line = zero_line;
  backstop = pos 0;
  latest = pos 0;
  error = 0;
  generation = 0;
  word = 0;
  started = 0;
}
