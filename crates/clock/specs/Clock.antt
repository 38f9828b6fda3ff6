-- The clock: what its creation word and its started byte say, its old line, refusals 1 and 2, and what the operations
-- rest on.
use Rattle.std.specs.Prelude.{Bool, cond, List, [], ◌∷◌, ℕ, ◌<◌, ℤ, pos, neg_ℤ, ◌≤ℤ◌, T, eqb}
use Rattle.std.specs.Int.Signed.{lt_z}
use Rattle.tables.specs.Tables.{Row, ◌when◌}
use Rattle.line.specs.Numbers.{million}
use Rattle.line.specs.Line.{line, value_at}
use Rattle.line.specs.declared.Line.{Line}
use Rattle.clock.specs.Numbers.{END, MAX_RATE, time_outside, bit}
use Rattle.clock.specs.declared.Clock.{Clock}

-- the flags of a creation word: 128, 64 and 32 (01, 'Creation')
abbrev pub monotonic : ℕ → Bool
monotonic word = bit 7 word

abbrev pub continuous : ℕ → Bool
continuous word = bit 6 word

abbrev pub auto_start : ℕ → Bool
auto_start word = bit 5 word

-- the started byte: 1, or 0 before the start
abbrev pub byte_of : Bool → ℕ
byte_of b = cond b 1 0

-- the started byte is 1; of a clock, that it is started
abbrev pub is_running : Clock → Bool
is_running c = eqb c.started 1

-- the line that auto start gives at once (01, 'Creation'), with no remainder
abbrev pub identity : Line
identity = line (pos 0) (pos 0) 0 (pos 0)

-- the old line of an update, T of the effect table; before the start the identity line, whose rate is 0 (01, 'The
-- update word and its effect')
unfoldable pub old_line : Clock → Line
old_line c = cond (is_running c) c.line identity

-- rows 1 and 2, of any call on a clock: now is out of range, or earlier than the clock's latest time
unfoldable pub time_table : Clock → ℤ → List Row
time_table c now =
    (1 when time_outside now
    ∷ 2 when lt_z now c.latest
    ∷ [])

-- ---- what the operations rest on

-- in 0..END
pub record InRange (x : ℤ) : Type 0 where
  pub low : pos 0 ≤ℤ x
  pub high : x ≤ℤ END

-- in -1000..1000
pub record Permitted (a : ℤ) : Type 0 where
  pub low : neg_ℤ MAX_RATE ≤ℤ a
  pub high : a ≤ℤ MAX_RATE

-- a line as a clock may hold it
pub record Drawable (l : Line) : Type 0 where
  pub reference : InRange l.reference
  pub synthetic : InRange l.synthetic
  pub remainder : l.remainder < million
  pub rate : Permitted l.rate

-- it holds of everything that is taken for a clock (`ClocksValid` in demands/specs)
pub record Valid (c : Clock) : Type 0 where
  pub line : Drawable c.line
  pub backstop : InRange c.backstop
  pub latest : InRange c.latest
  pub above : T (is_running c) → c.backstop ≤ℤ value_at c.line c.latest
