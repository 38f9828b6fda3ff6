-- What the inner parts of the code compute. The rules in the other files do not rest on this one; proofs/ shows that
-- the parts give the rules.
use Rattle.std.specs.Prelude.{Bool, cond, ◌&&◌, ◌≡◌, ℤ, pos, eqb, Option}
use Rattle.std.specs.Int.Signed.{le_z}
use Rattle.line.specs.Line.{Computable}
use Rattle.line.specs.Value.{is_over, number_of, held, line_or}
use Rattle.line.specs.declared.Line.{Line}
use Rattle.line.specs.declared.Value.{Value}
use Rattle.clock.specs.Numbers.{END}
use Rattle.clock.specs.Clock.{is_running, old_line, InRange, Valid}
use Rattle.clock.specs.Creation.{creation_refusal}
use Rattle.clock.specs.Taken.{drawable}
use Rattle.clock.specs.Update.{new_line}
use Rattle.clock.specs.declared.Clock.{Clock}
use Rattle.clock.specs.declared.Reading.{Reading}
use Rattle.clock.specs.declared.Request.{Request}

-- the answer to a reading whose value is v
abbrev pub read_of : Value → Reading
read_of v = cond (is_over v END) (record { refusal = 12; value = pos 0 }) (record { refusal = 0; value = number_of v })

-- a running clock whose line begins by the latest time at no less than the backstop: its value there needn't be
-- worked out
unfoldable pub clearly_runs : Clock → Bool
clearly_runs c =
    is_running c
    && eqb (creation_refusal c.word c.backstop c.latest) 0
    && drawable c.line
    && le_z c.line.reference c.latest
    && le_z c.backstop c.line.synthetic

-- what rules 12 to 14 are judged by: the new line as it was drawn, the line whose value stands for the new one's, and
-- the old line
pub record Judged (c : Clock) (u : Request) (now : ℤ) (redrawn : Option Line) (l old : Line) : Type 0 where
  pub clock : Valid c
  pub time : InRange now
  pub drawn : redrawn ≡ held (new_line c u now)
  pub line : l ≡ line_or redrawn (old_line c)
  pub before : old ≡ old_line c
  pub computable : Computable l
