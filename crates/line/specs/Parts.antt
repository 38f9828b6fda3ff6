-- What the inner parts of the code compute. The definitions in the other files do not rest on this one.
use Rattle.std.specs.Prelude.{ℕ, ℤ, pos, ◌+ℤ◌, ◌-ℤ◌, ◌*ℤ◌, ◌≡◌}
use Rattle.line.specs.Numbers.{million}
use Rattle.line.specs.Line.{slope}
use Rattle.line.specs.declared.Line.{Line}
use Rattle.line.specs.declared.numbers.Numbers.{Numbers}

-- n is the line l
pub record IsLine (l : Line) (n : Numbers) : Type 0 where
  pub reference : pos n.reference ≡ l.reference
  pub synthetic : pos n.synthetic ≡ l.synthetic
  pub remainder : n.remainder ≡ l.remainder
  pub slope : pos n.slope ≡ slope l.rate

-- its exact value at t
unfoldable pub exact_of : Numbers → ℕ → ℤ
exact_of n t = ((pos n.synthetic *ℤ pos million) +ℤ pos n.remainder) +ℤ ((pos t -ℤ pos n.reference) *ℤ pos n.slope)
