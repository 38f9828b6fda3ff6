-- A whole number as a signed number of 64 bits sees it: below 0, within what it holds, or above that.
use Rattle.std.specs.Prelude.{Bool, true, false, cond, ℤ, pos, negsuc, ltb, Option, Some, None}
use Rattle.std.specs.Int.Signed.{lt_z}
use Rattle.line.specs.Numbers.{signed_end}
use Rattle.line.specs.declared.Line.{Line}
use Rattle.line.specs.declared.Value.{Value}
use Rattle.line.specs.declared.Value.TheVariants.{Below, Within, Above}

-- where it lies
unfoldable pub placed : ℤ → Value
placed (negsuc n) = Below
placed (pos n) = cond (ltb signed_end n) Above (Within (pos n))

-- below b, which is within
abbrev pub is_under : Value → ℤ → Bool
is_under Below b = true
is_under (Within x) b = lt_z x b
is_under Above b = false

-- above b, which is within
abbrev pub is_over : Value → ℤ → Bool
is_over Below b = false
is_over (Within x) b = lt_z b x
is_over Above b = true

-- v below w, where one of them is within
abbrev pub is_less : Value → Value → Bool
is_less v Below = false
is_less v (Within y) = is_under v y
is_less v Above = true

-- the number of a value within, 0 of any other
abbrev pub number_of : Value → ℤ
number_of Below = pos 0
number_of (Within x) = x
number_of Above = pos 0

-- ---- lines whose S0 is within

abbrev pub drawn_if : Value → Line → Option Line
drawn_if Below l = None
drawn_if (Within x) l = Some l
drawn_if Above l = None

-- a line as it is drawn
unfoldable pub held : Line → Option Line
held l = drawn_if (placed l.synthetic) l

-- not drawn, or with an S0 above b
abbrev pub is_beyond : Option Line → ℤ → Bool
is_beyond (Some l) b = lt_z b l.synthetic
is_beyond None b = true

-- the line where it was drawn, else another
abbrev pub line_or : Option Line → Line → Line
line_or (Some l) other = l
line_or None other = other
