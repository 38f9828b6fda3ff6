-- What the programs write of a time or a value.
use Rattle.std.specs.Prelude.{List, ℕ, ℤ, cond, codes}
use Rattle.std.specs.Fmt.{signed_decimal}
use Rattle.std.specs.Ordering.{int_eq}
use Rattle.clock.specs.Numbers.{END}

-- the end of the range by its name, any other by its digits
abbrev pub time_text : ℤ → List ℕ
time_text x = cond (int_eq x END) (codes "END") (signed_decimal x)
