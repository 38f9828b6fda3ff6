-- A maintainer's command: its refusals, and the request that it asks for (02, R-12).
use Rattle.std.specs.Prelude.{Bool, true, false, not, List, [], ◌∷◌, ◌++◌, ℕ, ◌+◌, ◌*◌, ◌^◌, ℤ, pos, Float}
use Rattle.std.specs.Prelude.{Option, Some, None, Result, Ok, Err}
use Rattle.std.specs.Float.{binary64}
use Rattle.std.specs.Float.Ieee.{of_int, mul, div, lt}
use Rattle.tables.specs.Tables.{Row, ◌when◌, answer}
use Rattle.tables.specs.Refusals.{number}
use Rattle.tables.specs.declared.Refusal.{Refusal}
use Rattle.clock.specs.Numbers.{rate_outside}
use Rattle.clock.specs.Update.{version_unit}
use Rattle.clock.specs.declared.Request.{Request}
use Rattle.panel.specs.Bits.{bits, is_finite, nearest_whole}
use Rattle.panel.specs.declared.Command.{Command}
use Rattle.panel.specs.declared.Command.TheVariants.{Hold, Trim, Pull}

-- ---- what a pull makes of its offset, in nanoseconds, and its window, in seconds. `mul`, `div` and `lt` are the
-- kit's: Rust's `*`, `/` and `<`, with each product and quotient rounded to the nearest float

-- the float of a whole number
abbrev pub float : ℕ → Float
float n = of_int binary64 (pos n)

-- the window times 1000
unfoldable pub product : Float → Float
product window = mul binary64 window (float 1000)

-- the offset by that product: parts per million
unfoldable pub quotient : Float → Float → Float
quotient offset window = div binary64 offset (product window)

-- ---- the refusals

-- of a rate in parts per million, by the float's bits; 6 is judged on the whole rate
unfoldable pub trim_table : ℕ → List Row
trim_table b =
    (32 when not (is_finite b)
    ∷ 6 when rate_outside (nearest_whole b)
    ∷ [])

-- of a pull's inputs and product; its quotient is judged as the rate of a trim is
unfoldable pub input_table : Float → Float → List Row
input_table offset window =
    (32 when not (is_finite (bits offset))
    ∷ 32 when not (is_finite (bits window))
    ∷ 32 when not (lt (float 0) window)
    ∷ 32 when not (is_finite (bits (product window)))
    ∷ [])

abbrev pub command_table : Command → List Row
command_table Hold = []
command_table (Trim ppm) = trim_table (bits ppm)
command_table (Pull offset window) = input_table offset window ++ trim_table (bits (quotient offset window))

-- ---- the answer

-- whether it is hold's own, which asks for no update; a refusal's number, 0 for none; and the request
pub record Translation : Type 0 where
  pub held : Bool
  pub refusal : ℕ
  pub request : Request

-- version 2 with the flag of the rate. The rate replaces the clock's own; it is no step from it
abbrev pub rate_request : ℤ → Request
rate_request a =
    record { word = 2 * version_unit + 2 ^ 55; synthetic = pos 0; reference = pos 0; rate = a; error = 0 }

-- zeros throughout, the word too: what stands beside a refusal where there is no request
abbrev pub zero_request : Request
zero_request = record { word = 0; synthetic = pos 0; reference = pos 0; rate = pos 0; error = 0 }

abbrev pub no_update : Translation
no_update = record { held = true; refusal = 0; request = zero_request }

abbrev pub update_to : ℤ → Translation
update_to a = record { held = false; refusal = 0; request = rate_request a }

-- a refusal's request is zeros, the word too
abbrev pub refused_by : ℕ → Translation
refused_by n = record { held = false; refusal = n; request = zero_request }

-- what a command asks for where nothing is refused
abbrev pub asked : Command → Translation
asked Hold = no_update
asked (Trim ppm) = update_to (nearest_whole (bits ppm))
asked (Pull offset window) = update_to (nearest_whole (bits (quotient offset window)))

-- the answer to a command: the first row that applies refuses it
unfoldable pub translating : Command → Translation
translating c = answer (command_table c) (asked c) refused_by

-- what each case of the answer stands for
abbrev pub told : Result (Option Request) Refusal → Translation
told (Ok None) = no_update
told (Ok (Some u)) = record { held = false; refusal = 0; request = u }
told (Err r) = refused_by (number r)
