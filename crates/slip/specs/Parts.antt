-- What the inner parts of the code compute. The rules in the other files do not rest on this one; proofs/ shows that
-- the parts give the rules.
use Rattle.std.specs.Prelude.{List, ℕ, ◌^◌, ◌<◌, get_or, Result, Ok, Err}
use Rattle.tables.specs.Tables.{answer}
use Rattle.tables.specs.Refusals.{number}
use Rattle.tables.specs.declared.Refusal.{Refusal}
use Rattle.clock.specs.declared.Request.{Request}
use Rattle.slip.specs.Layout.{slip_length, layout}
use Rattle.slip.specs.Reading.{headed, header_table, fields_table, request_of}
use Rattle.slip.specs.Writing.{in_slip, asked_table}
use Rattle.slip.specs.declared.Sizes.{Sizes}
use Rattle.slip.specs.declared.Opened.{Opened}
use Rattle.slip.specs.declared.Slip.{Slip}

-- an answer with its refusal's number
abbrev pub numbered : {A : Type 0} → Result A Refusal → Result A ℕ
numbered (Ok x) = Ok x
numbered (Err r) = Err (number r)

-- ---- the header (18, 3, 18)

-- the width of each field of a slip, and its length in bytes
abbrev pub sizes : Request → Sizes
sizes u = record { layout = layout u; length = slip_length u }

-- a header that is taken, with the sizes of its slip
abbrev pub opened_by : Request → Opened
opened_by u = record { asked = u; sizes = sizes u }

unfoldable pub opening : List ℕ → Result Opened ℕ
opening bytes = answer (header_table bytes) (Ok (opened_by (headed bytes))) (λ n. Err n)

-- ---- the fields (6, 19, 31)

-- a request that is read, off so many bytes
abbrev pub read_as : Request → ℕ → Slip
read_as u size = record { request = u; length = size }

-- what a slip of this size answers, whose bytes are enough
unfoldable pub judging : Request → List ℕ → ℕ → Result Slip ℕ
judging asked values size = answer (fields_table asked values) (Ok (read_as (request_of asked values) size)) (λ n. Err n)

-- times that a signed number of 64 bits holds
pub record Small (values : List ℕ) : Type 0 where
  pub synthetic : get_or values 1 0 < 2 ^ 63
  pub reference : get_or values 2 0 < 2 ^ 63

-- ---- writing (3, 5, 6)

-- a request that a slip holds given room, as the slip has it
unfoldable pub asking : Request → Result Request ℕ
asking u = answer (asked_table u) (Ok (in_slip u)) (λ n. Err n)
