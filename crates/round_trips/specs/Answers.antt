-- Demand 1, of slips: each answer is what its table says; a refused reading gives zeros, and a refused writing leaves
-- every byte. And requests that are the same to the word are written alike.
use Rattle.std.specs.Prelude.{List, [], ◌∷◌, ◌++◌, ◌≡◌, ℕ, ltb, length}
use Rattle.tables.specs.Tables.{Row, ◌when◌, Settled}
use Rattle.clock.specs.Update.{SameToTheWord}
use Rattle.clock.specs.declared.Request.{Request}
use Rattle.slip.specs.Layout.{slip_length}
use Rattle.slip.specs.Reading.{headed, front_table, received, refused_by, reading_front, reading_single}
use Rattle.slip.specs.Writing.{writing_table, filled, untouched, writing}

abbrev pub Demand1ReadSlip : Type 0
Demand1ReadSlip = (bytes : List ℕ) → Settled (front_table bytes) (reading_front bytes) (received bytes) refused_by

-- the rows of a single slip as 01 has them, 20 the last
abbrev pub single_table : List ℕ → List Row
single_table bytes = front_table bytes ++ (20 when ltb (slip_length (headed bytes)) (length bytes) ∷ [])

abbrev pub Demand1ReadSingleSlip : Type 0
Demand1ReadSingleSlip = (bytes : List ℕ) → Settled (single_table bytes) (reading_single bytes) (received bytes) refused_by

abbrev pub Demand1WriteSlip : Type 0
Demand1WriteSlip = (u : Request) (buffer : List ℕ) →
    Settled (writing_table u (length buffer)) (writing u buffer) (filled u buffer) (untouched buffer)

-- requests that are the same to the word get the same answer, refusals included: what isn't flagged does not count
abbrev pub SameSlip : Type 0
SameSlip = (u v : Request) (buffer : List ℕ) → SameToTheWord u v → writing u buffer ≡ writing v buffer
