-- Bits on their way into a buffer. Fields and records are defined without them: put and put_all write through them.
use Rattle.std.specs.Prelude.{Bool, List, ◌≡◌, ℕ, ◌+◌, ◌-◌, ◌*◌, ◌/◌, ◌%◌, ◌^◌, ◌<◌, length}
use Rattle.fields.specs.Bits.{digits, row}
use Rattle.fields.specs.Field.{over}

-- bits that wait, and the byte that they begin in
pub record Waiting : Type 0 where
  pub bits : List Bool
  pub first : ℕ

-- the first bits of a word, as many as the count says
abbrev pub waiting : ℕ → ℕ → ℕ → Waiting
waiting word count first = record { bits = digits count (word / 2 ^ (64 - count)); first = first }

-- the place behind them
abbrev pub reach : Waiting → ℕ
reach p = 8 * p.first + length p.bits

-- the row of the bytes, with the bits that wait over it, from the byte `first` on
unfoldable pub merged : List ℕ → Waiting → List Bool
merged bytes p = over (row bytes) (8 * p.first) p.bits

-- fewer than 64 bits of a word wait, and no other bit of it is set
abbrev pub Ready : ℕ → ℕ → Type 0
Ready word count = (count < 64) × (word % 2 ^ (64 - count) ≡ 0)

-- they reach up to a given place, and the bytes with them over are a given row
pub record Together (bytes : List ℕ) (p : Waiting) (bits : List Bool) (place : ℕ) : Type 0 where
  pub reached : reach p ≡ place
  pub merges : merged bytes p ≡ bits
