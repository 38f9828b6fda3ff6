-- Slips in a row (02, R-5): what a slip uses, what follows it, and a row there and back.
use Rattle.std.specs.Prelude.{List, [], ◌∷◌, ◌++◌, ◌≡◌, ℕ, ◌+◌, ◌*◌, ◌≤◌, ◌<◌, length, take, drop}
use Rattle.tables.specs.Tables.{answer_to}
use Rattle.clock.specs.declared.Request.{Request}
use Rattle.fields.specs.Bits.{Bytes}
use Rattle.fields.specs.Lent.{Lent, part}
use Rattle.slip.specs.Reading.{refused_by, reading_front}
use Rattle.slip.specs.Writing.{Outcome, writing}
use Rattle.slip.specs.Row.{reading_next, RowRead, stopped_by, stepped, reading_row}
use Rattle.round_trips.specs.RoundTrips.{BackFrom, Sized}

-- ---- one slip

-- a slip that is taken uses 2 bytes or more, and no more than there are
abbrev pub SlipUses : Type 0
SlipUses = (bytes : List ℕ) → (reading_front bytes).refusal ≡ 0 →
    (2 ≤ (reading_front bytes).length) × ((reading_front bytes).length ≤ length bytes)

-- where it is refused the row reader hands back what was lent, from its first byte on
abbrev pub RefusedHandedBack : Type 0
RefusedHandedBack = (bytes : Lent) → ((reading_next bytes).refusal ≡ 0 → ⊥) → (reading_next bytes).rest ≡ part bytes

-- a slip that is taken keeps its request and its length, whatever bytes follow it
abbrev pub SlipKept : Type 0
SlipKept = (bytes others : List ℕ) → (reading_front bytes).refusal ≡ 0 →
    reading_front (take (reading_front bytes).length bytes ++ others) ≡ reading_front bytes

-- ---- a row, step by step

-- of no bytes no slip can be read, but as a row they are no slips and no refusal
pub record NoBytes : Type 0 where
  pub slip : reading_front [] ≡ refused_by 18
  pub row : reading_row [] ≡ stopped_by 0

-- else it is the slip on the front, and the row of what the row reader hands back
abbrev pub RowSteps : Type 0
RowSteps = (bytes : Lent) → 0 < length bytes.now →
    reading_row bytes.now ≡ stepped (reading_front bytes.now) (reading_row (reading_next bytes).rest.bytes)

-- it stops at the end of the bytes, or ahead of it, at a slip that is refused with the number that is told
pub record Stops (bytes : List ℕ) (row : RowRead) : Type 0 where
  pub ended : row.refusal ≡ 0 → row.length ≡ length bytes
  pub ahead : (row.refusal ≡ 0 → ⊥) → row.length < length bytes
  pub refused : (row.refusal ≡ 0 → ⊥) → reading_front (drop row.length bytes) ≡ refused_by row.refusal
  -- each slip has two bytes or more, so that a row ends
  pub few : 2 * length row.requests ≤ row.length

abbrev pub RowStops : Type 0
RowStops = (bytes : List ℕ) → Stops bytes (reading_row bytes)

-- ---- read, then written

-- a slip that was written, and what became of the buffer behind it
abbrev pub followed_by : Outcome → Outcome → Outcome
followed_by slip row = record {
  refusal = row.refusal;
  length = slip.length + row.length;
  buffer = take slip.length slip.buffer ++ row.buffer;
}

-- requests written one after another, each behind the last, up to the first that is refused
unfoldable pub writing_row : List Request → List ℕ → Outcome
writing_row [] buffer = record { refusal = 0; length = 0; buffer = buffer }
writing_row (u ∷ us) buffer =
    let slip = writing u buffer in
    answer_to slip.refusal (followed_by slip (writing_row us (drop slip.length slip.buffer))) (λ n. slip)

-- what a row says that is taken to its end, written into any buffer with room for it, is that row again
abbrev pub RowRewritten : Type 0
RowRewritten = (bytes buffer : List ℕ) → Bytes bytes → (reading_row bytes).refusal ≡ 0 → length bytes ≤ length buffer →
    writing_row (reading_row bytes).requests buffer
    ≡ record { refusal = 0; length = length bytes; buffer = bytes ++ drop (length bytes) buffer }

-- ---- written, then read

abbrev pub AllSized : List Request → Type 0
AllSized [] = Unit
AllSized (u ∷ us) = Sized u × AllSized us

-- the requests as they are read back, in the same order
abbrev pub SameRequests : List Request → List Request → Type 0
SameRequests [] [] = Unit
SameRequests [] (v ∷ vs) = ⊥
SameRequests (u ∷ us) [] = ⊥
SameRequests (u ∷ us) (v ∷ vs) = BackFrom u v × SameRequests us vs

-- the bytes read back as the requests us
pub record RowReadsAs (us : List Request) (bytes : List ℕ) : Type 0 where
  pub accepted : (reading_row bytes).refusal ≡ 0
  pub same : SameRequests us (reading_row bytes).requests

-- all requests that writing takes one after another, whatever the room
abbrev pub RowReadsBack : Type 0
RowReadsBack = (us : List Request) (buffer : List ℕ) → AllSized us → (writing_row us buffer).refusal ≡ 0 →
    RowReadsAs us (take (writing_row us buffer).length (writing_row us buffer).buffer)
