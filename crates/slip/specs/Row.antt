-- Slips in a row, each behind the last (02, R-5).
use Rattle.std.specs.Prelude.{List, [], ◌∷◌, ℕ, zero, suc, ◌+◌, ◌-◌, Result, Ok, Err}
use Rattle.tables.specs.Tables.{answer_to}
use Rattle.tables.specs.Refusals.{refusal_of}
use Rattle.tables.specs.declared.Refusal.{Refusal}
use Rattle.clock.specs.declared.Request.{Request}
use Rattle.fields.specs.Lent.{Lent, Part, part, from}
use Rattle.slip.specs.Reading.{zero_request, reading_front}
use Rattle.slip.specs.declared.Received.{Received}

-- ---- one step

-- what the row reader tells, and the rest that it hands back
pub record NextSlip : Type 0 where
  pub request : Request
  pub refusal : ℕ
  pub rest : Part

-- the request of its answer, zeros where that is a refusal
abbrev pub request_told : Result Request Refusal → Request
request_told (Ok u) = u
request_told (Err r) = zero_request

abbrev pub next_slip : Result Request Refusal → Lent → NextSlip
next_slip told rest = record { request = request_told told; refusal = refusal_of told; rest = part rest }

-- the slip on the front, and the caller's own bytes behind it: all of them where it is refused, since none is used
unfoldable pub reading_next : Lent → NextSlip
reading_next bytes =
    let read = reading_front bytes.now in
    record { request = read.request; refusal = read.refusal; rest = from read.length bytes }

-- ---- a row

-- the requests of the slips that were taken, in their order; how many bytes these used, which is where it stopped; and
-- the refusal of the slip that stands there, 0 at the end of the bytes
pub record RowRead : Type 0 where
  pub requests : List Request
  pub length : ℕ
  pub refusal : ℕ

abbrev pub stopped_by : ℕ → RowRead
stopped_by n = record { requests = []; length = 0; refusal = n }

-- a slip that was taken, ahead of a row
abbrev pub ahead : Received → RowRead → RowRead
ahead read row = record {
  requests = read.request ∷ row.requests;
  length = read.length + row.length;
  refusal = row.refusal;
}

-- one step: what was read on the front, and the row behind it, which is not looked at where that was refused
abbrev pub stepped : Received → RowRead → RowRead
stepped read row = answer_to read.refusal (ahead read row) stopped_by

-- by a reader of one slip, byte by byte: so many bytes belong to the slip before; then comes the next slip, which
-- begins with the byte at hand. The end of the bytes is the end of the row, and no refusal.
unfoldable pub row_after : (List ℕ → Received) → ℕ → List ℕ → RowRead
row_after reader n [] = stopped_by 0
row_after reader (suc n) (b ∷ bytes) = row_after reader n bytes
row_after reader zero (b ∷ bytes) =
    let read = reader (b ∷ bytes) in
    stepped read (row_after reader (read.length - 1) bytes)

abbrev pub row_by : (List ℕ → Received) → List ℕ → RowRead
row_by reader bytes = row_after reader 0 bytes

abbrev pub reading_row : List ℕ → RowRead
reading_row bytes = row_by reading_front bytes
