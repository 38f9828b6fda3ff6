-- Demand 2, of slips: there and back from a request, and there and back from bytes.
use Rattle.std.specs.Prelude.{not, List, ◌++◌, ◌≡◌, ℕ, ◌^◌, ◌≤◌, ◌<◌, ℤ, pos, T, length, take, drop}
use Rattle.clock.specs.Update.{version, has_synthetic, has_reference, has_rate, has_error, updating, SameRequest}
use Rattle.clock.specs.declared.Clock.{Clock}
use Rattle.clock.specs.declared.Request.{Request}
use Rattle.fields.specs.Bits.{Bytes}
use Rattle.fields.specs.Record.{total}
use Rattle.slip.specs.Layout.{bare, widths, slip_length, header_length, full_word, longest}
use Rattle.slip.specs.Reading.{headed, reading_front, reading_single}
use Rattle.slip.specs.Writing.{slip_version, in_slip, slip_of, written_length, writing}

-- ---- written, then read

-- arguments that aren't flagged are 0
pub record UnflaggedZero (u : Request) : Type 0 where
  pub synthetic : T (not (has_synthetic u)) → u.synthetic ≡ pos 0
  pub reference : T (not (has_reference u)) → u.reference ≡ pos 0
  pub rate : T (not (has_rate u)) → u.rate ≡ pos 0
  pub error : T (not (has_error u)) → u.error ≡ 0

-- an error bound is a number of 64 bits
abbrev pub Sized : Request → Type 0
Sized u = u.error < 2 ^ 64

-- a request as it is read back: the same as u, in the version of its slip, whichever u had
pub record BackFrom (u v : Request) : Type 0 where
  pub same : SameRequest u v
  pub version : version v.word ≡ slip_version u
  pub zero : UnflaggedZero v

-- the bytes read back as the request u
pub record ReadsAs (u : Request) (bytes : List ℕ) : Type 0 where
  pub accepted : (reading_single bytes).refusal ≡ 0
  pub back : BackFrom u (reading_single bytes).request

-- every request that writing takes, whatever the room
abbrev pub ReadsBack : Type 0
ReadsBack = (u : Request) (buffer : List ℕ) → Sized u → (writing u buffer).refusal ≡ 0 →
    ReadsAs u (take (writing u buffer).length (writing u buffer).buffer)

-- of two requests that writing takes: those that are not the same never share a slip
abbrev pub NeverShared : Type 0
NeverShared = (u v : Request) (left right : List ℕ) → Sized u → Sized v →
    (writing u left).refusal ≡ 0 → (writing v right).refusal ≡ 0 → slip_of u ≡ slip_of v → SameRequest u v

-- and those that are the same always do; that holds of any two requests
abbrev pub AlwaysShared : Type 0
AlwaysShared = (u v : Request) → SameRequest u v → slip_of u ≡ slip_of v

-- what is read back does the same as the request to every clock at every now, the refusal and the new clock alike
abbrev pub DoesTheSame : Type 0
DoesTheSame = (u : Request) (buffer : List ℕ) → Sized u → (writing u buffer).refusal ≡ 0 → (c : Clock) (now : ℤ) →
    updating c (reading_single (take (writing u buffer).length (writing u buffer).buffer)).request now
    ≡ updating c u now

-- ---- read, then written

-- every slip that reading takes is taken by writing into any buffer with room for it, and gives the same bytes
abbrev pub Rewritten : Type 0
Rewritten = (bytes buffer : List ℕ) → Bytes bytes → (reading_single bytes).refusal ≡ 0 → length bytes ≤ length buffer →
    writing (reading_single bytes).request buffer
    ≡ record { refusal = 0; length = length bytes; buffer = bytes ++ drop (length bytes) buffer }

-- ---- lengths

-- n is the length that the request's header calls for, from a bare header's to that of its version's longest slip
pub record Measured (u : Request) (n : ℕ) : Type 0 where
  pub called : n ≡ slip_length u
  pub low : header_length ≤ n
  pub high : n ≤ slip_length (longest u.word)
  pub bits : total (widths u) ≤ total (widths (longest u.word))

abbrev pub ReadLength : Type 0
ReadLength = (bytes : List ℕ) → (reading_front bytes).refusal ≡ 0 → Measured (headed bytes) (reading_front bytes).length

-- a single slip is all of the bytes
abbrev pub SingleLength : Type 0
SingleLength = (bytes : List ℕ) → (reading_single bytes).refusal ≡ 0 → Measured (headed bytes) (length bytes)

-- what is written has the header of its slip's version
abbrev pub WrittenLength : Type 0
WrittenLength = (u : Request) (buffer : List ℕ) → (writing u buffer).refusal ≡ 0 →
    Measured (in_slip u) (writing u buffer).length

-- the length that is told of a request is the room that writing takes, no more and no less
pub record ToldLength (u : Request) (buffer : List ℕ) : Type 0 where
  pub written : (writing u buffer).refusal ≡ 0 → (writing u buffer).length ≡ written_length u
  pub needed : (writing u buffer).refusal ≡ 0 → written_length u ≤ length buffer
  pub enough : 0 < written_length u → written_length u ≤ length buffer → (writing u buffer).refusal ≡ 0

abbrev pub TellsLength : Type 0
TellsLength = (u : Request) (buffer : List ℕ) → ToldLength u buffer

-- the paper's numbers, where all four are flagged: 213 bits in 27 bytes in version 2 (01, 'The update slip'), 217 bits
-- in 28 bytes in version 3 (02, R-11)
pub record Numbered : Type 0 where
  pub header : header_length ≡ 2
  pub bits : total (widths (bare (full_word 2))) ≡ 213
  pub bytes : slip_length (bare (full_word 2)) ≡ 27
  pub wide_bits : total (widths (bare (full_word 3))) ≡ 217
  pub wide_bytes : slip_length (bare (full_word 3)) ≡ 28
