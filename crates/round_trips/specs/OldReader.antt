-- The reader before R-11 of 02, which knows version 2 alone, beside ours: it never reads a wrong value.
use Rattle.std.specs.Prelude.{Bool, not, cond, ◌&&◌, List, [], ◌∷◌, ◌++◌, ◌≡◌, ℕ, ◌+◌, T, eqb, leb, length, drop}
use Rattle.clock.specs.Update.{version, is_version3}
use Rattle.clock.specs.declared.Request.{Request}
use Rattle.slip.specs.Layout.{fits_version2, header_length}
use Rattle.slip.specs.Reading.{Edition, headed, refused_by, reading_by, reading_front, strictly, reading_single}
use Rattle.slip.specs.Writing.{slip_of, writing}
use Rattle.slip.specs.Row.{RowRead, row_by, reading_row}
use Rattle.slip.specs.declared.Received.{Received}
use Rattle.round_trips.specs.RoundTrips.{Sized}

-- ---- the old reader

-- one version, and one width of a time, written out: what ours knows may change once more. Refusal 31 stands in the
-- common table, and never applies to a slip of version 2
abbrev pub before : Edition
before = record { knows = λ word. eqb (version word) 2; time_width = λ word. 61 }

abbrev pub old_front : List ℕ → Received
old_front bytes = reading_by before bytes

abbrev pub old_single : List ℕ → Received
old_single bytes = strictly (old_front bytes) (length bytes)

abbrev pub old_row : List ℕ → RowRead
old_row bytes = row_by old_front bytes

-- ---- one slip

-- there are bytes for a header, and it says version 3
abbrev pub says_version3 : List ℕ → Bool
says_version3 bytes = leb header_length (length bytes) && is_version3 (headed bytes).word

-- then the old reader answers 3, the word 0 and zeros, on the front and strictly
abbrev pub OldRefuses : Type 0
OldRefuses = (bytes : List ℕ) → T (says_version3 bytes) →
    (old_front bytes ≡ refused_by 3) × (old_single bytes ≡ refused_by 3)

-- on all other bytes both readers answer alike, refusals included
abbrev pub OldAgrees : Type 0
OldAgrees = (bytes : List ℕ) → T (not (says_version3 bytes)) →
    (old_front bytes ≡ reading_front bytes) × (old_single bytes ≡ reading_single bytes)

-- so of the slips that ours writes it takes those that version 2 holds, with the values that ours reads, and no other
abbrev pub OldReadsWritten : Type 0
OldReadsWritten = (u : Request) (buffer : List ℕ) → Sized u → (writing u buffer).refusal ≡ 0 →
    old_single (slip_of u) ≡ cond (fits_version2 u) (reading_single (slip_of u)) (refused_by 3)

-- ---- a row

-- every word has version 2
abbrev pub AllVersion2 : List Request → Type 0
AllVersion2 [] = Unit
AllVersion2 (u ∷ us) = (version u.word ≡ 2) × AllVersion2 us

-- a row, and the row behind it
abbrev pub extended : RowRead → RowRead → RowRead
extended row rest = record {
  requests = row.requests ++ rest.requests;
  length = row.length + rest.length;
  refusal = rest.refusal;
}

-- what the old reader reads of a row, where it stops, and what ours reads of it
pub record UpToVersion3 (bytes : List ℕ) (old : RowRead) : Type 0 where
  -- no slip before that place has version 3
  pub none : AllVersion2 old.requests
  -- ours reads the same requests up to there, and goes on
  pub same : reading_row bytes ≡ extended old (reading_row (drop old.length bytes))
  -- where version 3 stands there, the old one stops with 3
  pub stops : T (says_version3 (drop old.length bytes)) → old.refusal ≡ 3
  -- else both read the whole row alike
  pub alike : T (not (says_version3 (drop old.length bytes))) → old ≡ reading_row bytes

abbrev pub OldRow : Type 0
OldRow = (bytes : List ℕ) → UpToVersion3 bytes (old_row bytes)
