-- Updates: the word, the new line, the refusals, and what an accepted update leaves.
use Rattle.std.specs.Prelude.{Bool, true, false, not, cond, ◌&&◌, ◌||◌, List, [], ◌∷◌, ◌++◌, ℕ, ◌+◌, ◌/◌, ◌%◌, ◌^◌, ℤ, pos, ◌-ℤ◌, T, eqb, ◌≡◌, Result, Ok, Err}
use Rattle.std.specs.Int.Signed.{lt_z}
use Rattle.tables.specs.Tables.{Row, ◌when◌, answer}
use Rattle.tables.specs.Refusals.{number}
use Rattle.tables.specs.declared.Refusal.{Refusal}
use Rattle.line.specs.Numbers.{outside}
use Rattle.line.specs.Line.{line, value_at, turned}
use Rattle.line.specs.declared.Line.{Line}
use Rattle.clock.specs.Numbers.{END, END2, time_outside, rate_outside, step_outside, bit}
use Rattle.clock.specs.Clock.{monotonic, continuous, byte_of, is_running, old_line, time_table}
use Rattle.clock.specs.Taken.{guarded}
use Rattle.clock.specs.declared.Clock.{Clock}
use Rattle.clock.specs.declared.Request.{Request}
use Rattle.clock.specs.declared.Flags.{Flags}
use Rattle.clock.specs.declared.Updated.{Updated}

-- ---- the update word, from the top: 6 bits of version, four flags, and 54 bits that are to be zero

-- what the version's last bit counts in the word
abbrev pub version_unit : ℕ
version_unit = 2 ^ 58

abbrev pub version : ℕ → ℕ
version word = word / version_unit

abbrev pub is_version3 : ℕ → Bool
is_version3 word = eqb (version word) 3

-- the two versions there are (02, R-11)
abbrev pub version_known : ℕ → Bool
version_known word = eqb (version word) 2 || is_version3 word

abbrev pub has_synthetic : Request → Bool
has_synthetic u = bit 57 u.word

abbrev pub has_reference : Request → Bool
has_reference u = bit 56 u.word

abbrev pub has_rate : Request → Bool
has_rate u = bit 55 u.word

abbrev pub has_error : Request → Bool
has_error u = bit 54 u.word

abbrev pub flagged : Request → Flags
flagged u = record { synthetic = has_synthetic u; reference = has_reference u; rate = has_rate u; error = has_error u }

-- the last time and value that a word's arguments may have: version 2 keeps the old end (02, R-11)
abbrev pub end_of : ℕ → ℤ
end_of word = cond (is_version3 word) END END2

-- ---- rules 3, 5 and 6, which speak of the request alone

-- a version that isn't known, or one of the 54 bits that are to be zero
unfoldable pub wrong_unless : Bool → ℕ → Bool
wrong_unless known word = not known || not (eqb (word % 2 ^ 54) 0)

abbrev pub word_wrong : Request → Bool
word_wrong u = wrong_unless (version_known u.word) u.word

-- a synthetic or reference argument that counts lies outside 0..end
unfoldable pub values_beyond : ℤ → Request → Bool
values_beyond end u =
    (has_synthetic u && outside (pos 0) end u.synthetic)
    || (has_reference u && outside (pos 0) end u.reference)

-- outside the range of its word
abbrev pub values_outside : Request → Bool
values_outside u = values_beyond (end_of u.word) u

-- a rate that counts is wider than permitted
unfoldable pub rate_too_wide : Request → Bool
rate_too_wide u = has_rate u && rate_outside u.rate

-- ---- the new line

-- P of the effect table (01, 'The update word and its effect')
unfoldable pub point : Request → ℤ → ℤ
point u now = cond (has_reference u) u.reference now

-- whether the line is replaced
abbrev pub replaces : Request → Bool
replaces u = has_synthetic u || has_rate u

-- the effect table: synthetic flagged, rate flagged; T, P, S and the new a. A value set has no remainder, and
-- `turned T P a` has T's exact value at P (02, R-7)
unfoldable pub effect : Bool → Bool → Line → ℤ → ℤ → ℤ → Line
effect true false T P S a = line P S 0 T.rate
effect false true T P S a = turned T P a
effect true true T P S a = line P S 0 a
effect false false T P S a = T

-- before the start T is the identity line
unfoldable pub new_line : Clock → Request → ℤ → Line
new_line c u now = effect (has_synthetic u) (has_rate u) (old_line c) (point u now) u.synthetic u.rate

-- ---- the refusals

-- the table of 01, 'When the clock says no', row by row, with R-9's row of 02 behind 11. Behind the rows of time stand
-- those of the request alone
unfoldable pub alone_table : Request → List Row
alone_table u =
    (3 when word_wrong u
    ∷ 4 when not (has_synthetic u || has_reference u || has_rate u || has_error u)
    ∷ 5 when values_outside u
    ∷ 6 when rate_too_wide u
    ∷ 7 when (has_reference u && not (has_synthetic u || has_rate u))
    ∷ [])

-- and those of what the clock allows
unfoldable pub allowed_table : Clock → Request → List Row
allowed_table c u =
    let is_monotonic = monotonic c.word in
    let is_continuous = continuous c.word in
    (8 when (not (is_running c) && not (has_synthetic u))
    ∷ 9 when (is_continuous && has_reference u)
    ∷ 10 when (is_continuous && is_running c && has_synthetic u)
    ∷ 11 when (is_monotonic && is_running c && has_synthetic u && has_rate u)
    ∷ 22 when (is_running c && (has_rate u && step_outside (u.rate -ℤ c.line.rate)))
    ∷ [])

unfoldable pub request_table : Clock → Request → ℤ → List Row
request_table c u now = time_table c now ++ alone_table u ++ allowed_table c u

-- then those that judge a new line; a line that stays is not asked
unfoldable pub new_line_table : Clock → Request → ℤ → List Row
new_line_table c u now =
    let new = new_line c u now in
    let new_value = value_at new now in
    let old_value = value_at (old_line c) now in
    (12 when (replaces u && (time_outside new.synthetic || lt_z END new_value))
    ∷ 13 when (replaces u && lt_z new_value c.backstop)
    ∷ 14 when (replaces u && (monotonic c.word && is_running c && lt_z new_value old_value))
    ∷ [])

unfoldable pub update_table : Clock → Request → ℤ → List Row
update_table c u now = request_table c u now ++ new_line_table c u now

-- ---- the clock that an accepted update leaves

-- one more with each accepted update, and 0 after 2^32 - 1 (02, R-2)
unfoldable pub next_generation : ℕ → ℕ
next_generation generation = (generation + 1) % 2 ^ 32

-- word and backstop stay; once started, it stays so (01, 'The update word and its effect')
unfoldable pub updated : Clock → Request → ℤ → Clock
updated c u now = record {
  line = new_line c u now;
  backstop = c.backstop;
  latest = now;
  error = cond (has_error u) u.error c.error;
  generation = next_generation c.generation;
  word = c.word;
  started = byte_of (is_running c || has_synthetic u);
}

-- the answer; beside a refusal stands the clock that was handed in
unfoldable pub updating : Clock → Request → ℤ → Updated
updating c u now =
    answer (guarded c (update_table c u now))
    (record { clock = updated c u now; refusal = 0 })
    (λ n. record { clock = c; refusal = n })

-- what each case of the result that carries the clock on stands for
abbrev pub update_told : Clock → Result Clock Refusal → Updated
update_told c (Ok after) = record { clock = after; refusal = 0 }
update_told c (Err r) = record { clock = c; refusal = number r }

-- ---- requests that ask for the same

-- the same in every argument that the first one flags; `T b` says that b holds
pub record SameArguments (u v : Request) : Type 0 where
  pub synthetic : T (has_synthetic u) → u.synthetic ≡ v.synthetic
  pub reference : T (has_reference u) → u.reference ≡ v.reference
  pub rate : T (has_rate u) → u.rate ≡ v.rate
  pub error : T (has_error u) → u.error ≡ v.error

-- the very same word, and the same in every argument that counts: so arguments not flagged are ignored
pub record SameToTheWord (u v : Request) : Type 0 where
  pub word : u.word ≡ v.word
  pub arguments : SameArguments u v

-- the same request (02, R-11): both versions are known, which may differ; the words are the same below the version, in
-- the flags above all; and so is every argument that counts
pub record SameRequest (u v : Request) : Type 0 where
  pub known : T (version_known u.word)
  pub other_known : T (version_known v.word)
  pub flags : u.word % version_unit ≡ v.word % version_unit
  pub arguments : SameArguments u v
