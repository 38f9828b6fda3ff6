-- An accepted slip is taken by the writer, and gives the same bytes.
use mathlib.Core.Path.{◌≡◌, refl, sym, ap, ap₂, ◌∙◌, subst}
use mathlib.Core.Bool.{Bool, true, false, not, cond, ◌&&◌}
use mathlib.Core.List.{List, [], ◌∷◌, ◌++◌}
use Prim.Native.Nat.{ℕ, ◌^◌, ◌≤◌, ◌<◌}
use native.Mathlib.Nat.{mul-div_cancel, lt_of_lt_of_le}
use native.Mathlib.Omega.{arith}
use lib.Dec.{T, eqb, ltb, nltb→le, eqb→eq}
use lib.IntN.{pos, neg_ℤ}
use lib.ListN.{length, take, drop, get_or}
use lib.Pow.{pow_mono}
use lib.Seq.{take-length}
use Rattle.tables.specs.Tables.{◌when◌, first}
use Rattle.tables.proofs.Tables.{passed, nothing_told, first_passed}
use mir.Facts.{T_not-not, no_ltb}
use Rattle.tables.proofs.Tests.{neither}
use Rattle.line.specs.Numbers.{outside}
use Rattle.clock.specs.Numbers.{MAX_RATE, rate_outside}
use Rattle.clock.specs.Clock.{Permitted}
use Rattle.clock.specs.Update.{has_synthetic, has_reference, has_rate, has_error, end_of, word_wrong, values_beyond, rate_too_wide}
use Rattle.clock.specs.declared.Request.{Request}
use Rattle.clock.proofs.Ranges.{inside, zero_permitted}
use Rattle.fields.specs.Bits.{bytes_of, Bytes}
use Rattle.fields.specs.Record.{fields, packed}
use Rattle.fields.proofs.Records.{front}
use Rattle.slip.specs.Layout.{time_width, rate_width, error_width, rate_field, rate_of, rate_field_end, flagged_width, widths_by, slip_length, layout_by, layout}
use Rattle.slip.specs.Reading.{present, headed, values_by, values_in, rate_in, padding_in, header_table_by, fields_table, front_table_by, front_table, request_of, reading_front}
use Rattle.slip.specs.Writing.{in_slip, values_of, bytes_for, asked_table, writing_table, Outcome, writing}
use Rattle.slip.specs.declared.Received.{Received}
use Rattle.slip.proofs.Layouts.{flagged_le, total_layout, length_alike, layout_alike}
use Rattle.slip.proofs.Rates.{field_permitted}
use Rattle.slip.proofs.Fronts.{values_in_fit, front_enough, front_passed, front_received}
use Rattle.slip.proofs.Writings.{Writable, asked_passed, writing_filled}
use Rattle.slip.proofs.Versions.{slip_itself}
use Rattle.round_trips.proofs.Arguments.{flagged_kept, and_fails, time_within, rate_again}
use Rattle.round_trips.proofs.Fitting.{wrong_alike}

-- ---- an argument as the field that it was

rate_kept : (flagged : Bool) (n : ℕ) → n < 2 ^ flagged_width flagged rate_width → cond flagged (rate_field (cond flagged (rate_of n) (pos 0))) 0 ≡ n
rate_kept true n h = rate_again n
rate_kept false n h = flagged_kept false rate_width n h

rate_read : (flagged : Bool) (n : ℕ) → n ≤ rate_field_end → Permitted (cond flagged (rate_of n) (pos 0))
rate_read true n h = field_permitted n h
rate_read false n h = zero_permitted

-- a field of a time, flagged or not, holds a time of its word
time_read : (word : ℕ) (flagged : Bool) (n : ℕ) → n < 2 ^ flagged_width flagged (time_width word) → T (not (flagged && outside (pos 0) (end_of word) (pos n)))
time_read word flagged n h =
    and_fails flagged (outside (pos 0) (end_of word) (pos n))
    (time_within word n (lt_of_lt_of_le h (pow_mono {j = time_width word} (flagged_le flagged (time_width word)))))

six
    : {a b c d e f a' b' c' d' e' f' : ℕ} → a ≡ a' → b ≡ b' → c ≡ c' → d ≡ d' → e ≡ e' → f ≡ f'
    → a ∷ b ∷ c ∷ d ∷ e ∷ f ∷ [] ≡ a' ∷ b' ∷ c' ∷ d' ∷ e' ∷ f' ∷ []
six p q r s t u = rw (p, q, r, s, t, u)

-- ---- on the front of any bytes

-- the first n of some bytes, written to the front of a buffer
abbrev pub copied : ℕ → List ℕ → List ℕ → Outcome
copied n bytes buffer = record { refusal = 0; length = n; buffer = take n bytes ++ drop n buffer }

-- all of them
pub copied_all : (bytes buffer : List ℕ) → copied (length bytes) bytes buffer ≡ record { refusal = 0; length = length bytes; buffer = bytes ++ drop (length bytes) buffer }
copied_all bytes buffer =
    ap (λ (l : List ℕ). record { refusal = 0; length = length bytes; buffer = l ++ drop (length bytes) buffer }) (take-length bytes)

-- what the reader gives for them
abbrev request_in : List ℕ → Request
request_in bytes = request_of (headed bytes) (values_in bytes)

module _ (bytes : List ℕ) (z : first (front_table bytes) ≡ 0) where
  known : T (not (word_wrong (headed bytes)))
  unfolding front_table_by header_table_by fields_table
  known = passed 3 (front_table bytes) tt z

  rate_fits : rate_in (values_in bytes) ≤ rate_field_end
  unfolding front_table_by header_table_by fields_table
  rate_fits = nltb→le rate_field_end (rate_in (values_in bytes)) (passed 6 (front_table bytes) tt z)

  padding_zero : padding_in (values_in bytes) ≡ 0
  unfolding front_table_by header_table_by fields_table
  padding_zero = eqb→eq (padding_in (values_in bytes)) 0 (T_not-not (eqb (padding_in (values_in bytes)) 0) (passed 19 (front_table bytes) tt z))

  writable : Writable (request_in bytes)
  unfolding values_by layout_by widths_by fields values_beyond rate_too_wide rate_outside
  writable =
      let u = headed bytes in
      let v = request_in bytes in
      let end = end_of u.word in
      let f = values_in_fit bytes (front_enough bytes z) in
      let p = rate_read (has_rate u) (rate_in (values_in bytes)) rate_fits in
      record {
        word = subst (λ (b : Bool). T (not b)) (wrong_alike u v refl) known;
        values =
            neither (has_synthetic u && outside (pos 0) end v.synthetic) (has_reference u && outside (pos 0) end v.reference)
            (time_read u.word (has_synthetic u) (get_or (values_in bytes) 1 0) f.1.0)
            (time_read u.word (has_reference u) (get_or (values_in bytes) 2 0) f.1.1.0);
        rate = and_fails (has_rate u) (rate_outside v.rate) (inside (neg_ℤ MAX_RATE) MAX_RATE v.rate p.low p.high);
      }

  values_again : values_of (request_in bytes) ≡ values_in bytes
  unfolding values_of headed values_by layout_by widths_by fields
  values_again =
      let u = headed bytes in
      let f = values_in_fit bytes (front_enough bytes z) in
      six
      (mul-div_cancel (get_or (values_in bytes) 0 0) (omega arith))
      (flagged_kept (has_synthetic u) (time_width u.word) (get_or (values_in bytes) 1 0) f.1.0)
      (flagged_kept (has_reference u) (time_width u.word) (get_or (values_in bytes) 2 0) f.1.1.0)
      (rate_kept (has_rate u) (rate_in (values_in bytes)) f.1.1.1.0)
      (flagged_kept (has_error u) error_width (get_or (values_in bytes) 4 0) f.1.1.1.1.0)
      (sym padding_zero)

  -- its version is the one that the writer gives it
  in_its_version : in_slip (request_in bytes) ≡ request_in bytes
  unfolding front_table_by header_table_by fields_table
  in_its_version = slip_itself (request_in bytes) writable (passed 31 (front_table bytes) tt z)

  bytes_again : Bytes bytes → bytes_for (request_in bytes) ≡ take (slip_length (headed bytes)) bytes
  unfolding bytes_for values_by
  bytes_again hb =
      let u = headed bytes in
      let v = request_in bytes in
      ap₂ bytes_of (length_alike v u refl) (ap₂ packed (layout_alike v u refl) values_again) ∙ front (layout u) bytes (slip_length u) hb (total_layout u) (front_enough bytes z)

-- ---- written again

-- the writer takes what has room
pub takes : (u : Request) (size : ℕ) → Writable u → slip_length (in_slip u) ≤ size → first (writing_table u size) ≡ 0
unfolding asked_table writing_table
takes u size w h =
    first_passed (asked_table u) (21 when ltb size (slip_length (in_slip u)) ∷ []) tt (asked_passed u w)
    ∙ nothing_told (21 when ltb size (slip_length (in_slip u)) ∷ []) (no_ltb {a = size} {b = slip_length (in_slip u)} h, tt)

-- the slip on the front, into a buffer with room for it
pub front_rewritten
    : (bytes buffer : List ℕ) → Bytes bytes → (reading_front bytes).refusal ≡ 0 → (reading_front bytes).length ≤ length buffer
    → writing (reading_front bytes).request buffer ≡ copied (reading_front bytes).length bytes buffer
front_rewritten bytes buffer hb accepted =
    let v = request_in bytes in
    let z = front_passed present bytes accepted in
    let its = in_its_version bytes z in
    let same : slip_length (in_slip v) ≡ slip_length (headed bytes) = ap slip_length its ∙ length_alike v (headed bytes) refl in
    subst (λ (r : Received). r.length ≤ length buffer → writing r.request buffer ≡ copied r.length bytes buffer)
    (sym (front_received present bytes accepted))
    (λ h. sym (writing_filled v buffer (takes v (length buffer) (writable bytes z) (omega (arith, same))))
    ∙ ap₂ {C = Outcome} (λ k slip. record { refusal = 0; length = k; buffer = slip ++ drop k buffer }) same (ap bytes_for its ∙ bytes_again bytes z hb))
