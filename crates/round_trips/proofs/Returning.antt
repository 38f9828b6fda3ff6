-- A written slip is read back, whatever follows it.
use mathlib.Core.Path.{◌≡◌, refl, sym, ap, ap₂, ◌∙◌, subst}
use mathlib.Core.Bool.{Bool, true, false, not, cond, ◌&&◌}
use mathlib.Core.List.{List, [], ◌++◌, append-nil}
use Prim.Native.Nat.{ℕ, ◌+◌, ◌≤◌}
use native.Mathlib.Omega.{arith}
use lib.Dec.{T}
use lib.IntN.{ℤ, pos, nat_abs}
use lib.ListN.{length, get_or, length-append}
use lib.Signed.{◌≤ℤ◌}
use borrow.Author.Tests.{le-ltb}
use Rattle.tables.specs.Tables.{first}
use Rattle.tables.proofs.Tables.{nothing_told, answered}
use mir.Facts.{no_ltb}
use Rattle.tables.proofs.Tests.{if_true, if_false, is_zero}
use Rattle.clock.specs.Clock.{Permitted}
use Rattle.clock.specs.Numbers.{END2}
use Rattle.clock.specs.Update.{is_version3, end_of, has_synthetic, has_reference, has_rate, has_error, SameArguments, SameRequest}
use Rattle.clock.specs.declared.Request.{Request}
use Rattle.clock.proofs.Requests.{synthetic_inside, reference_inside, rate_permitted, same_through, same_beyond, same_wide}
use Rattle.fields.specs.Bits.{row}
use Rattle.fields.specs.Field.{field}
use Rattle.fields.specs.Record.{fields}
use Rattle.fields.proofs.Rows.{row_append}
use Rattle.fields.proofs.Records.{fields_packed}
use Rattle.slip.specs.Layout.{header_width, header_of, word_of, bare, rate_field, rate_of, rate_field_end, widths_by, slip_length, layout_by, layout, is_needless, header_length}
use Rattle.slip.specs.Reading.{headed, values_by, values_in, rate_in, padding_in, header_table_by, fields_table, front_table_by, front_table, request_of, taken, received, refused_by, strictly, reading_by, reading_front, reading_single}
use Rattle.slip.specs.Writing.{in_slip, values_of, bytes_for, slip_of}
use Rattle.slip.specs.declared.Received.{Received}
use Rattle.round_trips.specs.RoundTrips.{UnflaggedZero, BackFrom, Sized}
use Rattle.slip.proofs.Layouts.{length_low, length_alike, layout_alike}
use Rattle.slip.proofs.Rates.{natural_back}
use Rattle.round_trips.proofs.Arguments.{rate_back}
use Rattle.slip.proofs.Writings.{Writable}
use Rattle.slip.proofs.Versions.{version_is_known, slip_version_lem, slip_below, slip_kept, slip_writable, slip_needed}
use Rattle.round_trips.proofs.Fitting.{wrong_alike, header_says, rate_fits, values_of_fit, length_bytes, row_bytes}

-- the same request, its arguments 0 where they aren't flagged
abbrev pub kept : Request → Request
kept u = record {
  word = u.word;
  synthetic = cond (has_synthetic u) u.synthetic (pos 0);
  reference = cond (has_reference u) u.reference (pos 0);
  rate = cond (has_rate u) u.rate (pos 0);
  error = cond (has_error u) u.error 0;
}

kept_arguments : (u : Request) → SameArguments u (kept u)
kept_arguments u = record {
  synthetic = λ t. sym (if_true (has_synthetic u) u.synthetic (pos 0) t);
  reference = λ t. sym (if_true (has_reference u) u.reference (pos 0) t);
  rate = λ t. sym (if_true (has_rate u) u.rate (pos 0) t);
  error = λ t. sym (if_true (has_error u) u.error 0 t);
}

kept_zero : (u : Request) → UnflaggedZero (kept u)
kept_zero u = record {
  synthetic = if_false (has_synthetic u) u.synthetic (pos 0);
  reference = if_false (has_reference u) u.reference (pos 0);
  rate = if_false (has_rate u) u.rate (pos 0);
  error = if_false (has_error u) u.error 0;
}

-- kept as its slip has it, it is still the same request
pub kept_same : (u : Request) → Writable u → SameRequest u (kept (in_slip u))
kept_same u w =
    let slip = in_slip u in
    record {
      known = version_is_known u w.word;
      other_known = version_is_known slip (slip_writable u w).word;
      flags = sym (slip_below u);
      arguments = same_through u slip (kept slip) (sym (slip_below u)) (slip_kept u) (kept_arguments slip);
    }

pub kept_writable : (u : Request) → Writable u → Writable (kept u)
kept_writable u w = record {
  word = w.word;
  values = subst (λ (b : Bool). T (not b)) (same_beyond u (kept u) refl (kept_arguments u) (end_of u.word)) w.values;
  rate = subst (λ (b : Bool). T (not b)) (same_wide u (kept u) refl (kept_arguments u)) w.rate;
}

pub kept_back : (u : Request) → Writable u → BackFrom u (kept (in_slip u))
kept_back u w = record { same = kept_same u w; version = slip_version_lem u; zero = kept_zero (in_slip u) }

-- ---- a field as the argument that it was

time_kept : (flagged : Bool) (x : ℤ) → (T flagged → pos 0 ≤ℤ x) → pos (cond flagged (nat_abs x) 0) ≡ cond flagged x (pos 0)
time_kept true x h = natural_back x (h tt)
time_kept false x h = refl

rate_kept
    : (flagged : Bool) (a : ℤ) → (T flagged → Permitted a)
    → cond flagged (rate_of (cond flagged (rate_field a) 0)) (pos 0) ≡ cond flagged a (pos 0)
rate_kept true a h = rate_back a (h tt)
rate_kept false a h = refl

rate_le : (flagged : Bool) (n : ℕ) → (T flagged → n ≤ rate_field_end) → cond flagged n 0 ≤ rate_field_end
rate_le true n h = h tt
rate_le false n h = omega arith

request_kept : (u : Request) → Writable u → request_of u (values_of u) ≡ kept u
unfolding values_of
request_kept u w =
    rw (
      time_kept (has_synthetic u) u.synthetic (λ t. (synthetic_inside u w.values t).0),
      time_kept (has_reference u) u.reference (λ t. (reference_inside u w.values t).0),
      rate_kept (has_rate u) u.rate (rate_permitted u w.rate),
    )

-- ---- on the front of any bytes

module _ (u : Request) (w : Writable u) (needed : T (not (is_needless u))) (s : Sized u) (rest : List ℕ) where
  abbrev bytes : List ℕ
  bytes = bytes_for u ++ rest

  values_there : fields bytes 0 (layout u) ≡ values_of u
  values_there =
      fields_packed (layout u) (values_of u) bytes 0 [] (row rest) (values_of_fit u w s)
      (row_append (bytes_for u) rest ∙ ap (λ (r : List Bool). r ++ row rest) (row_bytes u)) refl

  header_there : field bytes 0 header_width ≡ header_of u.word
  unfolding fields layout_by widths_by values_of
  header_there = ap (λ (vs : List ℕ). get_or vs 0 0) values_there

  word_there : (headed bytes).word ≡ u.word
  unfolding headed
  word_there = ap word_of header_there ∙ header_says u w.word

  values_read : values_in bytes ≡ values_of u
  unfolding values_by
  values_read = ap (fields bytes 0) (layout_alike (headed bytes) u word_there) ∙ values_there

  length_there : length bytes ≡ slip_length u + length rest
  length_there = omega (arith, length-append (bytes_for u) rest, length_bytes u)

  rate_there : rate_in (values_in bytes) ≤ rate_field_end
  unfolding values_of
  rate_there = subst (λ (vs : List ℕ). rate_in vs ≤ rate_field_end) (sym values_read) (rate_le (has_rate u) (rate_field u.rate) (rate_fits u w))

  padding_there : padding_in (values_in bytes) ≡ 0
  unfolding values_of
  padding_there = ap (λ (vs : List ℕ). padding_in vs) values_read

  request_there : request_of (headed bytes) (values_in bytes) ≡ kept u
  request_there = ap₂ (λ (word : ℕ) (vs : List ℕ). request_of (bare word) vs) word_there values_read ∙ request_kept u w

  needed_there : T (not (is_needless (request_of (headed bytes) (values_in bytes))))
  needed_there =
      subst (λ (v : Request). T (not (is_needless v))) (sym request_there)
      (subst (λ (beyond : Bool). T (not (is_version3 u.word && not beyond))) (same_beyond u (kept u) refl (kept_arguments u) END2) needed)

  there_passed : first (front_table bytes) ≡ 0
  unfolding front_table_by header_table_by fields_table
  there_passed =
      nothing_told (front_table bytes) (
        no_ltb {a = length bytes} {b = header_length} (omega (arith, length_there, length_low u)),
        (
          subst (λ (b : Bool). T (not b)) (sym (wrong_alike (headed bytes) u word_there)) w.word,
          (
            no_ltb {a = length bytes} {b = slip_length (headed bytes)} (omega (arith, length_there, length_alike (headed bytes) u word_there)),
            (no_ltb {a = rate_field_end} {b = rate_in (values_in bytes)} rate_there, (is_zero (padding_in (values_in bytes)) padding_there, (needed_there, tt))),
          ),
        ),
      )

  front_read : reading_front bytes ≡ taken (kept u) (slip_length u)
  unfolding reading_by
  front_read =
      sym (answered (front_table bytes) (received bytes) refused_by there_passed)
      ∙ ap₂ taken request_there (length_alike (headed bytes) u word_there)

-- ---- a slip, with any bytes behind it

pub slip_front
    : (u : Request) → Writable u → Sized u → (rest : List ℕ) → reading_front (slip_of u ++ rest) ≡ taken (kept (in_slip u)) (slip_length (in_slip u))
unfolding in_slip
slip_front u w s rest = front_read (in_slip u) (slip_writable u w) (slip_needed u) s rest

-- and alone
pub slip_alone : (u : Request) → Writable u → Sized u → reading_front (slip_of u) ≡ taken (kept (in_slip u)) (slip_length (in_slip u))
slip_alone u w s = ap reading_front (sym (append-nil (slip_of u))) ∙ slip_front u w s []

pub slip_read : (u : Request) → Writable u → Sized u → reading_single (slip_of u) ≡ taken (kept (in_slip u)) (slip_length (in_slip u))
unfolding reading_single
slip_read u w s =
    let size = slip_length (in_slip u) in
    let r : Received = taken (kept (in_slip u)) size in
    ap₂ (λ (x : Received) (n : ℕ). strictly x n) (slip_alone u w s) (length_bytes (in_slip u))
    ∙ ap (λ (b : Bool). cond b (refused_by 20) r) (le-ltb size size (omega arith))
