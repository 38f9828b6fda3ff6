-- What the writer took fits the slip's fields, and its header says the word.
use mathlib.Core.Path.{◌≡◌, ap, ◌∙◌}
use mathlib.Core.Bool.{Bool, true, false, not, ◌||◌}
use Prim.Native.Nat.{ℕ, ◌%◌, ◌^◌, ◌≤◌, ◌<◌}
use native.Mathlib.Omega.{arith}
use lib.Dec.{T, eqb, eqb→eq}
use lib.IntN.{nat_abs}
use lib.ListN.{length}
use lib.Pow.{pow_pos}
use Rattle.clock.specs.Update.{has_synthetic, has_reference, has_rate, has_error, version, is_version3, version_known, wrong_unless, word_wrong}
use Rattle.clock.specs.declared.Request.{Request}
use mir.Facts.{T_not-not, or_no}
use Rattle.clock.proofs.Requests.{synthetic_inside, reference_inside, rate_permitted}
use Rattle.fields.specs.Bits.{row}
use Rattle.fields.specs.Record.{packed, Fit}
use Rattle.fields.proofs.Rows.{length_bytes_of, row_bytes_of}
use Rattle.fields.proofs.Records.{length_packed}
use Rattle.slip.specs.Layout.{header_width, header_of, word_of, time_width, rate_width, error_width, rate_field, rate_field_end, bare, widths_by, slip_length, padding, layout_by, layout}
use Rattle.slip.specs.Writing.{values_of, bytes_for}
use Rattle.round_trips.specs.RoundTrips.{Sized}
use Rattle.slip.proofs.Layouts.{total_layout}
use Rattle.slip.proofs.Rates.{rate_high}
use Rattle.round_trips.proofs.Arguments.{flagged_fits, time_fits}
use Rattle.slip.proofs.Writings.{Writable}
use Rattle.slip.proofs.Versions.{version_is_known}

-- ---- the word

-- only the word matters to rule 3
pub wrong_alike : (u v : Request) → u.word ≡ v.word → word_wrong u ≡ word_wrong v
unfolding wrong_unless
wrong_alike u v e = ap (λ (w : ℕ). word_wrong (bare w)) e

module _ (u : Request) (known : T (not (word_wrong u))) where
  version_low : version u.word ≤ 3
  version_low = go (eqb (version u.word) 2) (eqb→eq (version u.word) 2) (eqb→eq (version u.word) 3) (version_is_known u known)
    where
      go : (two : Bool) → (T two → version u.word ≡ 2) → (T (is_version3 u.word) → version u.word ≡ 3) → T (two || is_version3 u.word) →
          version u.word ≤ 3
      go true second third t = omega (arith, second tt)
      go false second third t = omega (arith, third t)

  low_zero : u.word % 2 ^ 54 ≡ 0
  unfolding wrong_unless
  low_zero =
      eqb→eq (u.word % 2 ^ 54) 0
      (T_not-not (eqb (u.word % 2 ^ 54) 0) (or_no (not (version_known u.word)) (not (eqb (u.word % 2 ^ 54) 0)) known).1)

  header_fits : header_of u.word < 2 ^ header_width
  header_fits = omega (arith, version_low)

  pub header_says : word_of (header_of u.word) ≡ u.word
  header_says = omega (arith, low_zero)

-- ---- the values

module _ (u : Request) (w : Writable u) where
  pub rate_fits : T (has_rate u) → rate_field u.rate ≤ rate_field_end
  rate_fits t = rate_high u.rate (rate_permitted u w.rate t)

  -- every value that is written fits its field
  pub values_of_fit : Sized u → Fit (layout u) (values_of u)
  unfolding layout_by widths_by values_of
  values_of_fit s = (
    header_fits u w.word,
    (
      flagged_fits (has_synthetic u) (time_width u.word) (nat_abs u.synthetic)
          (λ t. time_fits u.word u.synthetic (synthetic_inside u w.values t).0 (synthetic_inside u w.values t).1),
      (
        flagged_fits (has_reference u) (time_width u.word) (nat_abs u.reference)
            (λ t. time_fits u.word u.reference (reference_inside u w.values t).0 (reference_inside u w.values t).1),
        (
          flagged_fits (has_rate u) rate_width (rate_field u.rate) (λ t. omega (arith, rate_fits t)),
          (flagged_fits (has_error u) error_width u.error (λ t. s), (pow_pos (padding u), tt)),
        ),
      ),
    ),
  )

-- ---- the slip

pub length_bytes : (u : Request) → length (bytes_for u) ≡ slip_length u
unfolding bytes_for
length_bytes u = length_bytes_of (slip_length u) (packed (layout u) (values_of u))

pub row_bytes : (u : Request) → row (bytes_for u) ≡ packed (layout u) (values_of u)
unfolding bytes_for
row_bytes u = row_bytes_of (slip_length u) (packed (layout u) (values_of u)) (length_packed (layout u) (values_of u) ∙ total_layout u)
