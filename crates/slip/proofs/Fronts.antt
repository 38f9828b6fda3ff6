-- Reading case by case: a slip on the front of some bytes.
use mathlib.Core.Path.{◌≡◌, refl, sym, ap, ap₂, ◌∙◌, subst}
use mathlib.Core.List.{List}
use Prim.Native.Nat.{ℕ, ◌≤◌, ◌<◌}
use native.Mathlib.Nat.{lt_of_lt_of_le, le_trans}
use native.Mathlib.Omega.{arith}
use lib.Pow.{pow_mono}
use lib.ListN.{length}
use Rattle.std.specs.Prelude.{Result, Ok, Err}
use Rattle.tables.specs.Tables.{first, answer_to, answer}
use Rattle.tables.specs.Refusals.{number}
use Rattle.tables.specs.declared.Refusal.{Refusal}
use Rattle.tables.proofs.Tables.{first_passed, first_refused, none_front, none_applies, nothing_told, answered, none_told, by_answer, refused_by_lem}
use Rattle.clock.specs.Update.{has_synthetic, has_reference}
use Rattle.clock.specs.declared.Request.{Request}
use Rattle.fields.specs.Record.{fields, Fit}
use Rattle.fields.proofs.Records.{fields_fit}
use Rattle.slip.specs.Layout.{time_width, widths_by, slip_length, layout_by, layout, header_length}
use Rattle.slip.specs.Reading.{received_as, Edition, present, headed, values_by, values_in, header_table_by, header_table, fields_table, front_table_by, front_table, received_by, received, request_of, taken, refused_by, reading_by, reading_front}
use Rattle.slip.specs.Parts.{numbered, opened_by, opening, read_as, judging, Small}
use Rattle.slip.specs.declared.Received.{Received}
use Rattle.slip.specs.declared.Slip.{Slip}
use Rattle.slip.specs.declared.Opened.{Opened}
use Rattle.slip.proofs.Layouts.{flagged_le, time_narrow, total_layout, length_low}
use Rattle.slip.proofs.Told.{told_ok, told_err}
use Rattle.slip.proofs.Openings.{enough, opening_passed, opening_taken}

-- the answer of the fields' tests, told for C
judged_as : (asked : Request) (values : List ℕ) (size : ℕ) (told : Result Slip Refusal) → numbered told ≡ judging asked values size
    → received_as told ≡ answer (fields_table asked values) (taken (request_of asked values) size) refused_by
unfolding judging
judged_as asked values size (Ok slip) e =
    let t = told_ok (fields_table asked values) (read_as (request_of asked values) size) slip e in
    ap {B = Received} (λ (s : Slip). taken s.request s.length) t.1 ∙ answered (fields_table asked values) (taken (request_of asked values) size) refused_by t.0
judged_as asked values size (Err r) e =
    let t = told_err (fields_table asked values) (read_as (request_of asked values) size) (number r) e in
    refused_by_lem (fields_table asked values) (taken (request_of asked values) size) refused_by (number r) t.0 t.1

-- ---- the front

module _ (bytes : List ℕ) where
  -- every value that is read fits its field
  pub values_in_fit : slip_length (headed bytes) ≤ length bytes → Fit (layout (headed bytes)) (values_in bytes)
  unfolding values_by
  values_in_fit h = fields_fit (layout (headed bytes)) bytes 0 (omega (arith, total_layout (headed bytes)))

  values_in_small : slip_length (headed bytes) ≤ length bytes → Small (values_in bytes)
  unfolding values_by layout_by widths_by fields
  values_in_small h =
      let u = headed bytes in
      let f = values_in_fit h in
      record {
        synthetic = lt_of_lt_of_le f.1.0 (pow_mono {j = 63} (le_trans (flagged_le (has_synthetic u) (time_width u.word)) (time_narrow u.word)));
        reference = lt_of_lt_of_le f.1.1.0 (pow_mono {j = 63} (le_trans (flagged_le (has_reference u) (time_width u.word)) (time_narrow u.word)));
      }

  -- the refusal of its header stands
  pub front_refused : (n : ℕ) → Err n ≡ opening bytes → refused_by n ≡ reading_front bytes
  unfolding reading_by front_table_by opening
  front_refused n is =
      let t = told_err (header_table bytes) (opened_by (headed bytes)) n is in
      refused_by_lem (front_table bytes) (received bytes) refused_by n
      (t.0 ∙ sym (first_refused (header_table bytes) (fields_table (headed bytes) (values_in bytes)) (λ z. t.1 (t.0 ∙ z)))) t.1

  -- what the header calls for, and the values that were taken by it, give the reading of the front
  module _ (opened : Opened) (values : List ℕ) (is : Ok opened ≡ opening bytes) (taken : values ≡ fields bytes 0 opened.sizes.layout) where
    values_are : values ≡ values_in bytes
    unfolding values_by
    values_are = taken ∙ ap (λ (o : Opened). fields bytes 0 o.sizes.layout) (opening_taken bytes opened is)

    pub opened_small : Small values
    opened_small = subst Small (sym values_are) (values_in_small (enough bytes (opening_passed bytes opened is)))

    pub opened_judged : (told : Result Slip Refusal) → numbered told ≡ judging opened.asked values opened.sizes.length → received_as told ≡ reading_front bytes
    unfolding reading_by front_table_by header_table_by
    opened_judged told e =
        judged_as (headed bytes) (values_in bytes) (slip_length (headed bytes)) told
        (e ∙ ap₂ (λ (o : Opened) (vs : List ℕ). judging o.asked vs o.sizes.length) (opening_taken bytes opened is) values_are)
        ∙ ap (λ (n : ℕ). answer_to n (received bytes) refused_by)
        (sym (first_passed (header_table bytes) (fields_table (headed bytes) (values_in bytes)) tt (opening_passed bytes opened is)))

-- ---- what was taken, and what was refused

-- by a reader that knows whatever it may
module _ (e : Edition) (bytes : List ℕ) (accepted : (reading_by e bytes).refusal ≡ 0) where
  pub front_passed : first (front_table_by e bytes) ≡ 0
  unfolding reading_by
  front_passed = none_told (front_table_by e bytes) (received_by e bytes) refused_by (λ r. r.refusal) (λ n. refl) accepted

  pub front_received : reading_by e bytes ≡ received_by e bytes
  unfolding reading_by
  front_received = sym (answered (front_table_by e bytes) (received_by e bytes) refused_by front_passed)

module _ (bytes : List ℕ) where
  -- the bytes are as many as the header calls for
  pub front_enough : first (front_table bytes) ≡ 0 → slip_length (headed bytes) ≤ length bytes
  unfolding front_table_by header_table_by fields_table
  front_enough e =
      enough bytes
      (nothing_told (header_table bytes) (none_front (header_table bytes) (fields_table (headed bytes) (values_in bytes)) (none_applies (front_table bytes) tt e)))

  -- no more bytes are used than there are
  pub front_within : (reading_front bytes).length ≤ length bytes
  unfolding reading_by
  front_within =
      by_answer (front_table bytes) (received bytes) refused_by (λ (r : Received). r.length ≤ length bytes)
      (λ e. front_enough e)
      (λ n e h. omega arith)

  -- a refused one is zeros but for its number
  pub front_zeros : ((reading_front bytes).refusal ≡ 0 → ⊥) → reading_front bytes ≡ refused_by (reading_front bytes).refusal
  unfolding reading_by
  front_zeros =
      by_answer (front_table bytes) (received bytes) refused_by (λ (r : Received). (r.refusal ≡ 0 → ⊥) → r ≡ refused_by r.refusal)
      (λ e h. absurd (h refl))
      (λ n e h t. refl)

  module _ (accepted : (reading_front bytes).refusal ≡ 0) where
    pub front_size : (reading_front bytes).length ≡ slip_length (headed bytes)
    front_size = ap (λ (r : Received). r.length) (front_received present bytes accepted)

    -- as many bytes as a header has, or more
    pub front_uses : header_length ≤ (reading_front bytes).length
    front_uses = omega (arith, front_size, length_low (headed bytes))

    pub front_some : 0 < (reading_front bytes).length
    front_some = omega (arith, front_uses)
