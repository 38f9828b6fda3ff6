-- The theorems of slips in a row, proved over the definitions alone.
use mathlib.Core.Path.{◌≡◌, refl, sym, ap, ap₂, ◌∙◌, subst}
use mathlib.Core.List.{List, [], ◌∷◌, ◌++◌, append_assoc}
use Prim.Native.Nat.{ℕ, zero, suc, ◌+◌, ◌≤◌, ◌<◌}
use native.Mathlib.Nat.{suc-ne-zero}
use native.Mathlib.Omega.{arith}
use lib.ListN.{length, take, drop, length-drop, take-append-drop}
use lib.Seq.{length-take-le, take_at, drop_at, take-add, drop-drop, take-append-add}
use Rattle.tables.specs.Tables.{answer_to}
use Rattle.clock.specs.declared.Request.{Request}
use Rattle.fields.specs.Bits.{Bytes}
use Rattle.fields.specs.Lent.{from}
use Rattle.fields.proofs.Lents.{from_the_front}
use Rattle.fields.proofs.Rows.{bytes_drop}
use Rattle.slip.specs.Layout.{slip_length}
use Rattle.slip.specs.Reading.{headed, header_table_by, fields_table, front_table_by, taken, reading_by, reading_front}
use Rattle.slip.specs.Writing.{in_slip, slip_of, Outcome, writing}
use Rattle.slip.specs.Row.{reading_next, RowRead, stopped_by, ahead, row_after, reading_row}
use Rattle.slip.specs.declared.Received.{Received}
use Rattle.slip.proofs.Fronts.{front_within, front_zeros, front_size, front_uses, front_some}
use Rattle.slip.proofs.Rows.{row_step, row_taken, by_slips}
use Rattle.slip.proofs.Writings.{Writable}
use Rattle.round_trips.specs.Rows.{SlipUses, RefusedHandedBack, SlipKept, NoBytes, RowSteps, Stops, RowStops, followed_by, writing_row, RowRewritten, AllSized, SameRequests, RowReadsAs, RowReadsBack}
use Rattle.round_trips.proofs.Fitting.{length_bytes}
use Rattle.round_trips.proofs.Taken.{written_writable, written_slip, written_size}
use Rattle.round_trips.proofs.Returning.{kept, kept_back, slip_front}
use Rattle.round_trips.proofs.Rewriting.{copied, copied_all, front_rewritten}
use Rattle.round_trips.proofs.Following.{headed_ahead, front_ahead}

-- ---- one slip

pub slip_uses : SlipUses
slip_uses bytes accepted = (front_uses bytes accepted, front_within bytes)

pub refused_handed_back : RefusedHandedBack
unfolding reading_next
refused_handed_back bytes h = ap (λ (r : Received). from r.length bytes) (front_zeros bytes.now h) ∙ from_the_front bytes

pub slip_kept : SlipKept
slip_kept bytes others accepted =
    let n = (reading_front bytes).length in
    let slip : List ℕ = take n bytes in
    let uses = slip_uses bytes accepted in
    let long : length slip ≡ n = length-take-le n bytes uses.1 in
    let some : 2 ≤ length slip = omega (arith, uses.0, long) in
    let whole : slip ++ drop n bytes ≡ bytes = take-append-drop n bytes in
    let called : slip_length (headed slip) ≡ n =
    ap slip_length (sym (headed_ahead slip (drop n bytes) some) ∙ ap headed whole) ∙ sym (front_size bytes accepted) in
    let all : slip_length (headed slip) ≤ length slip = omega (arith, called, long) in
    front_ahead slip others some all ∙ sym (front_ahead slip (drop n bytes) some all) ∙ ap reading_front whole

-- ---- a row, step by step

pub no_bytes : NoBytes
unfolding reading_by front_table_by header_table_by fields_table row_after
no_bytes = record { slip = refl; row = refl }

pub row_steps : RowSteps
unfolding reading_next
row_steps bytes some = row_step reading_front front_some front_within bytes.now some

pub row_stops : RowStops
row_stops = by_slips reading_front front_some front_within Stops none refused further
  where
    none : Stops [] (stopped_by 0)
    none = record { ended = λ e. refl; ahead = λ h. absurd (h refl); refused = λ h. absurd (h refl); few = omega arith }

    refused : (bytes : List ℕ) → 0 < length bytes → ((reading_front bytes).refusal ≡ 0 → ⊥) → Stops bytes (stopped_by (reading_front bytes).refusal)
    refused bytes some h = record { ended = λ e. absurd (h e); ahead = λ t. some; refused = λ t. front_zeros bytes h; few = omega arith }

    further
        : (bytes : List ℕ) (row : RowRead) → (reading_front bytes).refusal ≡ 0 → Stops (drop (reading_front bytes).length bytes) row
        → Stops bytes (ahead (reading_front bytes) row)
    further bytes row accepted s =
        let n = (reading_front bytes).length in
        let uses = slip_uses bytes accepted in
        let left = length-drop n bytes in
        record {
          ended = λ e. omega (arith, s.ended e, left, uses.1);
          ahead = λ h. omega (arith, s.ahead h, left, uses.1);
          refused = λ h. ap reading_front (sym (drop-drop row.length n bytes)) ∙ s.refused h;
          few = omega (arith, s.few, uses.0);
        }

-- ---- read, then written

-- two parts, one behind the other, are their sum
both_copied
    : (n m : ℕ) (bytes buffer : List ℕ) → n ≤ length bytes
    → followed_by (copied n bytes buffer) (copied m (drop n bytes) (drop n buffer)) ≡ copied (n + m) bytes buffer
both_copied n m bytes buffer h =
    ap {B = Outcome} (λ (l : List ℕ). record { refusal = 0; length = n + m; buffer = l })
    (ap (λ (l : List ℕ). l ++ (take m (drop n bytes) ++ drop m (drop n buffer))) (take_at (take n bytes) (drop n buffer) n (length-take-le n bytes h))
    ∙ sym (append_assoc (take n bytes) (take m (drop n bytes)) (drop m (drop n buffer)))
    ∙ ap₂ (λ (x y : List ℕ). x ++ y) (sym (take-add n m bytes)) (drop-drop m n buffer))

-- what was taken of a row is written as the bytes that it came from
abbrev Again : List ℕ → RowRead → Type 0
Again bytes row = (buffer : List ℕ) → Bytes bytes → row.length ≤ length buffer → writing_row row.requests buffer ≡ copied row.length bytes buffer

again : (bytes : List ℕ) → Again bytes (reading_row bytes)
unfolding writing_row
again = by_slips reading_front front_some front_within Again (λ buffer hb h. refl) (λ bytes some t buffer hb h. refl) further
  where
    further
        : (bytes : List ℕ) (row : RowRead) → (reading_front bytes).refusal ≡ 0 → Again (drop (reading_front bytes).length bytes) row
        → Again bytes (ahead (reading_front bytes) row)
    further bytes row accepted again_behind buffer hb h =
        let n = (reading_front bytes).length in
        let us = row.requests in
        let within = (slip_uses bytes accepted).1 in
        ap (λ (o : Outcome). answer_to o.refusal (followed_by o (writing_row us (drop o.length o.buffer))) (λ k. o))
        (front_rewritten bytes buffer hb accepted (omega arith))
        ∙ ap (λ (l : List ℕ). followed_by (copied n bytes buffer) (writing_row us l)) (drop_at (take n bytes) (drop n buffer) n (length-take-le n bytes within))
        ∙ ap (followed_by (copied n bytes buffer)) (again_behind (drop n buffer) (bytes_drop n bytes hb) (omega (arith, length-drop n buffer)))
        ∙ both_copied n row.length bytes buffer within

pub row_rewritten : RowRewritten
row_rewritten bytes buffer hb accepted h =
    let all : (reading_row bytes).length ≡ length bytes = (row_stops bytes).ended accepted in
    again bytes buffer hb (omega (arith, all))
    ∙ ap (λ (n : ℕ). copied n bytes buffer) all
    ∙ copied_all bytes buffer

-- ---- written, then read

abbrev slips_of : List Request → List ℕ
slips_of [] = []
slips_of (u ∷ us) = slip_of u ++ slips_of us

abbrev AllWritable : List Request → Type 0
AllWritable [] = Unit
AllWritable (u ∷ us) = Writable u × AllWritable us

row_reads : (us : List Request) → AllWritable us → AllSized us → RowReadsAs us (slips_of us)
unfolding row_after
row_reads [] w s = record { accepted = refl; same = tt }
row_reads (u ∷ us) w s =
    let bytes = slips_of (u ∷ us) in
    let slip = in_slip u in
    let e : reading_front bytes ≡ taken (kept slip) (slip_length slip) = slip_front u w.0 s.0 (slips_of us) in
    let r : reading_row bytes ≡ ahead (taken (kept slip) (slip_length slip)) (reading_row (slips_of us)) =
    row_taken reading_front front_some front_within bytes (ap (λ (x : Received). x.refusal) e)
    ∙ ap (λ (x : Received). ahead x (reading_row (drop x.length bytes))) e
    ∙ ap (λ (l : List ℕ). ahead (taken (kept slip) (slip_length slip)) (reading_row l)) (drop_at (slip_of u) (slips_of us) (slip_length slip) (length_bytes slip)) in
    let rest = row_reads us w.1 s.1 in
    record {
      accepted = ap (λ (x : RowRead). x.refusal) r ∙ rest.accepted;
      same = subst (λ (x : RowRead). SameRequests (u ∷ us) x.requests) (sym r) (kept_back u w.0, rest.same);
    }

-- what was written of them, one after another
record WrittenAs (us : List Request) (o : Outcome) : Type 0 where
  pub writable : AllWritable us
  pub bytes : take o.length o.buffer ≡ slips_of us

-- the first request, and those behind it
module _ (u : Request) (us : List Request) (buffer : List ℕ) where
  first_written : (row : Outcome) → (writing u buffer).refusal ≡ 0 → WrittenAs us row → WrittenAs (u ∷ us) (followed_by (writing u buffer) row)
  first_written row accepted behind = record {
    writable = (written_writable u buffer accepted, behind.writable);
    bytes =
        ap₂ (λ (l : List ℕ) (n : ℕ). take (n + row.length) (l ++ row.buffer))
        (written_slip u buffer accepted) (written_size u buffer accepted ∙ sym (length_bytes (in_slip u)))
        ∙ take-append-add (slip_of u) row.buffer row.length
        ∙ ap (λ (l : List ℕ). slip_of u ++ l) behind.bytes;
  }

  module _ (behind : (rest : List ℕ) → (writing_row us rest).refusal ≡ 0 → WrittenAs us (writing_row us rest)) where
    abbrev rest : List ℕ
    rest = drop (writing u buffer).length (writing u buffer).buffer

    abbrev outcome_of : ℕ → Outcome
    outcome_of n = answer_to n (followed_by (writing u buffer) (writing_row us rest)) (λ k. writing u buffer)

    by_first : (n : ℕ) → (writing u buffer).refusal ≡ n → (outcome_of n).refusal ≡ 0 → WrittenAs (u ∷ us) (outcome_of n)
    by_first zero e z = first_written (writing_row us rest) e (behind rest z)
    by_first (suc n) e z = absurd (suc-ne-zero n (sym e ∙ z))

row_written : (us : List Request) (buffer : List ℕ) → (writing_row us buffer).refusal ≡ 0 → WrittenAs us (writing_row us buffer)
unfolding writing_row
row_written [] buffer accepted = record { writable = tt; bytes = refl }
row_written (u ∷ us) buffer accepted =
    by_first u us buffer (λ rest z. row_written us rest z) (writing u buffer).refusal refl accepted

pub row_reads_back : RowReadsBack
row_reads_back us buffer s accepted =
    let w = row_written us buffer accepted in
    subst (RowReadsAs us) (sym w.bytes) (row_reads us w.writable s)
