-- The reader before R-11 beside ours: both are instances of one definition, and differ in version 3 alone.
use mathlib.Core.Path.{◌≡◌, refl, sym, ap, ap₂, ◌∙◌, subst}
use mathlib.Core.Bool.{Bool, true, false, not, cond, ◌&&◌, ◌||◌}
use mathlib.Core.List.{List, [], ◌∷◌, ◌++◌}
use Prim.Native.Nat.{ℕ, ◌+◌, ◌%◌, ◌^◌, ◌≤◌, ◌<◌}
use native.Mathlib.Nat.{suc-ne-zero, zero-add, add_assoc}
use native.Mathlib.Omega.{arith}
use lib.Dec.{T, eqb, leb, eqb→eq, leb→le, le→leb, nleb→lt}
use lib.ListN.{length, drop}
use lib.Seq.{drop-drop}
use mir.Facts.{and_yes, T_not-not, or_no}
use borrow.Author.Tests.{lt-ltb, le-ltb}
use Rattle.tables.proofs.Tests.{by_cases, is_true, is_false, fails_second}
use Rattle.tables.proofs.Tables.{passed}
use Rattle.clock.specs.Update.{version, is_version3, wrong_unless}
use Rattle.clock.specs.declared.Request.{Request}
use Rattle.slip.specs.Layout.{fits_version2, header_length}
use Rattle.slip.specs.Reading.{Edition, present, headed, values_by, header_table_by, fields_table, front_table_by, refused_by, reading_by, reading_front, strictly, reading_single}
use Rattle.slip.specs.Writing.{in_slip, slip_of}
use Rattle.slip.specs.Row.{RowRead, stopped_by, ahead, row_after, reading_row}
use Rattle.slip.specs.declared.Received.{Received}
use Rattle.slip.proofs.Fronts.{front_within, front_passed, front_received, front_some}
use Rattle.slip.proofs.Layouts.{length_low}
use Rattle.slip.proofs.Writings.{Writable}
use Rattle.slip.proofs.Versions.{slip_version_lem}
use Rattle.slip.proofs.Rows.{row_taken, row_refused, by_slips}
use Rattle.round_trips.specs.OldReader.{before, old_front, old_single, says_version3, OldRefuses, OldAgrees, OldReadsWritten, extended, UpToVersion3, OldRow}
use Rattle.round_trips.specs.RoundTrips.{Sized}
use Rattle.round_trips.proofs.Fitting.{length_bytes}
use Rattle.round_trips.proofs.Taken.{written_writable}
use Rattle.round_trips.proofs.Returning.{slip_alone}

-- ---- one slip

module _ (bytes : List ℕ) where
  abbrev word : ℕ
  word = (headed bytes).word

  -- what an edition says of the header's word is all that matters
  edition_alike : (e f : Edition) → e.knows word ≡ f.knows word → e.time_width word ≡ f.time_width word → reading_by e bytes ≡ reading_by f bytes
  unfolding values_by header_table_by front_table_by reading_by
  edition_alike e f k t = ap₂ (λ (known : Bool) (time : ℕ). reading_by (record { knows = λ w. known; time_width = λ w. time }) bytes) k t

  -- with no header nothing does
  no_header : (e : Edition) → length bytes < header_length → reading_by e bytes ≡ refused_by 18
  unfolding header_table_by front_table_by reading_by
  no_header e h = simp (lt-ltb (length bytes) header_length h)

  unknown : (e : Edition) → header_length ≤ length bytes → e.knows word ≡ false → reading_by e bytes ≡ refused_by 3
  unfolding header_table_by front_table_by reading_by wrong_unless
  unknown e h k = simp (le-ltb (length bytes) header_length h, k)

  -- version 3 is not version 2
  front_refuses : T (says_version3 bytes) → old_front bytes ≡ refused_by 3
  front_refuses t =
      let parts = and_yes (leb header_length (length bytes)) (is_version3 word) t in
      unknown before (leb→le header_length (length bytes) parts.0) (ap (λ (n : ℕ). eqb n 2) (eqb→eq (version word) 3 parts.1))

  front_agrees : T (not (says_version3 bytes)) → old_front bytes ≡ reading_front bytes
  front_agrees n =
      by_cases (leb header_length (length bytes))
      (λ some. headed_agrees (is_false (is_version3 word) (fails_second (leb header_length (length bytes)) (is_version3 word) some n)))
      (λ few. no_header before (nleb→lt header_length (length bytes) few) ∙ sym (no_header present (nleb→lt header_length (length bytes) few)))
    where
      or_none : (a : Bool) → a ≡ (a || false)
      or_none true = refl
      or_none false = refl

      headed_agrees : is_version3 word ≡ false → old_front bytes ≡ reading_front bytes
      headed_agrees e =
          edition_alike before present
          (or_none (eqb (version word) 2) ∙ ap (λ (newer : Bool). eqb (version word) 2 || newer) (sym e))
          (ap (λ (newer : Bool). cond newer 63 61) (sym e))

pub old_refuses : OldRefuses
old_refuses bytes t =
    let e = front_refuses bytes t in
    (e, ap (λ (r : Received). strictly r (length bytes)) e)

pub old_agrees : OldAgrees
unfolding reading_single
old_agrees bytes n =
    let e = front_agrees bytes n in
    (e, ap (λ (r : Received). strictly r (length bytes)) e)

-- what holds where it is refused with 3, and of what our reader gives, holds of what the old one gives
by_version : (bytes : List ℕ) (Q : Received → Type 0) → (T (says_version3 bytes) → Q (refused_by 3)) → (T (not (says_version3 bytes)) → Q (reading_front bytes)) → Q (old_front bytes)
by_version bytes Q three other =
    by_cases (says_version3 bytes)
    (λ t. subst Q (sym (front_refuses bytes t)) (three t))
    (λ n. subst Q (sym (front_agrees bytes n)) (other n))

-- ---- what ours writes

-- the header of a slip says version 3 where version 2 doesn't hold the request
written_says : (u : Request) → Writable u → Sized u → says_version3 (slip_of u) ≡ not (fits_version2 u)
written_says u w s =
    ap₂ (λ (some newer : Bool). some && newer) (is_true (leb header_length (length (slip_of u))) (le→leb header_length (length (slip_of u)) some))
    (ap is_version3 header ∙ ap (λ (n : ℕ). eqb n 3) (slip_version_lem u) ∙ three (fits_version2 u))
  where
    some : header_length ≤ length (slip_of u)
    some = omega (arith, length_bytes (in_slip u), length_low (in_slip u))

    header : word (slip_of u) ≡ (in_slip u).word
    header =
        let front = slip_alone u w s in
        ap (λ (r : Received). r.request.word)
        (sym (front_received present (slip_of u) (ap (λ (r : Received). r.refusal) front)) ∙ front)

    three : (fits : Bool) → eqb (cond fits 2 3) 3 ≡ not fits
    three true = refl
    three false = refl

pub old_reads_written : OldReadsWritten
old_reads_written u buffer s accepted = go (fits_version2 u) (written_says u (written_writable u buffer accepted) s)
  where
    go : (fits : Bool) → says_version3 (slip_of u) ≡ not fits → old_single (slip_of u) ≡ cond fits (reading_single (slip_of u)) (refused_by 3)
    go true e = (old_agrees (slip_of u) (subst (λ (b : Bool). T (not b)) (sym e) tt)).1
    go false e = (old_refuses (slip_of u) (subst T (sym e) tt)).1

-- ---- a row

old_some : (bytes : List ℕ) → (old_front bytes).refusal ≡ 0 → 0 < (old_front bytes).length
old_some bytes = by_version bytes (λ (r : Received). r.refusal ≡ 0 → 0 < r.length) (λ t e. absurd (suc-ne-zero 2 e)) (λ n e. front_some bytes e)

old_within : (bytes : List ℕ) → (old_front bytes).length ≤ length bytes
old_within bytes = by_version bytes (λ (r : Received). r.length ≤ length bytes) (λ t. omega arith) (λ n. front_within bytes)

-- what the old one takes has no version 3
taken_other : (bytes : List ℕ) → (old_front bytes).refusal ≡ 0 → T (not (says_version3 bytes))
taken_other bytes accepted =
    by_cases (says_version3 bytes) (λ t. absurd (suc-ne-zero 2 (sym (ap (λ (r : Received). r.refusal) (front_refuses bytes t)) ∙ accepted))) (λ n. n)

-- but version 2
taken_second : (bytes : List ℕ) → (old_front bytes).refusal ≡ 0 → version (old_front bytes).request.word ≡ 2
unfolding front_table_by header_table_by fields_table wrong_unless
taken_second bytes accepted =
    let second : Bool = eqb (version (word bytes)) 2 in
    let known = (or_no (not second) (not (eqb (word bytes % 2 ^ 54) 0)) (passed 3 (front_table_by before bytes) tt (front_passed before bytes accepted))).0 in
    ap (λ (r : Received). version r.request.word) (front_received before bytes accepted) ∙ eqb→eq (version (word bytes)) 2 (T_not-not second known)

pub old_row_lem : OldRow
unfolding row_after
old_row_lem = by_slips old_front old_some old_within UpToVersion3 none refused further
  where
    none : UpToVersion3 [] (stopped_by 0)
    none = record { none = tt; same = refl; stops = λ t. absurd t; alike = λ n. refl }

    -- a row behind no slips
    behind_none : (n : ℕ) (row : RowRead) → row ≡ extended (stopped_by n) row
    behind_none n row = ap {B = RowRead} (λ (k : ℕ). record { requests = row.requests; length = k; refusal = row.refusal }) (sym (zero-add row.length))

    refused : (bytes : List ℕ) → 0 < length bytes → ((old_front bytes).refusal ≡ 0 → ⊥) → UpToVersion3 bytes (stopped_by (old_front bytes).refusal)
    refused bytes some h = record {
      none = tt;
      same = behind_none (old_front bytes).refusal (reading_row bytes);
      stops = λ t. ap (λ (r : Received). r.refusal) (front_refuses bytes t);
      alike = λ n.
          let e : (old_front bytes).refusal ≡ (reading_front bytes).refusal = ap (λ (r : Received). r.refusal) (front_agrees bytes n) in
          ap stopped_by e ∙ sym (row_refused reading_front front_some front_within bytes some (λ z. h (e ∙ z)));
    }

    further
        : (bytes : List ℕ) (row : RowRead) → (old_front bytes).refusal ≡ 0 → UpToVersion3 (drop (old_front bytes).length bytes) row
        → UpToVersion3 bytes (ahead (old_front bytes) row)
    further bytes row accepted rest =
        let r = old_front bytes in
        let behind : List ℕ = drop r.length bytes in
        let left : drop row.length behind ≡ drop (r.length + row.length) bytes = drop-drop row.length r.length bytes in
        let agrees = front_agrees bytes (taken_other bytes accepted) in
        let ours : reading_row bytes ≡ ahead r (reading_row behind) =
        row_taken reading_front front_some front_within bytes (sym (ap (λ (x : Received). x.refusal) agrees) ∙ accepted)
        ∙ ap (λ (x : Received). ahead x (reading_row (drop x.length bytes))) (sym agrees) in
        record {
          none = (taken_second bytes accepted, rest.none);
          same = ours ∙ ap (ahead r) rest.same ∙ joined r row (reading_row (drop row.length behind)) ∙ ap (λ (l : List ℕ). extended (ahead r row) (reading_row l)) left;
          stops = λ t. rest.stops (subst (λ (l : List ℕ). T (says_version3 l)) (sym left) t);
          alike = λ n. ap (ahead r) (rest.alike (subst (λ (l : List ℕ). T (not (says_version3 l))) (sym left) n)) ∙ sym ours;
        }
      where
        joined : (r : Received) (row others : RowRead) → ahead r (extended row others) ≡ extended (ahead r row) others
        joined r row others =
            ap {B = RowRead} (λ (k : ℕ). record { requests = r.request ∷ row.requests ++ others.requests; length = k; refusal = others.refusal })
            (sym (add_assoc r.length row.length others.length))
