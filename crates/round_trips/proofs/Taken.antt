-- What is known of a single slip that was taken, and of a request that was written.
use mathlib.Core.Path.{◌≡◌, refl, sym, ap, ◌∙◌, subst}
use mathlib.Core.Bool.{Bool, true, false, not, cond}
use mathlib.Core.List.{List}
use Prim.Native.Nat.{ℕ, ◌≤◌}
use native.Mathlib.Nat.{suc-ne-zero}
use lib.Dec.{T, eqb, ltb, nltb→le}
use lib.ListN.{length, take, drop}
use lib.Seq.{take_at}
use Rattle.tables.specs.Tables.{first}
use Rattle.tables.proofs.Tables.{none_told}
use Rattle.tables.proofs.Tests.{fails_second}
use Rattle.clock.specs.declared.Request.{Request}
use Rattle.slip.specs.Layout.{slip_length}
use Rattle.slip.specs.Reading.{refused_by, left_over, reading_front, reading_single}
use Rattle.slip.specs.Writing.{in_slip, slip_of, writing_table, Outcome, filled, untouched, writing}
use Rattle.slip.specs.declared.Received.{Received}
use Rattle.slip.proofs.Writings.{Writable, taken, writing_filled}
use Rattle.round_trips.proofs.Fitting.{length_bytes}

-- ---- as a single slip

-- what is known of an answer that the strict reading let pass
record Whole (r : Received) (size : ℕ) : Type 0 where
  pub accepted : r.refusal ≡ 0
  pub is : cond (left_over r size) (refused_by 20) r ≡ r
  pub all : size ≤ r.length

whole : (r : Received) (size : ℕ) → (cond (left_over r size) (refused_by 20) r).refusal ≡ 0 → Whole r size
whole r size = go (left_over r size) refl
  where
    go : (b : Bool) → left_over r size ≡ b → (cond b (refused_by 20) r).refusal ≡ 0 → Whole r size
    go true e z = absurd (suc-ne-zero 19 z)
    go false e z = record {
      accepted = z;
      is = ap (λ (b : Bool). cond b (refused_by 20) r) e;
      all =
          nltb→le r.length size
          (fails_second (eqb r.refusal 0) (ltb r.length size) (subst (λ (n : ℕ). T (eqb n 0)) (sym z) tt) (subst (λ (b : Bool). T (not b)) (sym e) tt));
    }

module _ (bytes : List ℕ) (accepted : (reading_single bytes).refusal ≡ 0) where
  single : Whole (reading_front bytes) (length bytes)
  unfolding reading_single
  single = whole (reading_front bytes) (length bytes) accepted

  pub single_accepted : (reading_front bytes).refusal ≡ 0
  single_accepted = single.accepted

  pub single_front : reading_single bytes ≡ reading_front bytes
  unfolding reading_single
  single_front = single.is

  pub single_all : length bytes ≤ (reading_front bytes).length
  single_all = single.all

-- ---- written

module _ (u : Request) (buffer : List ℕ) (accepted : (writing u buffer).refusal ≡ 0) where
  passed : first (writing_table u (length buffer)) ≡ 0
  unfolding writing
  passed = none_told (writing_table u (length buffer)) (filled u buffer) (untouched buffer) (λ o. o.refusal) (λ n. refl) accepted

  written : writing u buffer ≡ filled u buffer
  written = sym (writing_filled u buffer passed)

  pub written_writable : Writable u
  written_writable = (taken u (length buffer) passed).0

  pub written_room : slip_length (in_slip u) ≤ length buffer
  written_room = (taken u (length buffer) passed).1

  pub written_slip : take (writing u buffer).length (writing u buffer).buffer ≡ slip_of u
  written_slip =
      ap (λ (o : Outcome). take o.length o.buffer) written
      ∙ take_at (slip_of u) (drop (slip_length (in_slip u)) buffer) (slip_length (in_slip u)) (length_bytes (in_slip u))

  pub written_size : (writing u buffer).length ≡ slip_length (in_slip u)
  written_size = ap (λ (o : Outcome). o.length) written
