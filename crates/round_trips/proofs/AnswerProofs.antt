-- Demand 1, of slips: each answer is what its table says, and what isn't flagged does not count.
use mathlib.Core.Path.{◌≡◌, refl, sym, ap, ◌∙◌, subst}
use mathlib.Core.Bool.{Bool, true, false, cond, ◌&&◌}
use mathlib.Core.List.{List, [], ◌∷◌, ◌++◌}
use Prim.Native.Nat.{ℕ, zero, suc, ◌%◌, ◌^◌}
use native.Mathlib.Nat.{suc-ne-zero}
use lib.Dec.{ltb, eqb-suc-zero}
use lib.IntN.{ℤ}
use lib.ListN.{length}
use Rattle.tables.specs.Tables.{Row, ◌when◌, first, answer_to, answer, Settled}
use Rattle.tables.proofs.Tables.{first_passed, first_refused, settled}
use Rattle.clock.specs.Numbers.{bit}
use Rattle.clock.specs.Update.{end_of, values_beyond, SameToTheWord}
use Rattle.clock.specs.declared.Request.{Request}
use Rattle.clock.proofs.Requests.{same_beyond, same_wide, ignored}
use Rattle.slip.specs.Layout.{widths_by, length_by, slip_length, padding_by, layout_by}
use Rattle.slip.specs.Reading.{headed, header_table_by, fields_table, front_table_by, front_table, received, refused_by, left_over, reading_by, reading_single}
use Rattle.slip.specs.Writing.{in_slip, values_of, bytes_for, asked_table, writing_table, filled, untouched, writing}
use Rattle.slip.specs.declared.Received.{Received}
use Rattle.slip.proofs.Layouts.{length_alike}
use Rattle.slip.proofs.Versions.{slip_same}
use Rattle.round_trips.proofs.Fitting.{wrong_alike}
use Rattle.round_trips.specs.Answers.{Demand1ReadSlip, single_table, Demand1ReadSingleSlip, Demand1WriteSlip, SameSlip}

pub demand1_read_slip : Demand1ReadSlip
unfolding reading_by front_table_by header_table_by fields_table
demand1_read_slip bytes = settled (front_table bytes) (received bytes) refused_by tt

-- the strict reading is what 01's rows say
single_told : (bytes : List ℕ) → reading_single bytes ≡ answer (single_table bytes) (received bytes) refused_by
unfolding reading_single reading_by front_table_by header_table_by fields_table
single_told bytes = go (first (front_table bytes)) refl
  where
    told : ℕ → Received
    told n = answer_to n (received bytes) refused_by

    last : List Row
    last = 20 when ltb (slip_length (headed bytes)) (length bytes) ∷ []

    long : (b : Bool) → cond b (refused_by 20) (received bytes) ≡ told (first (20 when b ∷ []))
    long true = refl
    long false = refl

    go : (n : ℕ) → first (front_table bytes) ≡ n → cond (left_over (told n) (length bytes)) (refused_by 20) (told n) ≡ told (first (front_table bytes ++ last))
    go zero e = long (ltb (slip_length (headed bytes)) (length bytes)) ∙ ap told (sym (first_passed (front_table bytes) last tt e))
    go (suc n) e =
        ap (λ (b : Bool). cond (b && ltb 0 (length bytes)) (refused_by 20) (refused_by (suc n))) (eqb-suc-zero n)
        ∙ ap told (sym e ∙ sym (first_refused (front_table bytes) last (λ z. suc-ne-zero n (sym e ∙ z))))

pub demand1_read_single_slip : Demand1ReadSingleSlip
unfolding front_table_by header_table_by fields_table
demand1_read_single_slip bytes =
    subst (λ (r : Received). Settled (single_table bytes) r (received bytes) refused_by) (sym (single_told bytes))
    (settled (single_table bytes) (received bytes) refused_by tt)

pub demand1_write_slip : Demand1WriteSlip
unfolding writing asked_table writing_table
demand1_write_slip u buffer = settled (writing_table u (length buffer)) (filled u buffer) (untouched buffer) tt

-- ---- a slip has each argument only behind its flag

module _ (w : ℕ) where
  abbrev request : ℤ → ℤ → ℤ → ℕ → Request
  request s p a e = record { word = w; synthetic = s; reference = p; rate = a; error = e }

  abbrev bytes : ℤ → ℤ → ℤ → ℕ → List ℕ
  bytes s p a e = bytes_for (request s p a e)

  -- the word alone decides the layout
  same_values : (s s' p p' a a' : ℤ) (e e' : ℕ) → values_of (request s p a e) ≡ values_of (request s' p' a' e') → bytes s p a e ≡ bytes s' p' a' e'
  unfolding widths_by length_by padding_by layout_by bytes_for
  same_values s s' p p' a a' e e' v = rw v

  synthetic_unflagged : (s s' p a : ℤ) (e : ℕ) → bit 57 w ≡ false → bytes s p a e ≡ bytes s' p a e
  unfolding values_of
  synthetic_unflagged s s' p a e h = same_values s s' p p a a e e (rw h)

  reference_unflagged : (s p p' a : ℤ) (e : ℕ) → bit 56 w ≡ false → bytes s p a e ≡ bytes s p' a e
  unfolding values_of
  reference_unflagged s p p' a e h = same_values s s p p' a a e e (rw h)

  rate_unflagged : (s p a a' : ℤ) (e : ℕ) → bit 55 w ≡ false → bytes s p a e ≡ bytes s p a' e
  unfolding values_of
  rate_unflagged s p a a' e h = same_values s s p p a a' e e (rw h)

  error_unflagged : (s p a : ℤ) (e e' : ℕ) → bit 54 w ≡ false → bytes s p a e ≡ bytes s p a e'
  unfolding values_of
  error_unflagged s p a e e' h = same_values s s p p a a e e' (rw h)

pub same_bytes : (u v : Request) → SameToTheWord u v → bytes_for u ≡ bytes_for v
same_bytes u v same =
    ignored (λ w s p a e. bytes w s p a e)
    (λ w s s' p a e. synthetic_unflagged w s s' p a e) (λ w s p p' a e. reference_unflagged w s p p' a e)
    (λ w s p a a' e. rate_unflagged w s p a a' e) (λ w s p a e e'. error_unflagged w s p a e e') u v same

-- what the writer asks of a request, and what it gives
pub same_slip : SameSlip
unfolding asked_table writing_table writing
same_slip u v buffer same =
    let below : u.word % 2 ^ 58 ≡ v.word % 2 ^ 58 = ap (λ (w : ℕ). w % 2 ^ 58) same.word in
    let slips = slip_same u v below same.arguments in
    rw (
      wrong_alike u v same.word,
      same_beyond u v below same.arguments (end_of u.word) ∙ ap (λ (w : ℕ). values_beyond (end_of w) v) same.word,
      same_wide u v below same.arguments,
      length_alike (in_slip u) (in_slip v) slips.word,
      same_bytes (in_slip u) (in_slip v) slips,
    )
