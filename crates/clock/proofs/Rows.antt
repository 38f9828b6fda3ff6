-- What an accepted call leaves known. A row of a table is fetched by its number, so that a row added later disturbs nothing.
use mathlib.Core.Path.{◌≡◌, sym, ◌∙◌, subst⁻¹}
use mathlib.Core.Bool.{Bool, true, false, not, ◌&&◌, ◌||◌}
use Prim.Native.Nat.{ℕ}
use lib.IntN.{ℤ, ◌-ℤ◌}
use lib.Signed.{lt_z}
use lib.Dec.{T, eqb, eqb→eq}
use borrow.Author.Tests.{ne_eqb}
use Rattle.tables.specs.Tables.{first}
use Rattle.tables.proofs.Tables.{test, passed, lacks, by_answer}
use Rattle.line.specs.Line.{value_at}
use Rattle.clock.specs.Numbers.{END, time_outside, step_outside}
use Rattle.clock.specs.Clock.{is_running, monotonic, continuous, old_line, time_table}
use Rattle.clock.specs.Taken.{is_clock, NOT_A_CLOCK, guarded}
use Rattle.clock.specs.Reading.{reading_table, reading}
use Rattle.clock.specs.Update.{has_synthetic, has_reference, has_rate, replaces, values_outside, rate_too_wide, new_line, alone_table, allowed_table, request_table, new_line_table, update_table, updated, updating}
use Rattle.clock.specs.Details.{details_table, detailing}
use Rattle.clock.specs.Calls.{Call, update, ask, read, details, ask_table, call_table, refusal_of, accepted, after}
use Rattle.clock.specs.declared.Clock.{Clock}
use Rattle.clock.specs.declared.Request.{Request}
use Rattle.clock.specs.declared.Updated.{Updated}
use Rattle.clock.specs.declared.Reading.{Reading}
use Rattle.clock.specs.declared.Detailed.{Detailed}
use Rattle.clock.proofs.Guarded.{guarded_passed}

-- ---- any call

-- the refusal in an answer is its table's
pub refusal_is : (c : Clock) (k : Call) → refusal_of c k ≡ first (guarded c (call_table c k))
unfolding refusal_of call_table ask_table updating reading detailing
refusal_is c (update u now) =
    by_answer (guarded c (update_table c u now)) _ _ (λ (r : Updated). r.refusal ≡ first (guarded c (update_table c u now))) sym (λ n e h. sym e)
refusal_is c (ask (read now)) =
    by_answer (guarded c (reading_table c now)) _ _ (λ (r : Reading). r.refusal ≡ first (guarded c (reading_table c now))) sym (λ n e h. sym e)
refusal_is c (ask (details now)) =
    by_answer (guarded c (details_table c now)) _ _ (λ (r : Detailed). r.refusal ≡ first (guarded c (details_table c now))) sym (λ n e h. sym e)

-- what is accepted is refused by no row
pub call_unrefused : (c : Clock) (k : Call) → T (accepted c k) → first (guarded c (call_table c k)) ≡ 0
unfolding accepted
call_unrefused c k t = sym (refusal_is c k) ∙ eqb→eq (refusal_of c k) 0 t

-- it is a call on a clock, and its table lets it pass
pub call_passed : (c : Clock) (k : Call) → T (accepted c k) → T (is_clock c) × (first (call_table c k) ≡ 0)
call_passed c k t = guarded_passed c (call_table c k) (call_unrefused c k t)

-- no table of the paper's has the number of our own
pub call_lacks : (c : Clock) (k : Call) → T (lacks NOT_A_CLOCK (call_table c k))
unfolding call_table ask_table time_table alone_table allowed_table request_table new_line_table update_table reading_table details_table
call_lacks c (update u now) = tt
call_lacks c (ask (read now)) = tt
call_lacks c (ask (details now)) = tt

-- what holds of an update accepted and of one refused, each with the clock that it leaves, holds of every update
pub either_way : (P : Bool → Clock → Type 0) (c : Clock) (u : Request) (now : ℤ) →
    (T (accepted c (update u now)) → P true (updated c u now)) → P false c →
    P (accepted c (update u now)) (after c (update u now))
unfolding call_table accepted refusal_of after updating
either_way P c u now taken refused =
    by_answer (guarded c (update_table c u now)) _ _ (λ (r : Updated). P (eqb r.refusal 0) r.clock)
    (λ e. taken (subst⁻¹ (λ (n : ℕ). T (eqb n 0)) (refusal_is c (update u now) ∙ e) tt))
    (λ n e h. subst⁻¹ (λ (b : Bool). P b c) (ne_eqb n 0 h) refused)

-- ---- an update

-- what the rows leave known
pub record Passed (c : Clock) (u : Request) (now : ℤ) : Type 0 where
  pub row1 : T (not (time_outside now))
  pub row2 : T (not (lt_z now c.latest))
  pub row5 : T (not (values_outside u))
  pub row6 : T (not (rate_too_wide u))
  pub row8 : T (not (not (is_running c) && not (has_synthetic u)))
  pub row9 : T (not (continuous c.word && has_reference u))
  pub row10 : T (not (continuous c.word && is_running c && has_synthetic u))
  pub row22 : T (not (is_running c && (has_rate u && step_outside (u.rate -ℤ c.line.rate))))
  pub row12 : T (not (replaces u && (time_outside (new_line c u now).synthetic || lt_z END (value_at (new_line c u now) now))))
  pub row13 : T (not (replaces u && lt_z (value_at (new_line c u now) now) c.backstop))
  pub row14 : T (not (replaces u && (monotonic c.word && is_running c && lt_z (value_at (new_line c u now) now) (value_at (old_line c) now))))

pub passed_rows : (c : Clock) (u : Request) (now : ℤ) → T (accepted c (update u now)) → Passed c u now
unfolding time_table alone_table allowed_table request_table new_line_table update_table call_table
passed_rows c u now t =
    let fetched : (k : ℕ) → T (not (test k (update_table c u now))) = λ k. passed k (update_table c u now) tt (call_passed c (update u now) t).1 in
    record {
      row1 = fetched 1;
      row2 = fetched 2;
      row5 = fetched 5;
      row6 = fetched 6;
      row8 = fetched 8;
      row9 = fetched 9;
      row10 = fetched 10;
      row22 = fetched 22;
      row12 = fetched 12;
      row13 = fetched 13;
      row14 = fetched 14;
    }
