-- What is taken for a clock, and what a clock that creation gave keeps to.
use mathlib.Core.Path.{◌≡◌, refl, ap, ◌∙◌, subst, subst⁻¹}
use mathlib.Core.Bool.{Bool, true, false, not, ◌&&◌}
use Prim.Native.Nat.{ℕ}
use native.Mathlib.Omega.{arith}
use lib.IntN.{ℤ, pos, ◌-ℤ◌}
use lib.Signed.{◌≤ℤ◌}
use lib.Dec.{T, eqb}
use Rattle.tables.proofs.Tests.{fails_second}
use Rattle.line.specs.Numbers.{outside}
use Rattle.line.specs.declared.Line.{Line}
use Rattle.line.proofs.Laws.{turned_rate}
use Rattle.std.proofs.lemmas.Int.{ints}
use Rattle.line.proofs.Linear.{≤ℤ_trans}
use Rattle.clock.specs.Numbers.{step_outside}
use Rattle.clock.specs.Clock.{is_running}
use Rattle.clock.specs.Taken.{is_clock, NOT_A_CLOCK}
use Rattle.clock.specs.Creation.{created}
use Rattle.clock.specs.Update.{has_synthetic, has_rate, point, effect, new_line, updated}
use Rattle.clock.specs.Calls.{Call, update, ask, call_table, after}
use Rattle.clock.specs.declared.Clock.{Clock}
use Rattle.clock.proofs.Values.{running_line, above_backstop}
use Rattle.clock.proofs.Taken.{taken_valid, taken_created, created_taken, resting_created, zeros_not_taken}
use Rattle.clock.proofs.Guarded.{guarded_apart}
use Rattle.clock.proofs.Rows.{refusal_is, call_lacks, either_way, passed_rows}
use Rattle.clock.proofs.Clocks.{updated_clock, after_clock, after_started}
use Rattle.demands.specs.Lives.{Gave}
use Rattle.demands.specs.Demand2.{NotBelow}
use Rattle.demands.specs.Kept.{CreationGivesClock, CallsLeaveClock, ClocksValid, UnstartedAsCreated, ZerosNoClock, ToldApart, StaysStarted, RateSteps, WithinRange, AnyReading, Kept, AlwaysKept}
use Rattle.demands.proofs.Rows.{gave, gives, Known, of_given}
use Rattle.demands.proofs.Walks.{kept_by_all}

-- ---- what is taken for a clock

pub creation_gives_clock : CreationGivesClock
creation_gives_clock word backstop now c e =
    let g = gave word backstop now c e in
    subst (λ (d : Clock). T (is_clock d)) g.is (created_taken word backstop now g.unrefused)

pub calls_leave_clock : CallsLeaveClock
calls_leave_clock = kept_by_all (λ c. T (is_clock c)) after_clock

pub clocks_valid : ClocksValid
clocks_valid = taken_valid

pub unstarted_as_created : UnstartedAsCreated
unstarted_as_created c t n =
    subst (λ (d : Clock). Gave c.word c.backstop c.latest d) (resting_created c t n)
    (gives c.word c.backstop c.latest (taken_created c t))

pub zeros_no_clock : ZerosNoClock
zeros_no_clock = zeros_not_taken

-- ---- whatever numbers are handed in

pub told_apart : ToldApart
told_apart c k = ap (λ (n : ℕ). eqb n NOT_A_CLOCK) (refusal_is c k) ∙ guarded_apart c (call_table c k) (call_lacks c k)

pub stays_started : StaysStarted
stays_started = kept_by_all (λ c. T (is_running c)) after_started

no_step : (a : ℤ) → T (not (step_outside (a -ℤ a)))
unfolding step_outside outside
no_step a =
    let none : a -ℤ a ≡ pos 0 = omega (arith, ints) in
    subst⁻¹ (λ z. T (not (step_outside z))) none tt

-- the new rate is the flagged one or the old one
effect_steps : (s a : Bool) (l : Line) (P S new : ℤ) → T (not (a && step_outside (new -ℤ l.rate))) →
    T (not (step_outside ((effect s a l P S new).rate -ℤ l.rate)))
unfolding effect
effect_steps true false l P S new t = no_step l.rate
effect_steps false true l P S new t = rw (turned_rate l P new) t
effect_steps true true l P S new t = t
effect_steps false false l P S new t = no_step l.rate

pub rate_steps : RateSteps
unfolding after updated new_line
rate_steps c (ask q) s = no_step c.line.rate
rate_steps c (update u now) s = either_way (λ b d. T (not (step_outside (d.line.rate -ℤ c.line.rate)))) c u now
    (λ t. subst⁻¹ (λ (l : Line). T (not (step_outside ((effect (has_synthetic u) (has_rate u) l (point u now) u.synthetic u.rate).rate -ℤ c.line.rate))))
    (running_line c s)
    (effect_steps (has_synthetic u) (has_rate u) c.line (point u now) u.synthetic u.rate
    (fails_second (is_running c) (has_rate u && step_outside (u.rate -ℤ c.line.rate)) s (passed_rows c u now t).row22)))
    (no_step c.line.rate)

pub reading_above : (c : Clock) (v t : ℤ) → Known c v t → c.backstop ≤ℤ v
reading_above c v t known =
    subst (λ (x : ℤ). c.backstop ≤ℤ x) known.is (above_backstop c t (taken_valid c known.taken) known.late)

pub any_reading : AnyReading
any_reading c k = (
  of_given (NotBelow c.backstop) c k tt (reading_above c),
  of_given WithinRange c k tt
      (λ v t known. record {
        low = ≤ℤ_trans (taken_valid c known.taken).backstop.low (reading_above c v t known);
        high = known.high;
      }),
)

-- ---- a clock that creation gave

pub created_kept : (word : ℕ) (backstop now : ℤ) (c : Clock) → Gave word backstop now c → Kept word backstop c
unfolding created
created_kept word backstop now c e = record {
  clock = creation_gives_clock word backstop now c e;
  same_word = subst (λ (d : Clock). d.word ≡ word) (gave word backstop now c e).is refl;
  same_backstop = subst (λ (d : Clock). d.backstop ≡ backstop) (gave word backstop now c e).is refl;
}

pub after_kept : (word : ℕ) (backstop : ℤ) (c : Clock) (k : Call) → Kept word backstop c → Kept word backstop (after c k)
unfolding after updated
after_kept word backstop c (ask q) h = h
after_kept word backstop c (update u now) h = either_way (λ b d. Kept word backstop d) c u now
    (λ t. record { clock = updated_clock c u now t; same_word = h.same_word; same_backstop = h.same_backstop }) h

pub always_kept : AlwaysKept
always_kept word backstop now c e calls =
    kept_by_all (Kept word backstop) (after_kept word backstop) c calls (created_kept word backstop now c e)
