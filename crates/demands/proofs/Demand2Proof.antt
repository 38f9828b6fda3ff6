-- Demand 2: updates, the backstop, a monotonic clock, a continuous clock.
use mathlib.Core.Path.{◌≡◌, refl, ap, ◌∙◌, subst, subst⁻¹}
use mathlib.Core.Bool.{not, cond}
use mathlib.Core.List.{List, [], ◌∷◌, ◌++◌}
use Prim.Native.Nat.{ℕ}
use lib.IntN.{ℤ}
use lib.Signed.{◌≤ℤ◌, ≤ℤ_refl}
use lib.Dec.{T}
use Rattle.tables.proofs.Tests.{by_cases}
use Rattle.line.specs.Line.{exact_at}
use Rattle.line.specs.declared.Line.{Line}
use Rattle.line.proofs.Linear.{≤ℤ_trans}
use Rattle.line.proofs.Laws.{value_same}
use Rattle.clock.specs.Clock.{is_running, monotonic, Valid}
use Rattle.clock.specs.Taken.{is_clock}
use Rattle.clock.specs.Update.{new_line, updated}
use Rattle.clock.specs.Calls.{Call, update, ask, accepted, after, after_all, given}
use Rattle.clock.specs.declared.Clock.{Clock}
use Rattle.clock.specs.declared.Request.{Request}
use Rattle.clock.specs.Reading.{clock_value}
use Rattle.clock.proofs.Values.{running_line, running_value, running_old_value, resting_value, clock_rises, above_backstop}
use Rattle.clock.proofs.Taken.{taken_valid}
use Rattle.clock.proofs.Rows.{either_way}
use Rattle.clock.proofs.Clocks.{not_early, updated_started, updated_clock, after_clock}
use Rattle.demands.specs.Kept.{Kept}
use Rattle.demands.specs.Demand2.{NotBelow, time_of, value_of, moment, times, readings, From, NeverFalls, AgreeAt, Agrees}
use Rattle.demands.specs.Demand2.{AsWritten, Demand2Update, Demand2Backstop, Demand2Monotonic, Demand2Continuous}
use Rattle.demands.proofs.Rows.{Known, of_given}
use Rattle.demands.proofs.AcceptedUpdate.{new_not_back, new_agrees}
use Rattle.demands.proofs.Walks.{of_each, of_any}
use Rattle.demands.proofs.Demand1Proof.{demand1_clock}
use Rattle.demands.proofs.KeptProof.{creation_gives_clock, created_kept, after_kept, always_kept, reading_above}

-- ---- each call is as written

written : (c : Clock) (k : Call) → T (is_clock c) → AsWritten c k
written c (ask q) t = (demand1_clock c t).ask q
written c (update u now) t = (demand1_clock c t).update u now

pub demand2_update : Demand2Update
demand2_update word backstop now c e calls =
    of_each (λ d. T (is_clock d)) after_clock AsWritten written c calls (creation_gives_clock word backstop now c e)

-- ---- the backstop

call_not_below : (word : ℕ) (backstop : ℤ) (c : Clock) (k : Call) → Kept word backstop c → NotBelow backstop (given c k)
call_not_below word backstop c k h = of_given (NotBelow backstop) c k tt
    (λ v t known. subst (λ (b : ℤ). b ≤ℤ v) h.same_backstop (reading_above c v t known))

pub demand2_backstop : Demand2Backstop
demand2_backstop word backstop now c e calls =
    of_each (Kept word backstop) (after_kept word backstop) (λ d k. NotBelow backstop (given d k))
    (call_not_below word backstop) c calls (created_kept word backstop now c e)

-- ---- an accepted update never sets a monotonic clock back

updated_valid : (c : Clock) (u : Request) (now : ℤ) → T (accepted c (update u now)) → Valid (updated c u now)
updated_valid c u now t = taken_valid (updated c u now) (updated_clock c u now t)

pub update_not_back : (c : Clock) (u : Request) (now : ℤ) → T (accepted c (update u now)) → T (monotonic c.word) →
    clock_value c now ≤ℤ clock_value (updated c u now) now
unfolding updated
update_not_back c u now t m = by_cases (is_running c) running resting
  where
    running : T (is_running c) → clock_value c now ≤ℤ clock_value (updated c u now) now
    running s = rw (running_old_value c now s, running_value (updated c u now) now (updated_started c u now t)) (new_not_back c u now t m s)

    resting : T (not (is_running c)) → clock_value c now ≤ℤ clock_value (updated c u now) now
    resting n = rw (resting_value c now n) (above_backstop (updated c u now) now (updated_valid c u now t) (≤ℤ_refl now))

-- ---- a monotonic clock over times that don't fall

-- the monotonic clock c reads at least r from the time τ on
pub record ReadsFrom (τ r : ℤ) (c : Clock) : Type 0 where
  is_monotonic : T (monotonic c.word)
  at_least : (t : ℤ) → τ ≤ℤ t → r ≤ℤ clock_value c t

-- any monotonic clock, from its latest update on
pub reads_from_latest : (c : Clock) → Valid c → T (monotonic c.word) → ReadsFrom c.latest c.backstop c
reads_from_latest c v m = record { is_monotonic = m; at_least = λ t h. above_backstop c t v h }

-- an accepted update moves the time on and keeps the bound
pub reads_from_update : (τ r : ℤ) (c : Clock) (u : Request) (now : ℤ) → T (accepted c (update u now)) → τ ≤ℤ now →
    ReadsFrom τ r c → ReadsFrom now r (updated c u now)
unfolding updated
reads_from_update τ r c u now t h f = record {
  is_monotonic = f.is_monotonic;
  at_least = λ s l. ≤ℤ_trans (f.at_least now h)
      (≤ℤ_trans (update_not_back c u now t f.is_monotonic) (clock_rises (updated c u now) now s (updated_valid c u now t).line.rate l));
}

-- a reading from that time on is not below the bound, and is the bound from then on
pub reads_at_least : (τ r : ℤ) (c : Clock) (v t : ℤ) → Known c v t → τ ≤ℤ t → ReadsFrom τ r c → r ≤ℤ v
reads_at_least τ r c v t known h f = subst (λ (x : ℤ). r ≤ℤ x) known.is (f.at_least t h)

pub reads_from_reading : (τ r : ℤ) (c : Clock) (v t : ℤ) → Known c v t → ReadsFrom τ r c → ReadsFrom t v c
reads_from_reading τ r c v t known f = record {
  is_monotonic = f.is_monotonic;
  at_least = λ s l. subst (λ (x : ℤ). x ≤ℤ clock_value c s) known.is
      (clock_rises c t s (taken_valid c known.taken).line.rate l);
}

-- an update moves the time on, a reading moves time and bound on
walk : (calls : List Call) (τ r : ℤ) (c : Clock) → ReadsFrom τ r c → From τ (times c calls) → From r (readings c calls)
unfolding after moment given
walk [] τ r c f h = tt
walk (update u now ∷ ks) τ r c f h = either_way (λ b d. From τ (cond b (now ∷ []) [] ++ times d ks) → From r (readings d ks)) c u now
    (λ t h. walk ks now r (updated c u now) (reads_from_update τ r c u now t h.0 f) h.1)
    (walk ks τ r c f) h
walk (ask q ∷ ks) τ r c f h = of_given (λ g. From τ (time_of g ++ times c ks) → From r (value_of g ++ readings c ks)) c (ask q)
    (walk ks τ r c f)
    (λ v t known h. (reads_at_least τ r c v t known h.0 f, walk ks t v c (reads_from_reading τ r c v t known f) h.1)) h

-- no time is before the latest update
abbrev LateIf : Clock → List ℤ → Type 0
LateIf c ts = NeverFalls ts → From c.latest ts

times_late : (calls : List Call) (c : Clock) → LateIf c (times c calls)
unfolding after moment
times_late [] c h = tt
times_late (update u now ∷ ks) c h =
    either_way (λ b d. LateIf c (cond b (now ∷ []) [] ++ times d ks)) c u now (λ t h. (not_early c u now t, h)) (times_late ks c) h
times_late (ask q ∷ ks) c h =
    of_given (λ g. LateIf c (time_of g ++ times c ks)) c (ask q) (times_late ks c) (λ v t known h. (known.late, h)) h

from_never_falls : (x : ℤ) (xs : List ℤ) → From x xs → NeverFalls xs
from_never_falls x [] h = tt
from_never_falls x (y ∷ ys) h = h.1

pub demand2_monotonic : Demand2Monotonic
demand2_monotonic word backstop now c e m before stretch h =
    let d = after_all c before in
    let k = always_kept word backstop now c e before in
    let start = reads_from_latest d (taken_valid d k.clock) (subst⁻¹ (λ (w : ℕ). T (monotonic w)) k.same_word m) in
    from_never_falls d.backstop (readings d stretch) (walk stretch d.latest d.backstop d start (times_late stretch d h))

-- ---- a continuous clock that runs

agree_at : (t : ℤ) (old new : Line) → exact_at new t ≡ exact_at old t → AgreeAt t old new
agree_at t old new e = record { exactly = e; in_value = value_same new old t e }

pub agrees : (c : Clock) (k : Call) → Agrees c k
unfolding updated
agrees c (ask q) = tt
agrees c (update u now) = λ s k. either_way (λ b d. AgreeAt now c.line d.line) c u now
    (λ t. agree_at now c.line (new_line c u now) (new_agrees c u now t k s ∙ ap (λ (l : Line). exact_at l now) (running_line c s)))
    (agree_at now c.line c.line refl)

pub demand2_continuous : Demand2Continuous
demand2_continuous word backstop now c e calls = of_any Agrees agrees c calls
