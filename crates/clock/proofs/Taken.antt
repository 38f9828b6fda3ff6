-- What is taken for a clock: what is known of it, and what is enough.
use mathlib.Core.Path.{◌≡◌, refl, subst, subst⁻¹}
use mathlib.Core.Bool.{Bool, true, false, not, cond, ◌&&◌}
use Prim.Native.Nat.{ℕ, zero, suc, ◌≤◌}
use native.Mathlib.Omega.{arith}
use lib.IntN.{ℤ, pos, neg_ℤ}
use lib.Signed.{lt_z, le_z, ◌≤ℤ◌}
use lib.Dec.{T, eqb, leb, ltb, leb→le, eqb→eq, ltb→lt, lt→ltb}
use mir.Facts.{and_yes, yes_and}
use Rattle.tables.proofs.Tests.{is_false, if_true, if_false, by_cases}
use Rattle.tables.proofs.Tables.{test, passed, nothing_told}
use Rattle.line.specs.Line.{value_at, is_zeros, bounded, reaches, Computable}
use Rattle.line.specs.declared.Line.{Line}
use Rattle.line.proofs.Linear.{≤ℤ_trans}
use Rattle.line.proofs.Tests.{four}
use Rattle.line.proofs.Laws.{value_identity, reaches_early, zeros_are}
use Rattle.line.specs.Numbers.{million, outside}
use Rattle.clock.specs.Numbers.{END, MAX_RATE, time_outside, rate_outside}
use Rattle.clock.specs.Clock.{auto_start, is_running, byte_of, identity, InRange, Drawable, Valid}
use Rattle.clock.specs.Creation.{creation_table, creation_refusal, created, UNKNOWN_ERROR, FIRST_GENERATION}
use Rattle.clock.specs.Taken.{drawable, may_run, as_created, is_clock, zero_clock}
use Rattle.clock.specs.Parts.{clearly_runs}
use Rattle.clock.specs.declared.Clock.{Clock}
use Rattle.clock.proofs.Ranges.{not_less, not_below, inside, in_range, permitted, rises, computable}
use Rattle.clock.proofs.Requests.{identity_drawable}
use Rattle.clock.proofs.Creations.{created_row1, created_row16, created_row17}

-- ---- the started byte

pub byte_is : (b : Bool) → eqb (byte_of b) 1 ≡ b
byte_is true = refl
byte_is false = refl

-- a byte of 1 or 0 that isn't 1
byte_zero : (n : ℕ) → T (leb n 1) → T (not (eqb n 1)) → n ≡ 0
byte_zero zero t h = refl
byte_zero (suc zero) t h = absurd h
byte_zero (suc (suc n)) t h = absurd (clash (leb→le (suc (suc n)) 1 t))
  where
    clash : suc (suc n) ≤ 1 → ⊥
    clash k = omega arith

byte_low : (b : Bool) → T (leb (byte_of b) 1)
byte_low true = tt
byte_low false = tt

-- ---- a started clock's line

pub drawable_line : (l : Line) → T (drawable l) → Drawable l
unfolding drawable bounded time_outside rate_outside
drawable_line l t =
    let reference = not (time_outside l.reference) in
    let synthetic = not (time_outside l.synthetic) in
    let parts = four reference synthetic (ltb l.remainder million) (not (rate_outside l.rate)) t in
    record {
      reference = in_range l.reference parts.0;
      synthetic = in_range l.synthetic parts.1;
      remainder = ltb→lt l.remainder million parts.2;
      rate = permitted l.rate parts.3;
    }

-- what the code's tests of a line and of creation's numbers are for
pub bounded_computable : (l : Line) → bounded l END MAX_RATE ≡ true → Computable l
unfolding drawable
bounded_computable l e = computable (drawable_line l (subst⁻¹ T e tt))

module _ (c : Clock) (e : eqb (creation_refusal c.word c.backstop c.latest) 0 ≡ true) where
  creatable : creation_refusal c.word c.backstop c.latest ≡ 0
  creatable = eqb→eq (creation_refusal c.word c.backstop c.latest) 0 (subst⁻¹ T e tt)

  pub creatable_latest : InRange c.latest
  creatable_latest = in_range c.latest (created_row1 c.word c.backstop c.latest creatable)

  pub creatable_backstop : InRange c.backstop
  creatable_backstop = in_range c.backstop (created_row16 c.word c.backstop c.latest creatable)

pub line_drawable : (l : Line) → Drawable l → T (drawable l)
unfolding drawable bounded time_outside rate_outside
line_drawable l d =
    let reference = not (time_outside l.reference) in
    let synthetic = not (time_outside l.synthetic) in
    let remainder = ltb l.remainder million in
    yes_and (reference && synthetic && remainder) (not (rate_outside l.rate))
    (yes_and (reference && synthetic) remainder
    (yes_and reference synthetic
    (inside (pos 0) END l.reference d.reference.low d.reference.high)
    (inside (pos 0) END l.synthetic d.synthetic.low d.synthetic.high))
    (lt→ltb l.remainder million d.remainder))
    (inside (neg_ℤ MAX_RATE) MAX_RATE l.rate d.rate.low d.rate.high)

-- ---- what is taken for a clock

module _ (c : Clock) where
  abbrev accepts : Bool
  accepts = eqb (creation_refusal c.word c.backstop c.latest) 0

  abbrev kept : Bool
  kept = cond (is_running c) (may_run c) (as_created c)

  module _ (t : T (is_clock c)) where
    taken_parts : T (leb c.started 1) × T accepts × T kept
    unfolding is_clock
    taken_parts =
        let whole = and_yes (leb c.started 1 && accepts) kept t in
        let front = and_yes (leb c.started 1) accepts whole.0 in
        (front.0, front.1, whole.1)

    pub taken_created : creation_refusal c.word c.backstop c.latest ≡ 0
    taken_created = eqb→eq (creation_refusal c.word c.backstop c.latest) 0 taken_parts.1

    taken_running : T (is_running c) → T (drawable c.line && reaches c.line c.latest c.backstop)
    unfolding may_run
    taken_running s = subst T (if_true (is_running c) (may_run c) (as_created c) s) taken_parts.2

    taken_resting : T (not (is_running c)) → T (not (auto_start c.word)) × T (is_zeros c.line) × T (eqb c.error UNKNOWN_ERROR) × T (eqb c.generation FIRST_GENERATION)
    unfolding as_created
    taken_resting n =
        four (not (auto_start c.word)) (is_zeros c.line) (eqb c.error UNKNOWN_ERROR) (eqb c.generation FIRST_GENERATION)
        (subst T (if_false (is_running c) (may_run c) (as_created c) n) taken_parts.2)

    taken_drawn : T (is_running c) → Drawable c.line
    taken_drawn s = drawable_line c.line (and_yes (drawable c.line) (reaches c.line c.latest c.backstop) (taken_running s)).0

    taken_shows : T (is_running c) → c.backstop ≤ℤ value_at c.line c.latest
    unfolding reaches
    taken_shows s = record { le = (and_yes (drawable c.line) (reaches c.line c.latest c.backstop) (taken_running s)).1 }

    taken_identity : T (not (is_running c)) → c.line ≡ identity
    taken_identity n = zeros_are c.line (taken_resting n).1

    -- before the start it is as creation left it
    pub resting_created : T (not (is_running c)) → created c.word c.backstop c.latest ≡ c
    unfolding created
    resting_created n =
        let parts = taken_resting n in
        go c.line c.error c.generation c.started (auto_start c.word)
        (taken_identity n) (eqb→eq c.error UNKNOWN_ERROR parts.2) (eqb→eq c.generation FIRST_GENERATION parts.3)
        (byte_zero c.started taken_parts.0 n) (is_false (auto_start c.word) parts.0)
      where
        told : ℕ → Line → ℕ → ℕ → Clock
        told s l e g = record { backstop = c.backstop; line = l; error = e; latest = c.latest; generation = g; word = c.word; started = s }

        go : (l : Line) (e g s : ℕ) (a : Bool) → l ≡ identity → e ≡ UNKNOWN_ERROR → g ≡ FIRST_GENERATION → s ≡ 0 → a ≡ false →
            told (byte_of a) identity UNKNOWN_ERROR FIRST_GENERATION ≡ told s l e g
        go l e g s a p q r h k = simp (p, q, r, h, k)

    -- what is taken for a clock keeps to what every clock keeps to
    pub taken_valid : Valid c
    taken_valid = record {
      line = by_cases (is_running c) taken_drawn (λ n. subst⁻¹ Drawable (taken_identity n) identity_drawable);
      backstop = in_range c.backstop (created_row16 c.word c.backstop c.latest taken_created);
      latest = in_range c.latest (created_row1 c.word c.backstop c.latest taken_created);
      above = taken_shows;
    }

-- ---- what is enough

one_is_byte : (n : ℕ) → T (eqb n 1) → T (leb n 1)
one_is_byte n t = subst⁻¹ (λ (m : ℕ). T (leb m 1)) (eqb→eq n 1 t) tt

module _ (c : Clock) where
  -- a started clock, from its parts
  pub running_taken : T (is_running c) → creation_refusal c.word c.backstop c.latest ≡ 0 → T (drawable c.line) →
      T (reaches c.line c.latest c.backstop) → T (is_clock c)
  unfolding is_clock may_run
  running_taken s e d v =
      yes_and (leb c.started 1 && accepts c) (kept c)
      (yes_and (leb c.started 1) (accepts c) (one_is_byte c.started s) (subst⁻¹ (λ (n : ℕ). T (eqb n 0)) e tt))
      (subst⁻¹ T (if_true (is_running c) (may_run c) (as_created c) s) (yes_and (drawable c.line) (reaches c.line c.latest c.backstop) d v))

  pub clearly_taken : T (clearly_runs c) → T (is_clock c)
  unfolding clearly_runs
  clearly_taken t =
      let begun = le_z c.line.reference c.latest in
      let enough = le_z c.backstop c.line.synthetic in
      let front = is_running c && accepts c && drawable c.line && begun in
      let parts = four (is_running c) (accepts c) (drawable c.line) begun (and_yes front enough t).0 in
      running_taken parts.0 (eqb→eq (creation_refusal c.word c.backstop c.latest) 0 parts.1) parts.2
      (reaches_early c.line c.latest c.backstop (rises (drawable_line c.line parts.2).rate) parts.3 (and_yes front enough t).1)

-- ---- creation

-- what creation takes it takes at every later time
pub later_created : (word : ℕ) (backstop s t : ℤ) → creation_refusal word backstop s ≡ 0 → T (not (time_outside t)) → s ≤ℤ t →
    creation_refusal word backstop t ≡ 0
unfolding creation_refusal creation_table
later_created word backstop s t e r h =
    let old : (k : ℕ) → T (not (test k (creation_table word backstop s))) = λ k. passed k (creation_table word backstop s) tt e in
    nothing_told (creation_table word backstop t) (r, (old 3, (old 15, (old 16, (go (auto_start word) (old 17), tt)))))
  where
    go : (a : Bool) → T (not (a && lt_z s backstop)) → T (not (a && lt_z t backstop))
    go true r = not_below t backstop (≤ℤ_trans (not_less s backstop r) h)
    go false r = tt

-- what creation gives is a clock
pub created_taken : (word : ℕ) (backstop now : ℤ) → creation_refusal word backstop now ≡ 0 → T (is_clock (created word backstop now))
unfolding is_clock created may_run as_created drawable bounded reaches is_zeros time_outside rate_outside outside
created_taken word backstop now e =
    let accepted = eqb (creation_refusal word backstop now) 0 in
    yes_and (leb (byte_of auto) 1 && accepted) _
    (yes_and (leb (byte_of auto) 1) accepted (byte_low auto) (subst⁻¹ (λ (n : ℕ). T (eqb n 0)) e tt))
    (go auto (created_row17 word backstop now e))
  where
    auto : Bool
    auto = auto_start word

    go : (a : Bool) → T (not (a && lt_z now backstop)) →
        T (cond (eqb (byte_of a) 1) (le_z backstop (value_at identity now)) (not a && true && true && true))
    go true r = subst⁻¹ (λ (v : ℤ). T (le_z backstop v)) (value_identity now) (not_less now backstop r).le
    go false r = tt

pub zeros_not_taken : is_clock zero_clock ≡ false
unfolding is_clock as_created creation_refusal creation_table time_outside outside is_zeros
zeros_not_taken = refl
