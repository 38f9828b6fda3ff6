-- The new line of an update as the code finds it: what the rules before 12 let pass is drawn as the effect table says, and
-- judged as rules 12 to 14 say.
use mathlib.Core.Bool.{Bool, true, false, not, cond, ◌&&◌, ◌||◌}
use mathlib.Core.List.{List, [], ◌∷◌}
use mathlib.Core.Path.{◌≡◌, refl, sym, ap, subst⁻¹}
use lib.Dec.{T, lit<}
use Prim.Native.Nat.{◌<◌}
use lib.IntN.{ℤ}
use lib.Signed.{lt_z}
use Rattle.tables.specs.Tables.{Row, ◌when◌, first}
use mir.Facts.{or_no}
use Rattle.tables.proofs.Tests.{fails_second, by_cases}
use Rattle.tables.proofs.Tables.{passed, Alike, first_alike}
use Rattle.line.specs.Numbers.{million, outside}
use Rattle.line.specs.Line.{line, value_at, turned, Computable}
use Rattle.line.specs.Value.{placed, is_under, is_over, is_less, held, is_beyond, line_or}
use Rattle.line.specs.declared.Line.{Line}
use Rattle.std.specs.Prelude.{Option, Some}
use Rattle.line.proofs.Placed.{drawn_in, under_law, over_law, less_law, beyond_law, line_or_keeps}
use Rattle.line.proofs.Linear.{≤ℤ_trans}
use Rattle.line.proofs.Laws.{turned_reference, turned_remainder, turned_rate}
use Rattle.clock.specs.Numbers.{END, time_outside}
use Rattle.clock.specs.Clock.{monotonic, is_running, old_line, time_table, InRange, Permitted, Drawable, Valid}
use Rattle.clock.specs.Update.{has_synthetic, has_rate, replaces, values_outside, rate_too_wide, point, effect, new_line, alone_table, allowed_table, request_table, new_line_table, update_table}
use Rattle.clock.specs.Taken.{is_clock, guarded}
use Rattle.clock.specs.Parts.{Judged}
use Rattle.clock.specs.declared.Clock.{Clock}
use Rattle.clock.specs.declared.Request.{Request}
use Rattle.clock.proofs.Ranges.{not_less, in_range, end_storable, range_storable, rises, computable}
use Rattle.clock.proofs.Requests.{old_drawable}
use Rattle.clock.proofs.Guarded.{guarded_passed, rest_decides}

-- ---- what the rules before 12 leave known

pub record Asked (c : Clock) (u : Request) (now : ℤ) : Type 0 where
  pub clock : T (is_clock c)
  pub time : InRange now
  pub values : T (not (values_outside u))
  pub rate : T (not (rate_too_wide u))

module _ (c : Clock) (u : Request) (now : ℤ) (e : first (guarded c (request_table c u now)) ≡ 0) where
  pub asked : Asked c u now
  unfolding alone_table allowed_table request_table time_table
  asked =
      let rows = request_table c u now in
      let p = guarded_passed c rows e in
      record { clock = p.0; time = in_range now (passed 1 rows tt p.1); values = passed 5 rows tt p.1; rate = passed 6 rows tt p.1 }

  -- then the rows of the new line decide
  pub line_decides : first (guarded c (update_table c u now)) ≡ first (new_line_table c u now)
  unfolding update_table alone_table allowed_table request_table time_table
  line_decides = rest_decides c (request_table c u now) (new_line_table c u now) tt e

-- ---- the effect table

-- a new line, but for its S0
pub record Begins (l : Line) : Type 0 where
  pub reference : InRange l.reference
  pub remainder : l.remainder < million
  pub rate : Permitted l.rate

pub effect_begins : (s a : Bool) (T₀ : Line) (P S new : ℤ) → Drawable T₀ → InRange P → (T a → Permitted new) → Begins (effect s a T₀ P S new)
unfolding effect
effect_begins true false T₀ P S new o p r = record { reference = p; remainder = lit< tt; rate = o.rate }
effect_begins true true T₀ P S new o p r = record { reference = p; remainder = lit< tt; rate = r tt }
effect_begins false true T₀ P S new o p r = record {
  reference = rw (turned_reference T₀ P new) p;
  remainder = turned_remainder T₀ P new;
  rate = rw (turned_rate T₀ P new) (r tt);
}
effect_begins false false T₀ P S new o p r = record { reference = o.reference; remainder = o.remainder; rate = o.rate }

-- where the line stays, nothing is drawn
pub effect_kept : (s a : Bool) (T₀ : Line) (P S new : ℤ) → T (not (s || a)) → effect s a T₀ P S new ≡ T₀
unfolding effect
effect_kept true a T₀ P S new n = absurd n
effect_kept false true T₀ P S new n = absurd n
effect_kept false false T₀ P S new n = refl

-- a value in range is drawn
pub set_drawn : (a : Bool) (T₀ : Line) (P S new : ℤ) → InRange S → Some (line P S 0 (cond a new T₀.rate)) ≡ held (effect true a T₀ P S new)
unfolding effect
set_drawn true T₀ P S new i = sym (drawn_in (line P S 0 new) (range_storable i))
set_drawn false T₀ P S new i = sym (drawn_in (line P S 0 T₀.rate) (range_storable i))

pub turned_drawn : (T₀ : Line) (P S new : ℤ) → held (turned T₀ P new) ≡ held (effect false true T₀ P S new)
unfolding effect
turned_drawn T₀ P S new = refl

pub kept_drawn : (T₀ : Line) (P S new : ℤ) → Drawable T₀ → Some T₀ ≡ held (effect false false T₀ P S new)
unfolding effect
kept_drawn T₀ P S new o = sym (drawn_in T₀ (range_storable o.synthetic))

-- ---- the new line

module _ (c : Clock) (u : Request) (now : ℤ) where
  abbrev new : Line
  new = new_line c u now

  pub new_begins : Valid c → InRange (point u now) → (T (has_rate u) → Permitted u.rate) → Begins new
  unfolding new_line
  new_begins v p r = effect_begins (has_synthetic u) (has_rate u) (old_line c) (point u now) u.synthetic u.rate (old_drawable c v) p r

  pub new_kept : T (not (replaces u)) → new ≡ old_line c
  unfolding new_line
  new_kept n = effect_kept (has_synthetic u) (has_rate u) (old_line c) (point u now) u.synthetic u.rate n

  -- the line whose value is found
  pub found_computable : Valid c → Begins new → Computable (line_or (held new) (old_line c))
  found_computable v b =
      line_or_keeps Computable new.reference new.synthetic new.remainder new.rate (old_line c)
      (λ h. record { reference = b.reference.low; synthetic = h.low; remainder = b.remainder; rate = rises b.rate })
      (computable (old_drawable c v))

  pub found_new : InRange new.synthetic → line_or (held new) (old_line c) ≡ new
  found_new i = ap (λ (r : Option Line). line_or r (old_line c)) (drawn_in new (range_storable i))

  -- what rule 12 lets pass begins in the range
  pub passed_in_range : Valid c → T (not (replaces u && (time_outside new.synthetic || lt_z END (value_at new now)))) → InRange new.synthetic
  passed_in_range v n = by_cases (replaces u)
      (λ r. in_range new.synthetic (or_no (time_outside new.synthetic) (lt_z END (value_at new now)) (fails_second (replaces u) (time_outside new.synthetic || lt_z END (value_at new now)) r n)).0)
      (λ k. subst⁻¹ (λ (l : Line). InRange l.synthetic) (new_kept k) (old_drawable c v).synthetic)

-- ---- rules 12 to 14

-- as the code judges them: by the line as it was drawn, and the value of the line that stands for it
abbrev pub judged_table : Clock → Request → ℤ → Option Line → Line → Line → List Row
judged_table c u now redrawn l old =
    let new_value = placed (value_at l now) in
    (12 when (replaces u && (is_beyond redrawn END || is_over new_value END))
    ∷ 13 when (replaces u && is_under new_value c.backstop)
    ∷ 14 when (replaces u && (monotonic c.word && is_running c && is_less new_value (placed (value_at old now))))
    ∷ [])

and_agree : (a x y : Bool) → (T a → x ≡ y) → (a && x) ≡ (a && y)
and_agree true x y h = h tt
and_agree false x y h = refl

or_agree : (a x y : Bool) → (T (not a) → x ≡ y) → (a || x) ≡ (a || y)
or_agree true x y h = refl
or_agree false x y h = h tt

module _ (c : Clock) (u : Request) (now : ℤ) (v : Valid c) where
  abbrev drawn : Line
  drawn = new_line c u now

  abbrev found : Line
  found = line_or (held drawn) (old_line c)

  abbrev value : ℤ
  value = value_at drawn now

  same : InRange drawn.synthetic → value_at found now ≡ value
  same i = ap (λ (l : Line). value_at l now) (found_new c u now i)

  beyond_is : is_beyond (held drawn) END ≡ time_outside drawn.synthetic
  unfolding time_outside outside
  beyond_is = beyond_law drawn.reference drawn.synthetic drawn.remainder drawn.rate END end_storable

  row12 : (is_beyond (held drawn) END || is_over (placed (value_at found now)) END) ≡ (time_outside drawn.synthetic || lt_z END value)
  row12 = rw beyond_is (or_agree (time_outside drawn.synthetic) (is_over (placed (value_at found now)) END) (lt_z END value)
      (λ n. rw (same (in_range drawn.synthetic n)) (over_law value END end_storable)))

  module _ (r : T (replaces u)) (n : T (not (replaces u && (time_outside drawn.synthetic || lt_z END value)))) where
    begun : InRange drawn.synthetic
    begun = passed_in_range c u now v n

    row13 : is_under (placed (value_at found now)) c.backstop ≡ lt_z value c.backstop
    row13 = rw (same begun) (under_law value c.backstop (range_storable v.backstop))

    row14 : T (not (replaces u && lt_z value c.backstop)) → is_less (placed (value_at found now)) (placed (value_at (old_line c) now)) ≡ lt_z value (value_at (old_line c) now)
    row14 m =
        let high = not_less END value (or_no (time_outside drawn.synthetic) (lt_z END value) (fails_second (replaces u) (time_outside drawn.synthetic || lt_z END value) r n)).1 in
        let low = not_less value c.backstop (fails_second (replaces u) (lt_z value c.backstop) r m) in
        rw (same begun) (less_law value (value_at (old_line c) now) (range_storable (record { low = ≤ℤ_trans v.backstop.low low; high = high })))

  -- the code's tests of 13 and 14 are the rules' where no earlier row applies
  pub judged_alike : Alike (judged_table c u now (held drawn) found (old_line c)) (new_line_table c u now)
  unfolding new_line_table
  judged_alike = (
    refl,
    ap (λ (b : Bool). replaces u && b) row12,
    λ n. (
      refl,
      and_agree (replaces u) _ _ (λ r. row13 r n),
      λ m. (refl, and_agree (replaces u) _ _ (λ r. ap (λ (b : Bool). monotonic c.word && is_running c && b) (row14 r n m)), λ k. tt),
    ),
  )

pub judged_first : (c : Clock) (u : Request) (now : ℤ) (redrawn : Option Line) (l old : Line) → Judged c u now redrawn l old →
    first (judged_table c u now redrawn l old) ≡ first (new_line_table c u now)
judged_first c u now redrawn l old j =
    rw (j.line, j.before, j.drawn) (first_alike (judged_table c u now (held (new_line c u now)) _ (old_line c)) (new_line_table c u now) (judged_alike c u now j.clock))
