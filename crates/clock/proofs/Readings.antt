-- A reading as the code finds it: refusals 1 and 2 first, then the value as an i64 sees it.
use mathlib.Core.Bool.{Bool, true, false, not, cond}
use mathlib.Core.List.{[], ◌∷◌}
use mathlib.Core.Path.{◌≡◌, refl, sym, ap, ◌∙◌}
use Prim.Native.Nat.{ℕ}
use lib.Dec.{T}
use lib.IntN.{ℤ, pos}
use lib.Signed.{lt_z, ◌≤ℤ◌}
use Rattle.tables.specs.Tables.{◌when◌, first, answer_to, answer}
use Rattle.tables.proofs.Tables.{passed}
use Rattle.line.specs.Value.{placed, number_of}
use Rattle.line.proofs.Linear.{≤ℤ_trans}
use Rattle.line.proofs.Placed.{over_law, number_in}
use Rattle.clock.specs.Numbers.{END}
use Rattle.clock.specs.Clock.{time_table, InRange}
use Rattle.clock.specs.Taken.{is_clock, guarded}
use Rattle.clock.specs.Reading.{clock_value, reading_table, reading}
use Rattle.clock.specs.Parts.{read_of}
use Rattle.clock.specs.declared.Clock.{Clock}
use Rattle.clock.specs.declared.Reading.{Reading}
use Rattle.clock.proofs.Ranges.{not_less, in_range, end_storable, range_storable}
use Rattle.clock.proofs.Values.{above_backstop}
use Rattle.clock.proofs.Guarded.{guarded_passed, rest_decides}
use Rattle.clock.proofs.Taken.{taken_valid}

-- what the first rows let pass is a clock, at a time in the range and not before its latest
module _ (c : Clock) (now : ℤ) (e : first (guarded c (time_table c now)) ≡ 0) where
  pub time_taken : T (is_clock c)
  time_taken = (guarded_passed c (time_table c now) e).0

  pub time_in_range : InRange now
  unfolding time_table
  time_in_range = in_range now (passed 1 (time_table c now) tt (guarded_passed c (time_table c now) e).1)

  pub not_early : c.latest ≤ℤ now
  unfolding time_table
  not_early = not_less now c.latest (passed 2 (time_table c now) tt (guarded_passed c (time_table c now) e).1)

-- a value that is not below 0 is answered as the last row says
abbrev last_answer : Bool → ℤ → Reading
last_answer over z = answer (12 when over ∷ []) (record { refusal = 0; value = z }) (λ n. record { refusal = n; value = pos 0 })

answered : (z : ℤ) → pos 0 ≤ℤ z → read_of (placed z) ≡ last_answer (lt_z END z) z
answered z h = rw (over_law z END end_storable) (as_told (lt_z END z) ∙ go (lt_z END z) (λ t. number_in z (range_storable (record { low = h; high = not_less END z t }))))
  where
    as_told : (b : Bool) → cond {A = Reading} b (record { refusal = 12; value = pos 0 }) (record { refusal = 0; value = number_of (placed z) }) ≡ last_answer b (number_of (placed z))
    as_told true = refl
    as_told false = refl

    go : (b : Bool) → (T (not b) → number_of (placed z) ≡ z) → last_answer b (number_of (placed z)) ≡ last_answer b z
    go true f = refl
    go false f = rw (f tt)

pub read_given : (c : Clock) (now : ℤ) → first (guarded c (time_table c now)) ≡ 0 → read_of (placed (clock_value c now)) ≡ reading c now
unfolding reading reading_table time_table
read_given c now e =
    let v = taken_valid c (time_taken c now e) in
    let z = clock_value c now in
    answered z (≤ℤ_trans v.backstop.low (above_backstop c now v (not_early c now e)))
    ∙ ap (λ (n : ℕ). answer_to n (record { refusal = 0; value = z }) (λ k. record { refusal = k; value = pos 0 }))
    (sym (rest_decides c (time_table c now) (12 when lt_z END z ∷ []) tt e))
