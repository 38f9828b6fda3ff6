-- The value of a clock: before the start the backstop, then its line's; it never falls, and stays above a valid clock's backstop.
use mathlib.Core.Path.{◌≡◌, sym, ap, ◌∙◌}
use mathlib.Core.Bool.{Bool, true, false, not, cond}
use lib.IntN.{ℤ}
use lib.Signed.{◌≤ℤ◌, ≤ℤ_refl}
use lib.Dec.{T}
use Rattle.tables.proofs.Tests.{if_true, if_false}
use Rattle.line.specs.Line.{value_at}
use Rattle.line.specs.declared.Line.{Line}
use Rattle.line.proofs.Linear.{≤ℤ_trans}
use Rattle.line.proofs.Laws.{value_rises}
use Rattle.clock.specs.Clock.{is_running, identity, old_line, Permitted, Valid}
use Rattle.clock.specs.Reading.{clock_value}
use Rattle.clock.specs.declared.Clock.{Clock}
use Rattle.clock.proofs.Ranges.{rises}

pub running_line : (c : Clock) → T (is_running c) → old_line c ≡ c.line
unfolding old_line
running_line c s = if_true (is_running c) c.line identity s

pub running_value : (c : Clock) (t : ℤ) → T (is_running c) → clock_value c t ≡ value_at c.line t
unfolding clock_value
running_value c t s = if_true (is_running c) (value_at c.line t) c.backstop s

-- the old line of an update on a running clock
pub running_old_value : (c : Clock) (t : ℤ) → T (is_running c) → clock_value c t ≡ value_at (old_line c) t
running_old_value c t s = running_value c t s ∙ ap (λ (l : Line). value_at l t) (sym (running_line c s))

pub resting_value : (c : Clock) (t : ℤ) → T (not (is_running c)) → clock_value c t ≡ c.backstop
unfolding clock_value
resting_value c t n = if_false (is_running c) (value_at c.line t) c.backstop n

-- between updates the clock never falls
pub clock_rises : (c : Clock) (s t : ℤ) → Permitted c.line.rate → s ≤ℤ t → clock_value c s ≤ℤ clock_value c t
unfolding clock_value
clock_rises c s t p h = go (is_running c)
  where
    go : (b : Bool) → cond b (value_at c.line s) c.backstop ≤ℤ cond b (value_at c.line t) c.backstop
    go true = value_rises c.line s t (rises p) h
    go false = ≤ℤ_refl c.backstop

pub above_backstop : (c : Clock) (t : ℤ) → Valid c → c.latest ≤ℤ t → c.backstop ≤ℤ clock_value c t
unfolding clock_value
above_backstop c t v h = go (is_running c) v.above
  where
    go : (b : Bool) → (T b → c.backstop ≤ℤ value_at c.line c.latest) → c.backstop ≤ℤ cond b (value_at c.line t) c.backstop
    go true above = ≤ℤ_trans (above tt) (value_rises c.line c.latest t (rises v.line.rate) h)
    go false above = ≤ℤ_refl c.backstop
