-- The row of our own in front of a table, and the parts of a table behind it.
use mathlib.Core.Path.{◌≡◌, refl, subst}
use mathlib.Core.Bool.{Bool, true, false, not}
use mathlib.Core.List.{List, ◌∷◌, ◌++◌}
use mathlib.Core.Logic.{inl, inr}
use Prim.Native.Nat.{ℕ}
use lib.Dec.{T, eqb}
use Rattle.tables.specs.Tables.{Row, ◌when◌, first, Settled}
use Rattle.tables.proofs.Tests.{is_false}
use Rattle.tables.proofs.Tables.{numbered, lacks, never_told, first_passed}
use Rattle.clock.specs.Taken.{is_clock, NOT_A_CLOCK, guarded}
use Rattle.clock.specs.declared.Clock.{Clock}

-- what the table with its row in front settles of a clock, the table alone does
pub guarded_settled : {Answer : Type 0} (c : Clock) (rows : List Row) (answer taken : Answer) (refused : ℕ → Answer) → T (is_clock c) →
    Settled (guarded c rows) answer taken refused → Settled rows answer taken refused
unfolding guarded
guarded_settled c rows answer taken refused t settles = go (is_clock c) t settles
  where
    go : (b : Bool) → T b → Settled (NOT_A_CLOCK when not b ∷ rows) answer taken refused → Settled rows answer taken refused
    go true t (inl s) = inl (s.0.1, s.1)
    go true t (inr s) = inr s
    go false t s = absurd t

-- where no row of the table has that number, what is told apart by it is what is not taken for a clock
pub guarded_apart : (c : Clock) (rows : List Row) → T (lacks NOT_A_CLOCK rows) → eqb (first (guarded c rows)) NOT_A_CLOCK ≡ not (is_clock c)
unfolding guarded
guarded_apart c rows p = go (is_clock c)
  where
    go : (b : Bool) → eqb (first (NOT_A_CLOCK when not b ∷ rows)) NOT_A_CLOCK ≡ not b
    go true = is_false (eqb (first rows) NOT_A_CLOCK) (never_told NOT_A_CLOCK rows p)
    go false = refl

-- what the whole table lets pass is a clock, and its own table lets it pass
pub guarded_passed : (c : Clock) (rows : List Row) → first (guarded c rows) ≡ 0 → T (is_clock c) × (first rows ≡ 0)
unfolding guarded
guarded_passed c rows e = go (is_clock c) (λ t. t) e
  where
    go : (b : Bool) → (T b → T (is_clock c)) → first (NOT_A_CLOCK when not b ∷ rows) ≡ 0 → T (is_clock c) × (first rows ≡ 0)
    go true f e = (f tt, e)
    go false f e = absurd (subst (λ (n : ℕ). T (not (eqb n 0))) e tt)

-- ---- a table in two parts behind the row

module _ (c : Clock) (front rows : List Row) where
  -- the second part decides where the first lets pass
  pub rest_decides : T (numbered front) → first (guarded c front) ≡ 0 → first (guarded c (front ++ rows)) ≡ first rows
  unfolding guarded
  rest_decides p e = first_passed (guarded c front) rows p e
