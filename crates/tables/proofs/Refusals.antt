-- What an answer tells, beside the table that it was told by.
use mathlib.Core.Path.{◌≡◌, refl, sym, ap, ◌∙◌}
use mathlib.Core.Bool.{Bool, true, false, cond}
use mathlib.Core.List.{List, [], ◌∷◌, ◌++◌}
use Prim.Native.Nat.{ℕ}
use native.Mathlib.Nat.{suc-ne-zero}
use lib.Dec.{T, eqb}
use borrow.Author.Tests.{ne_eqb}
use borrow.Author.Rules.{rules}
use Rattle.std.specs.Prelude.{Result, Ok, Err, is_ok}
use Rattle.tables.specs.Tables.{Row, ◌when◌, first, answer}
use Rattle.tables.specs.Refusals.{number, refusal_of, refused_if}
use Rattle.tables.specs.declared.Refusal.{Refusal}
use Rattle.tables.specs.declared.Refusal.TheVariants.{NowOutside, NowEarly, WordWrong, NothingFlagged}
use Rattle.tables.specs.declared.Refusal.TheVariants.{ValueOutside, RateOutside, ReferenceAlone, NotStarted}
use Rattle.tables.specs.declared.Refusal.TheVariants.{ContinuousReference, ContinuousSet, MonotonicSetAndRate}
use Rattle.tables.specs.declared.Refusal.TheVariants.{LineOutside, BelowBackstop, MonotonicBack}
use Rattle.tables.specs.declared.Refusal.TheVariants.{ContinuousNotMonotonic, BackstopOutside, BackstopAhead}
use Rattle.tables.specs.declared.Refusal.TheVariants.{TooShort, PaddingSet, BytesLeftOver, BufferShort}
use Rattle.tables.specs.declared.Refusal.TheVariants.{RateStep, VersionNeedless, NotFinite, NotACommand}
use Rattle.tables.specs.declared.Refusal.TheVariants.{NotAClock}
use Rattle.tables.proofs.Tables.{numbered, first_passed, first_refused, answered, refused_by_lem}

err_no_ok : {r : Refusal} {x : Unit {0}} → Err r ≡ Ok x → ⊥
err_no_ok e = search rules

-- no refusal has the number 0
pub never_0 : (r : Refusal) → number r ≡ 0 → ⊥
never_0 NowOutside e = suc-ne-zero _ e
never_0 NowEarly e = suc-ne-zero _ e
never_0 WordWrong e = suc-ne-zero _ e
never_0 NothingFlagged e = suc-ne-zero _ e
never_0 ValueOutside e = suc-ne-zero _ e
never_0 RateOutside e = suc-ne-zero _ e
never_0 ReferenceAlone e = suc-ne-zero _ e
never_0 NotStarted e = suc-ne-zero _ e
never_0 ContinuousReference e = suc-ne-zero _ e
never_0 ContinuousSet e = suc-ne-zero _ e
never_0 MonotonicSetAndRate e = suc-ne-zero _ e
never_0 LineOutside e = suc-ne-zero _ e
never_0 BelowBackstop e = suc-ne-zero _ e
never_0 MonotonicBack e = suc-ne-zero _ e
never_0 ContinuousNotMonotonic e = suc-ne-zero _ e
never_0 BackstopOutside e = suc-ne-zero _ e
never_0 BackstopAhead e = suc-ne-zero _ e
never_0 TooShort e = suc-ne-zero _ e
never_0 PaddingSet e = suc-ne-zero _ e
never_0 BytesLeftOver e = suc-ne-zero _ e
never_0 BufferShort e = suc-ne-zero _ e
never_0 RateStep e = suc-ne-zero _ e
never_0 VersionNeedless e = suc-ne-zero _ e
never_0 NotFinite e = suc-ne-zero _ e
never_0 NotACommand e = suc-ne-zero _ e
never_0 NotAClock e = suc-ne-zero _ e

-- ---- a table walked row by row, as the code does

-- the row's number where its test holds, else what the rows after it tell
unfoldable pub row_or : ℕ → Bool → ℕ → ℕ
row_or n b rest = cond b n rest

abbrev pub walk : List Row → ℕ
walk [] = 0
walk ((n when b) ∷ rows) = row_or n b (walk rows)

-- a walk tells what the table does
pub walk_first : (rows : List Row) → walk rows ≡ first rows
unfolding row_or
walk_first [] = refl
walk_first ((n when true) ∷ rows) = refl
walk_first ((n when false) ∷ rows) = walk_first rows

-- a row that lets pass: the code's test is the row's
pub past : (r : Refusal) {x : Result Unit Refusal} {s q : ℕ} {b b' : Bool} → x ≡ refused_if b r → b ≡ b' → x ≡ Ok tt → s ≡ q →
    s ≡ row_or (number r) b' q
unfolding refused_if row_or
past r {s = s} {q = q} {b = b} {b' = b'} e t p h = go b b' (sym e ∙ p) t
  where
    go : (b b' : Bool) → refused_if b r ≡ Ok tt → b ≡ b' → s ≡ cond b' (number r) q
    go true b' p t = absurd (err_no_ok p)
    go false b' p t = h ∙ ap (λ (y : Bool). cond y (number r) q) t

-- a row that refuses, whatever the rows after it tell
pub stopped : (r : Refusal) {x y : Result Unit Refusal} {e : Refusal} (q : ℕ) {b b' : Bool} → y ≡ Err e → x ≡ Err e → x ≡ refused_if b r → b ≡ b' →
    refusal_of y ≡ row_or (number r) b' q
unfolding refused_if row_or
stopped r q {b = b} f g h t = ap refusal_of (f ∙ sym g ∙ h) ∙ go b (sym g ∙ h) ∙ ap (λ (k : Bool). cond k (number r) q) t
  where
    go : {e : Refusal} (b : Bool) → Err e ≡ refused_if b r → refusal_of (refused_if b r) ≡ cond b (number r) q
    go true g = refl
    go false g = absurd (err_no_ok g)

-- the last row
pub last_row : (r : Refusal) {x : Result Unit Refusal} {b b' : Bool} → x ≡ refused_if b r → b ≡ b' → refusal_of x ≡ row_or (number r) b' 0
unfolding refused_if row_or
last_row r {b = b} e t = ap refusal_of e ∙ go b ∙ ap (λ (y : Bool). cond y (number r) 0) t
  where
    go : (b : Bool) → refusal_of (refused_if b r) ≡ cond b (number r) 0
    go true = refl
    go false = refl

-- ---- a table walked by parts: the first decides, or lets the second do so

pub part_refused : (r : Refusal) (front rows : List Row) → number r ≡ first front → number r ≡ first (front ++ rows)
part_refused r front rows e = e ∙ sym (first_refused front rows (λ z. never_0 r (e ∙ z)))

pub part_passed : (front rows : List Row) → T (numbered front) → 0 ≡ first front → first rows ≡ first (front ++ rows)
part_passed front rows p e = sym (first_passed front rows p (sym e))

-- ---- the answer that is told

module _ {A : Type 0} (rows : List Row) (taken : A) (refused : ℕ → A) where
  pub answer_taken : 0 ≡ first rows → taken ≡ answer rows taken refused
  answer_taken e = answered rows taken refused (sym e)

  pub answer_refused : (r : Refusal) → number r ≡ first rows → refused (number r) ≡ answer rows taken refused
  answer_refused r e = refused_by_lem rows taken refused (number r) e (never_0 r)

-- an answer is none exactly where it tells 0
pub ok_is : {A : Type 0} (x : Result A Refusal) → is_ok x ≡ eqb (refusal_of x) 0
ok_is (Ok x) = refl
ok_is (Err r) = sym (ne_eqb (number r) 0 (never_0 r))
