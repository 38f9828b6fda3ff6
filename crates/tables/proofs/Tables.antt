-- Tables of refusals: a row is fetched by its number, so that a row added elsewhere disturbs nothing.
use mathlib.Core.Path.{◌≡◌, refl, sym, ap, ◌∙◌, subst⁻¹}
use mathlib.Core.Bool.{Bool, true, false, not, cond, ◌&&◌}
use mathlib.Core.List.{List, [], ◌∷◌, ◌++◌}
use mathlib.Core.Logic.{◌⊎◌, inl, inr, ⊎_elim}
use Prim.Native.Nat.{ℕ, zero, suc, ◌<◌}
use native.Mathlib.Nat.{suc-ne-zero}
use native.Mathlib.Omega.{arith}
use lib.Dec.{T, ltb, eqb, ltb→lt}
use Rattle.tables.specs.Tables.{Row, ◌when◌, first, answer_to, answer, NoneApplies, FirstApplies, Settled}
use mir.Facts.{and_yes}

-- the test of the row with this number
abbrev pub test : ℕ → List Row → Bool
test k [] = false
test k ((n when b) ∷ rows) = cond (eqb n k) b (test k rows)

-- no row has the number 0, which stands for no refusal
abbrev pub numbered : List Row → Bool
numbered [] = true
numbered ((n when b) ∷ rows) = ltb 0 n && numbered rows

clash : (n : ℕ) → 0 < n → n ≡ 0 → ⊥
clash n h e = omega arith

-- a row that applies is told
told : (n : ℕ) (rows : List Row) → T (numbered ((n when true) ∷ rows)) → n ≡ 0 → ⊥
told n rows p = clash n (ltb→lt 0 n (and_yes (ltb 0 n) (numbered rows) p).0)

-- ---- where nothing is refused no row applies

pub none_applies : (rows : List Row) → T (numbered rows) → first rows ≡ 0 → NoneApplies rows
none_applies [] p e = tt
none_applies ((n when true) ∷ rows) p e = absurd (told n rows p e)
none_applies ((n when false) ∷ rows) p e = (tt, none_applies rows (and_yes (ltb 0 n) (numbered rows) p).1 e)

pub nothing_told : (rows : List Row) → NoneApplies rows → first rows ≡ 0
nothing_told [] a = refl
nothing_told ((n when true) ∷ rows) a = absurd a.0
nothing_told ((n when false) ∷ rows) a = nothing_told rows a.1

fails : (k : ℕ) (rows : List Row) → NoneApplies rows → T (not (test k rows))
fails k [] a = tt
fails k ((n when b) ∷ rows) a = go (eqb n k) (fails k rows a.1)
  where
    go : (c : Bool) → T (not (test k rows)) → T (not (cond c b (test k rows)))
    go true t = a.0
    go false t = t

pub passed : (k : ℕ) (rows : List Row) → T (numbered rows) → first rows ≡ 0 → T (not (test k rows))
passed k rows p e = fails k rows (none_applies rows p e)

-- ---- a number that no row has

-- nor is it that of no refusal
abbrev pub lacks : ℕ → List Row → Bool
lacks k [] = not (eqb 0 k)
lacks k ((n when b) ∷ rows) = not (eqb n k) && lacks k rows

pub never_told : (k : ℕ) (rows : List Row) → T (lacks k rows) → T (not (eqb (first rows) k))
never_told k [] p = p
never_told k ((n when true) ∷ rows) p = (and_yes (not (eqb n k)) (lacks k rows) p).0
never_told k ((n when false) ∷ rows) p = never_told k rows (and_yes (not (eqb n k)) (lacks k rows) p).1

-- ---- two tables, one after the other

-- the second table decides where the first lets pass
pub first_passed : (front rows : List Row) → T (numbered front) → first front ≡ 0 → first (front ++ rows) ≡ first rows
first_passed [] rows p e = refl
first_passed ((n when true) ∷ front) rows p e = absurd (told n front p e)
first_passed ((n when false) ∷ front) rows p e = first_passed front rows (and_yes (ltb 0 n) (numbered front) p).1 e

-- a refusal of the first table stands
pub first_refused : (front rows : List Row) → (first front ≡ 0 → ⊥) → first (front ++ rows) ≡ first front
first_refused [] rows h = absurd (h refl)
first_refused ((n when true) ∷ front) rows h = refl
first_refused ((n when false) ∷ front) rows h = first_refused front rows h

pub none_front : (front rows : List Row) → NoneApplies (front ++ rows) → NoneApplies front
none_front [] rows a = tt
none_front ((n when b) ∷ front) rows a = (a.0, none_front front rows a.1)

-- ---- one table for another

-- the same numbers, and tests that agree wherever no earlier row applies
abbrev pub Alike : List Row → List Row → Type 0
Alike [] [] = Unit {0}
Alike [] (y ∷ others) = ⊥
Alike (x ∷ rows) [] = ⊥
Alike ((m when a) ∷ rows) ((n when b) ∷ others) = (m ≡ n) × (a ≡ b) × (T (not b) → Alike rows others)

-- have the same first
pub first_alike : (rows others : List Row) → Alike rows others → first rows ≡ first others
first_alike [] [] h = refl
first_alike [] (y ∷ others) h = absurd h
first_alike (x ∷ rows) [] h = absurd h
first_alike ((m when a) ∷ rows) ((n when true) ∷ others) h =
    subst⁻¹ (λ (b : Bool). first ((m when b) ∷ rows) ≡ n) h.1 h.0
first_alike ((m when a) ∷ rows) ((n when false) ∷ others) h =
    subst⁻¹ (λ (b : Bool). first ((m when b) ∷ rows) ≡ first others) h.1 (first_alike rows others (h.2 tt))

-- ---- the answer that a table gives

-- a number is 0, which refuses nothing, or not
pub by_number : {Q : Type 0} (n : ℕ) → (n ≡ 0 → Q) → ((n ≡ 0 → ⊥) → Q) → Q
by_number zero f g = f refl
by_number (suc n) f g = g (suc-ne-zero n)

module _ {A : Type 0} (taken : A) (refused : ℕ → A) where
  pub told_taken : (n : ℕ) → n ≡ 0 → answer_to n taken refused ≡ taken
  told_taken n e = ap (λ (k : ℕ). answer_to k taken refused) e

  pub told_refused : (n : ℕ) → (n ≡ 0 → ⊥) → answer_to n taken refused ≡ refused n
  told_refused zero h = absurd (h refl)
  told_refused (suc n) h = refl

module _ {A : Type 0} (rows : List Row) (taken : A) (refused : ℕ → A) where
  pub answered : first rows ≡ 0 → taken ≡ answer rows taken refused
  answered e = sym (told_taken taken refused (first rows) e)

  pub refused_by_lem : (n : ℕ) → n ≡ first rows → (n ≡ 0 → ⊥) → refused n ≡ answer rows taken refused
  refused_by_lem n e h = sym (told_refused taken refused n h) ∙ ap (λ (k : ℕ). answer_to k taken refused) e

  -- an answer that tells 0 says that no row applied
  pub none_told : (number : A → ℕ) → ((n : ℕ) → number (refused n) ≡ n) → number (answer rows taken refused) ≡ 0 → first rows ≡ 0
  none_told number h = go (first rows)
    where
      go : (n : ℕ) → number (answer_to n taken refused) ≡ 0 → n ≡ 0
      go zero e = refl
      go (suc n) e = sym (h (suc n)) ∙ e

  -- what holds of the one where nothing is refused, and of the other with its number, holds of the answer
  pub by_answer : (Q : A → Type 0) → (first rows ≡ 0 → Q taken) → ((n : ℕ) → first rows ≡ n → (n ≡ 0 → ⊥) → Q (refused n)) →
      Q (answer rows taken refused)
  by_answer Q f g = go (first rows) refl
    where
      go : (n : ℕ) → first rows ≡ n → Q (answer_to n taken refused)
      go zero e = f e
      go (suc n) e = g (suc n) e (suc-ne-zero n)

  -- it is what demand 1 asks of an answer
  pub settled : T (numbered rows) → Settled rows (answer rows taken refused) taken refused
  settled p = ⊎_elim (λ w. inl (w.0, sym (answered w.1))) (λ w. inr (first rows, w.0, sym (refused_by_lem (first rows) refl w.1))) (found rows p)
    where
      found : (rows : List Row) → T (numbered rows) → (NoneApplies rows × (first rows ≡ 0)) ⊎ (FirstApplies rows (first rows) × (first rows ≡ 0 → ⊥))
      found [] p = inl (tt, refl)
      found ((n when true) ∷ rows) p = inr (refl, told n rows p)
      found ((n when false) ∷ rows) p = ⊎_elim (λ w. inl ((tt, w.0), w.1)) (λ w. inr w) (found rows (and_yes (ltb 0 n) (numbered rows) p).1)
