-- A row with some bits replaced.
use mathlib.Core.Path.{◌≡◌, refl, sym, ap, ap₂, ◌∙◌}
use mathlib.Core.Bool.{Bool}
use mathlib.Core.List.{List, [], ◌++◌, append_assoc, append-nil}
use Prim.Native.Nat.{ℕ, ◌+◌, ◌≤◌}
use native.Mathlib.Nat.{add-zero}
use native.Mathlib.Omega.{arith}
use lib.ListN.{length, take, drop, length-append, length-drop, take-append-drop}
use lib.Seq.{drop-append-add, take-append_seam, drop-drop, drop_at, length-take-le}
use Rattle.fields.specs.Bits.{digits}
use Rattle.fields.specs.Field.{over}

-- a row, cut around w bits from a place on
cut : (r : List Bool) (place w : ℕ) → r ≡ take place r ++ (take w (drop place r) ++ drop (place + w) r)
cut r place w =
    sym (take-append-drop place r)
    ∙ ap (λ (t : List Bool). take place r ++ t) (sym (take-append-drop w (drop place r)) ∙ ap (λ (t : List Bool). take w (drop place r) ++ t) (drop-drop w place r))

over_mid : (a m new s : List Bool) → length m ≡ length new → over (a ++ (m ++ s)) (length a) new ≡ a ++ (new ++ s)
unfolding over
over_mid a m new s e =
    rw (
      take-append_seam a (m ++ s),
      drop-append-add a (m ++ s) (length new),
      drop_at m s (length new) e,
    )
    (append_assoc a new s)

-- a row in three parts, the middle one replaced
pub over_part : (r a m new s : List Bool) (place : ℕ) → r ≡ a ++ (m ++ s) → length a ≡ place → length m ≡ length new → over r place new ≡ a ++ (new ++ s)
over_part r a m new s place e l h = ap₂ (λ (x : List Bool) (n : ℕ). over x n new) e (sym l) ∙ over_mid a m new s h

pub over_none : (r : List Bool) (place : ℕ) → over r place [] ≡ r
unfolding over
over_none r place = rw (append-nil (take place r), add-zero place) (take-append-drop place r)

pub over_no_digits : (r : List Bool) (place w v : ℕ) → w ≡ 0 → over r place (digits w v) ≡ r
unfolding digits
over_no_digits r place w v e = ap (λ (n : ℕ). over r place (digits n v)) e ∙ over_none r place

pub over_all : (r new : List Bool) → length r ≡ length new → over r 0 new ≡ new
over_all r new e = over_part r [] r new [] 0 (sym (append-nil r)) refl e ∙ append-nil new

-- the bits that stand there already
pub over_own : (r : List Bool) (place k : ℕ) → place + k ≤ length r → over r place (take k (drop place r)) ≡ r
over_own r place k h =
    over_part r (take place r) (take k (drop place r)) (take k (drop place r)) (drop (place + k) r) place
    (cut r place k) (length-take-le place r (omega arith)) refl
    ∙ sym (cut r place k)

-- two that follow each other are one
pub over_over
    : (r : List Bool) (place : ℕ) (a b : List Bool) (place2 : ℕ) → place2 ≡ place + length a → place + length a + length b ≤ length r
    → over (over r place a) place2 b ≡ over r place (a ++ b)
unfolding over
over_over r place a b place2 e h =
    let d : List Bool = drop (place + length a) r in
    let la : length (take place r ++ a) ≡ place2 = omega (arith, length-append (take place r) a, length-take-le place r (omega arith)) in
    let lb : length (take (length b) d) ≡ length b = length-take-le (length b) d (omega (arith, length-drop (place + length a) r)) in
    let le : place + length a + length b ≡ place + length (a ++ b) = omega (arith, length-append a b) in
    over_part (take place r ++ a ++ d) (take place r ++ a) (take (length b) d) b (drop (length b) d) place2
    (ap (λ (t : List Bool). take place r ++ a ++ t) (sym (take-append-drop (length b) d))) la lb
    ∙ sym (append_assoc (take place r ++ a) b (drop (length b) d))
    ∙ ap₂ (λ (x y : List Bool). x ++ y) (append_assoc (take place r) a b) (drop-drop (length b) (place + length a) r ∙ ap (λ (n : ℕ). drop n r) le)
