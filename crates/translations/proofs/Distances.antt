-- How far a whole number lies from a fraction ± a / d, in natural numbers.
use mathlib.Core.Path.{◌≡◌, refl, sym, ap, ◌∙◌, subst}
use mathlib.Core.Bool.{Bool, true, false, not, cond}
use Prim.Native.Nat.{ℕ, zero, suc, ◌+◌, ◌-◌, ◌*◌, ◌/◌, ◌%◌, ◌≤◌, ◌<◌}
use native.Mathlib.Nat.{zero-mul, add-mul, suc-mul, one-mul, mod-lt, div-add-mod'}
use native.Mathlib.Omega.{arith}
use lib.Dec.{T, ltb, ltb→lt, nltb→le}
use lib.IntN.{ℤ, pos, negsuc, neg_ℤ, nat_abs, ◌+ℤ◌, ◌-ℤ◌, ◌*ℤ◌, neg_ℤ-neg_ℤ, neg_ℤ-+ℤ}
use lib.Ieee.Nearest.{closest}
use Rattle.tables.proofs.Tests.{by_cases}
use Rattle.panel.specs.Bits.{signed}
use Rattle.translations.proofs.Rounding.{less, more, half}

-- ---- a distance is the difference either way

abbrev pub gap : ℕ → ℕ → ℕ
gap x y = (x - y) + (y - x)

abs_sub : (x y : ℕ) → nat_abs (pos x -ℤ pos y) ≡ gap x y
abs_sub x zero = omega arith
abs_sub x (suc y) = go (ltb x (suc y)) (ltb→lt x (suc y)) (nltb→le x (suc y))
  where
    go : (b : Bool) → (T b → x < suc y) → (T (not b) → suc y ≤ x) → nat_abs (cond b (negsuc (suc y - suc x)) (pos (x - suc y))) ≡ gap x (suc y)
    go true h k = let l : x < suc y = h tt in omega arith
    go false h k = let l : suc y ≤ x = k tt in omega arith

pub abs_neg : (z : ℤ) → nat_abs (neg_ℤ z) ≡ nat_abs z
abs_neg (pos zero) = refl
abs_neg (pos (suc n)) = refl
abs_neg (negsuc n) = refl

pub abs_signed : (s : Bool) (n : ℕ) → nat_abs (signed s n) ≡ n
abs_signed true n = abs_neg (pos n)
abs_signed false n = refl

times : (s : Bool) (k d : ℕ) → signed s k *ℤ pos d ≡ signed s (k * d)
times false k d = refl
times true zero d = ap pos (zero-mul d) ∙ sym (ap (λ (n : ℕ). neg_ℤ (pos n)) (zero-mul d))
times true (suc k) d = refl

-- of the fraction's sign
pub apart : (s : Bool) (k d a : ℕ) → nat_abs (signed s k *ℤ pos d -ℤ signed s a) ≡ gap (k * d) a
apart false k d a = abs_sub (k * d) a
apart true k d a =
    ap (λ (z : ℤ). nat_abs (z -ℤ neg_ℤ (pos a))) (times true k d)
    ∙ ap nat_abs (sym (neg_ℤ-+ℤ (pos (k * d)) (neg_ℤ (pos a))))
    ∙ abs_neg (pos (k * d) -ℤ pos a)
    ∙ abs_sub (k * d) a

-- and of the other
pub across : (s : Bool) (k d a : ℕ) → nat_abs (signed (not s) (suc k) *ℤ pos d -ℤ signed s a) ≡ suc k * d + a
across false k d a =
    ap nat_abs (sym (neg_ℤ-+ℤ (pos (suc k * d)) (pos a))) ∙ abs_neg (pos (suc k * d + a))
across true k d a = ap (λ (z : ℤ). nat_abs (pos (suc k * d) +ℤ z)) (neg_ℤ-neg_ℤ (pos a))

-- a whole number has the sign s, or is another beyond zero
pub by_sign : (s : Bool) (P : ℤ → Type 0) → ((k : ℕ) → P (signed s k)) → ((k : ℕ) → P (signed (not s) (suc k))) → (r : ℤ) → P r
by_sign false P f g (pos n) = f n
by_sign false P f g (negsuc n) = g n
by_sign true P f g (pos zero) = f 0
by_sign true P f g (pos (suc n)) = g n
by_sign true P f g (negsuc n) = f (suc n)

-- ---- the rounded quotient

-- k is within half of a / d, and even at a half
abbrev pub Near : ℕ → ℕ → ℕ → Type 0
Near k d a = (2 * gap (k * d) a ≤ d) × (2 * gap (k * d) a ≡ d → k % 2 ≡ 0)

-- one more of them
next_product : (q d : ℕ) → (q + 1) * d ≡ q * d + d
next_product q d = add-mul q 1 d ∙ ap (λ (n : ℕ). q * d + n) (one-mul d)

near_down : (p q r d a : ℕ) → p + r ≡ a → p ≡ q * d → r * 2 < d → Near q d a
near_down p q r d a e f h = (omega arith, λ t. absurd (omega (arith, t)))

near_up : (p r d a k : ℕ) → p + r ≡ a → k * d ≡ p + d → r < d → d < r * 2 → Near k d a
near_up p r d a k e f l h = (omega arith, λ t. absurd (omega (arith, t)))

near_tie : (p q r d a k : ℕ) → p + r ≡ a → r * 2 ≡ d → p ≡ q * d → k ≡ q + q % 2 → Near k d a
near_tie p q r d a k e t f g = go (q % 2) refl
  where
    go : (m : ℕ) → q % 2 ≡ m → Near k d a
    go zero h =
        let j : k ≡ q = omega arith in
        let i : k * d ≡ p = ap (λ (n : ℕ). n * d) j ∙ sym f in
        (omega arith, λ z. omega arith)
    go (suc m) h =
        let j : k ≡ q + 1 = omega arith in
        let i : k * d ≡ q * d + d = ap (λ (n : ℕ). n * d) j ∙ next_product q d in
        (omega arith, λ z. omega arith)

pub closest_near : (a d : ℕ) → 0 < d → Near (closest a d) d a
closest_near a d h =
    let q = a / d in
    let r = a % d in
    let whole : q * d + r ≡ a = div-add-mod' a d in
    let l : r < d = mod-lt a h in
    by_cases (ltb (r * 2) d)
    (λ t. let b : r * 2 < d = ltb→lt (r * 2) d t in
    subst (λ (k : ℕ). Near k d a) (sym (less q (r * 2) d b)) (near_down (q * d) q r d a whole refl b))
    (λ t. let g : d ≤ r * 2 = nltb→le (r * 2) d t in
    by_cases (ltb d (r * 2))
    (λ u. let b : d < r * 2 = ltb→lt d (r * 2) u in
    subst (λ (k : ℕ). Near k d a) (sym (more q (r * 2) d b)) (near_up (q * d) r d a (q + 1) whole (next_product q d) l b))
    (λ u. let b : r * 2 ≤ d = nltb→le d (r * 2) u in
    let e : r * 2 ≡ d = omega arith in
    near_tie (q * d) q r d a (closest a d) whole e refl (half q (r * 2) d e)))

-- ---- there is one

clash : (j k d a : ℕ) → 0 < d → j < k → Near j d a → Near k d a → ⊥
clash j k d a h l (w, e) (v, f) =
    let m = k - suc j in
    let c : k ≡ suc j + m = omega arith in
    let i : k * d ≡ suc j * d + m * d = ap (λ (n : ℕ). n * d) c ∙ add-mul (suc j) m d in
    let g : suc j * d ≡ j * d + d = suc-mul j d in
    let z : m * d ≡ 0 = omega arith in
    let x : j % 2 ≡ 0 = e (omega arith) in
    let y : k % 2 ≡ 0 = f (omega arith) in
    let o : m ≡ 0 = none m z in
    omega arith
  where
    none : (m : ℕ) → m * d ≡ 0 → m ≡ 0
    none zero z = refl
    none (suc m) z = let s : suc m * d ≡ m * d + d = suc-mul m d in absurd (omega arith)

pub near_only : (j k d a : ℕ) → 0 < d → Near j d a → Near k d a → j ≡ k
near_only j k d a h n o =
    by_cases (ltb j k)
    (λ t. absurd (clash j k d a h (ltb→lt j k t) n o))
    (λ t. by_cases (ltb k j)
    (λ u. absurd (clash k j d a h (ltb→lt k j u) o n))
    (λ u. let x : k ≤ j = nltb→le j k t in let y : j ≤ k = nltb→le k j u in omega arith))

pub never_across : (k d a : ℕ) → 0 < d → 2 * (suc k * d + a) ≤ d → ⊥
never_across k d a h l = let s : suc k * d ≡ k * d + d = suc-mul k d in omega arith
