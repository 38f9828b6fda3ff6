-- Tests in Bool: what is known where one holds or fails, beyond the kit's mir.Facts.
use mathlib.Core.Path.{◌≡◌, refl, sym, subst}
use mathlib.Core.Bool.{Bool, true, false, not, cond, ◌&&◌, ◌||◌}
use Prim.Native.Nat.{ℕ}
use borrow.Author.Tests.{eq-eqb}
use lib.Dec.{T, eqb}

pub is_true : (b : Bool) → T b → b ≡ true
is_true true t = refl
is_true false t = absurd t

pub is_false : (b : Bool) → T (not b) → b ≡ false
is_false true n = absurd n
is_false false n = refl

pub if_true : {A : Type 0} (b : Bool) (x y : A) → T b → cond b x y ≡ x
if_true true x y t = refl
if_true false x y t = absurd t

pub if_false : {A : Type 0} (b : Bool) (x y : A) → T (not b) → cond b x y ≡ y
if_false true x y n = absurd n
if_false false x y n = refl

pub by_cases : {A : Type 0} (b : Bool) → (T b → A) → (T (not b) → A) → A
by_cases true f g = f tt
by_cases false f g = g tt

-- ---- two tests

-- a refusal's test that failed though its first part holds
pub fails_second : (a b : Bool) → T a → T (not (a && b)) → T (not b)
fails_second true b t n = n
fails_second false b t n = absurd t

pub neither : (a b : Bool) → T (not a) → T (not b) → T (not (a || b))
neither true b n m = n
neither false b n m = m

pub other : (a b : Bool) → T (a || b) → T (not b) → T a
other true b t n = tt
other false true t n = absurd n
other false false t n = t

-- ---- a row's test that fails

pub is_zero : (n : ℕ) → n ≡ 0 → T (not (not (eqb n 0)))
is_zero n e = subst (λ (t : Bool). T (not (not t))) (sym (eq-eqb n 0 e)) tt
