-- A float is judged by its bits as they stand, and they are its exact value.
use mathlib.Core.Path.{◌≡◌, refl, sym, ap, ◌∙◌, subst}
use mathlib.Core.Bool.{Bool, true, false, not, ◌&&◌, true≢false}
use mathlib.Core.List.{◌++◌}
use Prim.Native.Nat.{ℕ, zero, suc, ◌+◌, ◌*◌, ◌^◌, ◌<◌}
use native.Mathlib.Nat.{zero-mul, suc-mul}
use native.Mathlib.Omega.{arith}
use lib.Dec.{T, ltb, eqb, lt→ltb, eqb-suc-zero}
use lib.Pow.{pow_pos}
use lib.Ieee.{Float, nan, inf, fin, binary64, up, down, lt, of_int, of_bits, fits}
use lib.Ieee.Bits.{to_bits-of_bits, of_bits-fits}
use lib.Ieee.Fits.{down_pos}
use Rattle.tables.specs.Tables.{answer_to, answer}
use Rattle.tables.proofs.Tables.{first_alike}
use Rattle.tables.proofs.Tests.{is_true}
use Rattle.panel.specs.Bits.{bits, sign, is_finite, one, units, nearest_whole}
use Rattle.panel.specs.Panel.{float, quotient, trim_table, input_table, update_to, refused_by, translating}
use Rattle.panel.specs.declared.Command.TheVariants.{Trim}
use Rattle.panel.proofs.Floats.{Says, pattern_says, bits_say, no_nan}
use Rattle.panel.proofs.Tables.{bits_bad, trim_bad}
use Rattle.translations.specs.Patterns.{PatternKept, TrimByPattern, is_above_zero, inputs_by_pattern, PullByPattern, Means, ExactValue}

-- one float is finite or not, whatever is known of it
says_finite : (x : Float) (f g s t : Bool) (n m : ℕ) → Says x f s n → Says x g t m → f ≡ g
says_finite nan f g s t n m h k = h ∙ sym k
says_finite (inf u) f g s t n m h k = h ∙ sym k
says_finite (fin u a e) f g s t n m h k = h.0 ∙ sym k.0

finite_kept : (b : ℕ) → is_finite (bits (of_bits binary64 b)) ≡ is_finite b
finite_kept b =
    let x = of_bits binary64 b in
    says_finite x (is_finite (bits x)) (is_finite b) (sign (bits x)) (sign b) (units (bits x)) (units b)
    (bits_say x (is_true (fits binary64 x) (of_bits-fits binary64 b)))
    (pattern_says b)

bits_kept : (b : ℕ) → b < 2 ^ 64 → is_finite b ≡ true → bits (of_bits binary64 b) ≡ b
bits_kept b h f = to_bits-of_bits binary64 b h (no_nan (of_bits binary64 b) (is_finite b) (sign b) (units b) (pattern_says b) f)

pub pattern_kept : PatternKept
pattern_kept b h = record { finite = finite_kept b; same = bits_kept b h }

pub trim_by_pattern : TrimByPattern
unfolding translating
trim_by_pattern b h = go (is_finite b) refl
  where
    go : (f : Bool) → is_finite b ≡ f → translating (Trim (of_bits binary64 b)) ≡ answer (trim_table b) (update_to (nearest_whole b)) refused_by
    go true f = ap (λ (n : ℕ). answer (trim_table n) (update_to (nearest_whole n)) refused_by) (bits_kept b h f)
    go false f = sym (trim_bad (of_bits binary64 b) (finite_kept b ∙ f)) ∙ bits_bad b f

-- ---- a window above zero

-- b / D is 0 where n / W is
above_test : (a b n W D : ℕ) → a ≡ 0 → 0 < W → 0 < D → b * W ≡ n * D → ltb a (b * 1) ≡ not (eqb n 0)
above_test a zero zero W D z w d e = ap (λ (x : ℕ). ltb x (0 * 1)) z
above_test a (suc j) zero W D z w d e =
    let l : suc j * W ≡ j * W + W = suc-mul j W in
    let r : 0 * D ≡ 0 = zero-mul D in
    absurd (omega arith)
above_test a zero (suc k) W D z w d e =
    let l : 0 * W ≡ 0 = zero-mul W in
    let r : suc k * D ≡ k * D + D = suc-mul k D in
    absurd (omega arith)
above_test a (suc j) (suc k) W D z w d e =
    is_true (ltb a (suc j * 1)) (lt→ltb a (suc j * 1) (omega arith)) ∙ sym (ap not (eqb-suc-zero k))

says_above : (x : Float) (s : Bool) (n : ℕ) → Says x true s n → lt (float 0) x ≡ (not s && not (eqb n 0))
unfolding lt of_int
says_above nan s n h = absurd (true≢false h)
says_above (inf u) s n h = absurd (true≢false h)
says_above (fin u m e) s n h = go u h.1
  where
    go : (u : Bool) → s ≡ u → lt (float 0) (fin u m e) ≡ (not s && not (eqb n 0))
    go true t = sym (ap (λ (b : Bool). not b && not (eqb n 0)) t)
    go false t =
        above_test (0 * 1 * down e) (m * up e) n one (down e) (zero-mul (down e)) (pow_pos 1074) (down_pos e) h.2
        ∙ sym (ap (λ (b : Bool). not b && not (eqb n 0)) t)

above_kept : (w : ℕ) → is_finite w ≡ true → lt (float 0) (of_bits binary64 w) ≡ is_above_zero w
above_kept w f =
    says_above (of_bits binary64 w) (sign w) (units w)
    (subst (λ (b : Bool). Says (of_bits binary64 w) b (sign w) (units w)) f (pattern_says w))

no_refusal : (b : Bool) → T (not (not b)) → b ≡ true
no_refusal true t = refl
no_refusal false t = absurd t

pub pull_by_pattern : PullByPattern
unfolding translating input_table trim_table
pull_by_pattern o w =
    let x = of_bits binary64 o in
    let y = of_bits binary64 w in
    let b = bits (quotient x y) in
    ap (λ (n : ℕ). answer_to n (update_to (nearest_whole b)) refused_by)
    (first_alike (input_table x y ++ trim_table b) (inputs_by_pattern o w ++ trim_table b) (
      refl,
      ap not (finite_kept o),
      λ t0. (
        refl,
        ap not (finite_kept w),
        λ t1. (
          refl,
          ap not (above_kept w (no_refusal (is_finite w) t1)),
          λ t2. (
            refl,
            refl,
            λ t3. (
              refl,
              refl,
              λ t4.
                  (refl, refl, λ t5. tt),
            ),
          ),
        ),
      ),
    ))

-- ---- the kit's number

pub exact_value : ExactValue
exact_value x held = go x (bits_say x held)
  where
    go : (y : Float) → Says y (is_finite (bits x)) (sign (bits x)) (units (bits x)) → Means y (bits x)
    go nan h = h
    go (inf s) h = h
    go (fin s m e) h = h
