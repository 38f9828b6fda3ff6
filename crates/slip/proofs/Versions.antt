-- A request as its slip has it: its flags, its version, and that the writer takes it where it takes the request.
use mathlib.Core.Path.{◌≡◌, refl, sym, ap, ap₂, ◌∙◌, subst, subst⁻¹}
use mathlib.Core.Bool.{Bool, true, false, not, cond, ◌&&◌, ◌||◌}
use Prim.Native.Nat.{ℕ, ◌+◌, ◌*◌, ◌%◌, ◌^◌}
use native.Mathlib.Omega.{arith}
use lib.Dec.{T, eqb, eqb→eq}
use lib.Pow.{split}
use lib.IntN.{ℤ}
use mir.Facts.{T_not-not, or_no}
use Rattle.tables.proofs.Tests.{other}
use Rattle.clock.specs.Numbers.{END, END2}
use Rattle.clock.specs.Update.{version, is_version3, version_known, end_of, wrong_unless, word_wrong, values_beyond, values_outside, SameArguments, SameToTheWord}
use Rattle.clock.specs.declared.Request.{Request}
use Rattle.clock.proofs.Requests.{same_through, same_back, same_beyond, same_wide}
use Rattle.slip.specs.Layout.{fits_version2, is_needless}
use Rattle.slip.specs.Writing.{slip_version, in_slip}
use Rattle.slip.proofs.Writings.{Writable}

-- ---- a word that rule 3 let pass

pub version_is_known : (u : Request) → T (not (word_wrong u)) → T (version_known u.word)
unfolding wrong_unless
version_is_known u h = T_not-not (version_known u.word) (or_no (not (version_known u.word)) (not (eqb (u.word % 2 ^ 54) 0)) h).0

-- ---- a word with another version

abbrev with_version : ℕ → ℕ → ℕ
with_version n word = n * 2 ^ 58 + word % 2 ^ 58

module _ (n word : ℕ) where
  version_is : version (with_version n word) ≡ n
  version_is = omega arith

  below_alike : with_version n word % 2 ^ 58 ≡ word % 2 ^ 58
  below_alike = omega arith

  low_alike : with_version n word % 2 ^ 54 ≡ word % 2 ^ 54
  low_alike = omega arith

-- ---- the request

module _ (u : Request) where
  pub slip_version_lem : version (in_slip u).word ≡ slip_version u
  unfolding in_slip
  slip_version_lem = version_is (slip_version u) u.word

  pub slip_below : (in_slip u).word % 2 ^ 58 ≡ u.word % 2 ^ 58
  unfolding in_slip
  slip_below = below_alike (slip_version u) u.word

  slip_low : (in_slip u).word % 2 ^ 54 ≡ u.word % 2 ^ 54
  unfolding in_slip
  slip_low = low_alike (slip_version u) u.word

  -- its arguments are the request's
  slip_arguments : SameArguments (in_slip u) u
  unfolding in_slip
  slip_arguments = record { synthetic = λ t. refl; reference = λ t. refl; rate = λ t. refl; error = λ t. refl }

  pub slip_kept : SameArguments u (in_slip u)
  slip_kept = same_back (in_slip u) u slip_below slip_arguments

  slip_beyond : (end : ℤ) → values_beyond end (in_slip u) ≡ values_beyond end u
  slip_beyond = same_beyond (in_slip u) u slip_below slip_arguments

  -- its word: a version that is known, and the bits that are to be zero as they were
  slip_known : T (not (word_wrong u)) → T (not (word_wrong (in_slip u)))
  unfolding wrong_unless
  slip_known h =
      rw (slip_version_lem, slip_low) (go (fits_version2 u) (eqb (u.word % 2 ^ 54) 0) (version_known u.word) h)
    where
      go : (fits low known : Bool) → T (not (not known || not low)) → T (not (not (eqb (cond fits 2 3) 2 || eqb (cond fits 2 3) 3) || not low))
      go true true known h = tt
      go false true known h = tt
      go fits false true h = absurd h
      go fits false false h = absurd h

  -- its times: what version 2 does not hold was let pass by the end of version 3
  slip_inside : T (not (values_outside u)) → T (not (values_outside (in_slip u)))
  slip_inside h = rw (slip_beyond (end_of (in_slip u).word), slip_version_lem) (go (values_beyond END2 u) refl (is_version3 u.word) h)
    where
      go : (beyond : Bool) → values_beyond END2 u ≡ beyond → (newer : Bool) → T (not (values_beyond (cond newer END END2) u)) →
          T (not (values_beyond (cond (eqb (cond (not beyond) 2 3) 3) END END2) u))
      go true e true h = h
      go true e false h = absurd (subst (λ (b : Bool). T (not b)) e h)
      go false e newer h = subst (λ (b : Bool). T (not b)) (sym e) tt

  pub slip_writable : Writable u → Writable (in_slip u)
  slip_writable w = record {
    word = slip_known w.word;
    values = slip_inside w.values;
    rate = subst⁻¹ (λ (b : Bool). T (not b)) (same_wide (in_slip u) u slip_below slip_arguments) w.rate;
  }

  -- version 3 only where it is needed
  pub slip_needed : T (not (is_needless (in_slip u)))
  slip_needed = rw (slip_version_lem, slip_beyond END2) (go (values_beyond END2 u))
    where
      go : (beyond : Bool) → T (not (eqb (cond (not beyond) 2 3) 3 && not beyond))
      go true = tt
      go false = tt

-- ---- a request in the version that its slip has

-- what the writer takes is in it already, unless its version is needless
slip_settled : (u : Request) → Writable u → T (not (is_needless u)) → slip_version u ≡ version u.word
slip_settled u w needed =
    go (values_beyond END2 u) refl (is_version3 u.word) (eqb→eq (version u.word) 3) w.values needed
    (λ n. eqb→eq (version u.word) 2 (other (eqb (version u.word) 2) (is_version3 u.word) (version_is_known u w.word) n))
  where
    go : (beyond : Bool) → values_beyond END2 u ≡ beyond → (newer : Bool) → (T newer → version u.word ≡ 3) →
        T (not (values_beyond (cond newer END END2) u)) → T (not (newer && not beyond)) → (T (not newer) → version u.word ≡ 2) →
        cond (not beyond) 2 3 ≡ version u.word
    go true e true three h n two = sym (three tt)
    go true e false three h n two = absurd (subst (λ (b : Bool). T (not b)) e h)
    go false e true three h n two = absurd n
    go false e false three h n two = sym (two tt)

pub slip_itself : (u : Request) → Writable u → T (not (is_needless u)) → in_slip u ≡ u
unfolding in_slip
slip_itself u w needed =
    ap {B = Request}
    (λ (k : ℕ). record { word = k; synthetic = u.synthetic; reference = u.reference; rate = u.rate; error = u.error })
    (ap (λ (n : ℕ). n * 2 ^ 58 + u.word % 2 ^ 58) (slip_settled u w needed) ∙ split u.word 58)

-- ---- requests that are the same

module _ (u v : Request) (below : u.word % 2 ^ 58 ≡ v.word % 2 ^ 58) (same : SameArguments u v) where
  word_same : (in_slip u).word ≡ (in_slip v).word
  unfolding in_slip
  word_same = ap₂ (λ (beyond : Bool) (k : ℕ). cond (not beyond) 2 3 * 2 ^ 58 + k) (same_beyond u v below same END2) below

  -- have the same word in their slips
  pub slip_same : SameToTheWord (in_slip u) (in_slip v)
  slip_same = record {
    word = word_same;
    arguments =
        same_through (in_slip u) u (in_slip v) (slip_below u) (slip_arguments u) (same_through u v (in_slip v) below same (slip_kept v));
  }
