-- The widths of a slip's fields: what they come to, and what they depend on.
use mathlib.Core.Path.{◌≡◌, refl, sym, ap, ap₂, ◌∙◌, subst}
use mathlib.Core.Bool.{Bool, true, false, cond}
use mathlib.Core.List.{List, [], ◌∷◌, ◌++◌}
use Prim.Native.Nat.{ℕ, ◌+◌, ◌-◌, ◌*◌, ◌^◌, ◌≤◌, ◌<◌}
use native.Mathlib.Omega.{arith}
use native.Mathlib.Nat.{zero-add, add_assoc}
use lib.ListN.{length, get_or}
use Rattle.clock.specs.Update.{is_version3, has_synthetic, has_reference, has_rate, has_error}
use Rattle.clock.specs.declared.Request.{Request}
use Rattle.fields.specs.Bits.{room}
use Rattle.fields.specs.Record.{total, Narrow, AllInside}
use Rattle.slip.specs.Parts.{sizes}
use Rattle.slip.specs.declared.Sizes.{Sizes}
use Rattle.slip.specs.Layout.{header_width, time_width, rate_width, error_width, flagged_width, bare, widths_by, widths, length_by, slip_length, padding_by, padding, layout_by, layout, header_length, full_word, longest}

pub flagged_le : (flagged : Bool) (width : ℕ) → flagged_width flagged width ≤ width
flagged_le true width = omega arith
flagged_le false width = omega arith

-- a signed number of 64 bits holds a time of either version
pub time_narrow : (word : ℕ) → time_width word ≤ 63
time_narrow word = go (is_version3 word)
  where
    go : (b : Bool) → cond b 63 61 ≤ 63
    go true = omega arith
    go false = omega arith

total_append : (a b : List ℕ) → total (a ++ b) ≡ total a + total b
total_append [] b = sym (zero-add (total b))
total_append (w ∷ a) b = ap (λ (n : ℕ). w + n) (total_append a b) ∙ sym (add_assoc w (total a) (total b))

-- padding fills the last byte
whole : (p : ℕ) → p + (8 * room p - p + 0) ≡ 8 * room p
whole p = omega arith

room_mono : (p q : ℕ) → p ≤ q → room p ≤ room q
room_mono p q h = omega arith

room_bounds : (p : ℕ) → (8 * room p - p ≤ 7) × (p ≤ 8 * room p)
room_bounds p = (omega arith, omega arith)

-- header, two times, rate and error
abbrev full : ℕ → ℕ
full time = header_width + (time + (time + (rate_width + error_width)))

full_is : (newer : Bool) → total (widths (bare (full_word (cond newer 3 2)))) ≡ full (cond newer 63 61)
unfolding widths_by
full_is true = refl
full_is false = refl

module _ (u : Request) where
  total_low : header_width ≤ total (widths u)
  unfolding widths_by
  total_low = omega arith

  -- whatever the width of a time: no more than with all four flagged
  total_by : (time : ℕ) → total (widths_by time u) ≤ full time
  unfolding widths_by
  total_by time =
      omega (
        arith,
        flagged_le (has_synthetic u) time,
        flagged_le (has_reference u) time,
        flagged_le (has_rate u) rate_width,
        flagged_le (has_error u) error_width,
      )

  pub total_high : total (widths u) ≤ total (widths (longest u.word))
  total_high = subst (λ (n : ℕ). total (widths u) ≤ n) (sym (full_is (is_version3 u.word))) (total_by (time_width u.word))

  pub length_low : header_length ≤ slip_length u
  unfolding length_by
  length_low = room_mono header_width (total (widths u)) total_low

  pub length_high : slip_length u ≤ slip_length (longest u.word)
  unfolding length_by
  length_high = room_mono (total (widths u)) (total (widths (longest u.word))) total_high

  padding_high : padding u ≤ 7
  unfolding padding_by length_by
  padding_high = (room_bounds (total (widths u))).0

  pub total_inside : total (widths u) ≤ 8 * slip_length u
  unfolding length_by
  total_inside = (room_bounds (total (widths u))).1

  -- a slip fills whole bytes
  pub total_layout : total (layout u) ≡ 8 * slip_length u
  unfolding layout_by padding_by length_by
  total_layout = total_append (widths u) (padding u ∷ []) ∙ whole (total (widths u))

  narrow_layout : Narrow (layout u)
  unfolding layout_by widths_by
  narrow_layout = (
    omega arith,
    (
      omega (arith, time_narrow u.word, flagged_le (has_synthetic u) (time_width u.word)),
      (
        omega (arith, time_narrow u.word, flagged_le (has_reference u) (time_width u.word)),
        (omega (arith, flagged_le (has_rate u) rate_width), (flagged_le (has_error u) error_width, (omega (arith, padding_high), tt))),
      ),
    ),
  )

  -- few enough to be counted, in bits too
  pub counted : slip_length u < 2 ^ 32
  unfolding length_by
  counted = omega (arith, total_by (time_width u.word), time_narrow u.word)

  -- a slip lies in bytes that are as long as its header calls for
  pub layout_inside : (bytes : List ℕ) → slip_length u ≤ length bytes → AllInside bytes 0 (layout u)
  layout_inside bytes h = (omega (arith, total_layout), narrow_layout, omega (arith, total_layout, counted))

-- ---- the widths as the code has them

-- five of them, added up from the front
abbrev pub sum : List ℕ → ℕ
sum r = get_or r 0 0 + get_or r 1 0 + get_or r 2 0 + get_or r 3 0 + get_or r 4 0

widths_sum : (u : Request) (r : List ℕ) → r ≡ widths u → sum r ≡ total (widths u)
unfolding widths_by
widths_sum u r e = ap sum e ∙ omega arith

-- they are few enough to be added up and rounded
pub sum_small : (word : ℕ) (r : List ℕ) → r ≡ widths (bare word) → sum r + 7 < 2 ^ 64
sum_small word r e = omega (arith, widths_sum (bare word) r e, total_inside (bare word), counted (bare word))

-- the sizes that come of five widths and their sum
abbrev sizes_by : List ℕ → ℕ → Sizes
sizes_by r bits = record {
  layout = get_or r 0 0 ∷ get_or r 1 0 ∷ get_or r 2 0 ∷ get_or r 3 0 ∷ get_or r 4 0 ∷ (8 * room bits - bits) ∷ [];
  length = room bits;
}

sized : (u : Request) (r : List ℕ) (bits : ℕ) → r ≡ widths u → bits ≡ total (widths u) → sizes_by r bits ≡ sizes u
unfolding layout_by padding_by length_by widths_by
sized u r bits e h = ap₂ {C = Sizes} sizes_by e h

pub sizes_are : (word : ℕ) (r : List ℕ) → r ≡ widths (bare word) → sizes_by r (sum r) ≡ sizes (bare word)
sizes_are word r e = sized (bare word) r (sum r) e (widths_sum (bare word) r e)

-- only the word matters
pub length_alike : (u v : Request) → u.word ≡ v.word → slip_length u ≡ slip_length v
unfolding length_by widths_by
length_alike u v e = ap (λ (w : ℕ). slip_length (bare w)) e

pub layout_alike : (u v : Request) → u.word ≡ v.word → layout u ≡ layout v
unfolding layout_by padding_by length_by widths_by
layout_alike u v e = ap (λ (w : ℕ). layout (bare w)) e

pub sizes_alike : (u v : Request) → u.word ≡ v.word → sizes u ≡ sizes v
sizes_alike u v e = ap₂ {C = Sizes} (λ ws n. record { layout = ws; length = n }) (layout_alike u v e) (length_alike u v e)
