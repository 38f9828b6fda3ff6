-- Floats by their bits: whatever 64 bits are handed in, they are judged as they stand, and their exact value is the
-- number that the kit's arithmetic takes them for.
use Rattle.std.specs.Prelude.{Bool, true, false, not, ◌&&◌, List, [], ◌∷◌, ◌++◌, ◌≡◌, ℕ, ◌*◌, ◌^◌, ◌<◌, Float, eqb}
use Rattle.std.specs.Float.{nan, inf, fin, binary64}
use Rattle.std.specs.Float.Ieee.{up, down, fits, of_bits}
use Rattle.tables.specs.Tables.{Row, ◌when◌, answer}
use Rattle.panel.specs.Bits.{bits, sign, is_finite, one, units, nearest_whole}
use Rattle.panel.specs.Panel.{product, quotient, trim_table, update_to, refused_by, translating}
use Rattle.panel.specs.declared.Command.TheVariants.{Trim, Pull}

-- the float of 64 bits is finite where they say so, and then has these bits. Of what is not a number, of either sign
-- and with any digits, the kit keeps one: its bits need not be these, but are not those of a finite float either
pub record Kept (b : ℕ) : Type 0 where
  pub finite : is_finite (bits (of_bits binary64 b)) ≡ is_finite b
  pub same : is_finite b ≡ true → bits (of_bits binary64 b) ≡ b

abbrev pub PatternKept : Type 0
PatternKept = (b : ℕ) → b < 2 ^ 64 → Kept b

-- so a trim is judged by the bits that are handed in, and so are the inputs of a pull
abbrev pub TrimByPattern : Type 0
TrimByPattern = (b : ℕ) → b < 2 ^ 64 →
    translating (Trim (of_bits binary64 b)) ≡ answer (trim_table b) (update_to (nearest_whole b)) refused_by

abbrev pub is_above_zero : ℕ → Bool
is_above_zero b = not (sign b) && not (eqb (units b) 0)

abbrev pub inputs_by_pattern : ℕ → ℕ → List Row
inputs_by_pattern o w =
    (32 when not (is_finite o)
    ∷ 32 when not (is_finite w)
    ∷ 32 when not (is_above_zero w)
    ∷ 32 when not (is_finite (bits (product (of_bits binary64 w))))
    ∷ [])

abbrev pub PullByPattern : Type 0
PullByPattern = (o w : ℕ) →
    let b = bits (quotient (of_bits binary64 o) (of_bits binary64 w)) in
    translating (Pull (of_bits binary64 o) (of_bits binary64 w))
    ≡ answer (inputs_by_pattern o w ++ trim_table b) (update_to (nearest_whole b)) refused_by

-- the kit's `fin s m e` is m * 2^e, negative where s holds, and 2^e is up e / down e
abbrev pub Means : Float → ℕ → Type 0
Means nan b = is_finite b ≡ false
Means (inf s) b = is_finite b ≡ false
Means (fin s m e) b = (is_finite b ≡ true) × (sign b ≡ s) × (m * up e * one ≡ units b * down e)

-- of every float that there is in this format
abbrev pub ExactValue : Type 0
ExactValue = (x : Float) → fits binary64 x ≡ true → Means x (bits x)
