-- The answers to a command, by what the code's tests find.
use mathlib.Core.Path.{◌≡◌, refl, sym}
use mathlib.Core.Bool.{Bool, true, false, not, cond, ◌&&◌}
use mathlib.Core.List.{List, [], ◌∷◌, ◌++◌}
use Prim.Native.Nat.{ℕ}
use Rattle.std.specs.Float.{float_is_finite}
use lib.Ieee.{Float, binary64, lt, mul, div, of_bits, of_int, fits}
use lib.Ieee.Fits.{mul-fits}
use Rattle.tables.proofs.Tests.{is_true}
use Rattle.tables.specs.Tables.{Row, ◌when◌, answer}
use Rattle.std.specs.Prelude.{Some, Ok}
use Rattle.clock.specs.Numbers.{rate_outside}
use Rattle.clock.specs.declared.Request.{Request}
use Rattle.clock.specs.Update.{rate_too_wide}
use Rattle.panel.specs.Bits.{bits, is_finite, nearest_whole}
use Rattle.panel.specs.Parts.{capped_whole}
use Rattle.panel.proofs.Floats.{finite_by_bits}
use Rattle.panel.proofs.Capped.{capped_wide, capped_kept}
use Rattle.panel.specs.Panel.{Translation, rate_request, told, float, product, quotient, trim_table, input_table, update_to, refused_by, translating}
use Rattle.panel.specs.declared.Command.TheVariants.{Trim, Pull}

-- by its bits, what isn't finite is refused
pub bits_bad : (b : ℕ) → is_finite b ≡ false → refused_by 32 ≡ answer (trim_table b) (update_to (nearest_whole b)) refused_by
unfolding trim_table
bits_bad b f = rw f

pub trim_bad : (x : Float) → is_finite (bits x) ≡ false → refused_by 32 ≡ translating (Trim x)
unfolding translating
trim_bad x = bits_bad (bits x)

-- ---- by what the code finds

-- a whole rate is judged by the request that is made of it
abbrev by_request : Request → Translation
by_request u = cond (rate_too_wide u) (refused_by 6) (told (Ok (Some u)))

pub trim_judged : (x : Float) → fits binary64 x ≡ true →
    translating (Trim x) ≡ cond (float_is_finite x) (by_request (rate_request (capped_whole (bits x)))) (refused_by 32)
unfolding translating trim_table rate_too_wide
trim_judged x held = go (float_is_finite x) (rate_outside (nearest_whole (bits x))) (sym (finite_by_bits x held)) refl
  where
    go : (f w : Bool) → is_finite (bits x) ≡ f → rate_outside (nearest_whole (bits x)) ≡ w →
        translating (Trim x) ≡ cond f (by_request (rate_request (capped_whole (bits x)))) (refused_by 32)
    go false w e h = rw e
    go true true e h = rw (e, h, capped_wide, h)
    go true false e h = rw (e, h, capped_wide, h, capped_kept (bits x) h)

-- four rows of one number before a table
judged : (a b c d : Bool) (rows : List Row) (t : Translation) →
    answer ((32 when not a ∷ 32 when not b ∷ 32 when not c ∷ 32 when not d ∷ []) ++ rows) t refused_by
    ≡ cond (a && b && c && d) (answer rows t refused_by) (refused_by 32)
judged true true true true rows t = refl
judged true true true false rows t = refl
judged true true false d rows t = refl
judged true false c d rows t = refl
judged false b c d rows t = refl

-- the code's 0.0 and 1000.0
abbrev zero_float : Float
zero_float = of_bits binary64 0

abbrev thousand : Float
thousand = of_bits binary64 0x408f_4000_0000_0000

pub pull_judged : (o w : Float) → fits binary64 o ≡ true → fits binary64 w ≡ true →
    let p = mul binary64 w thousand in
    translating (Pull o w)
    ≡ cond (float_is_finite o && float_is_finite w && lt zero_float w && float_is_finite p)
    (translating (Trim (div binary64 o p))) (refused_by 32)
unfolding translating input_table product quotient of_bits of_int
pull_judged o w held kept =
    let p = product w in
    let b = bits (quotient o w) in
    rw (finite_by_bits o held, finite_by_bits w kept, finite_by_bits p (is_true (fits binary64 p) (mul-fits binary64 w (float 1000))))
    (judged (is_finite (bits o)) (is_finite (bits w)) (lt (float 0) w) (is_finite (bits p)) (trim_table b) (update_to (nearest_whole b)))
