-- The whole rate is the nearest whole number, and the only one.
use mathlib.Core.Path.{◌≡◌, refl, sym, ap, ◌∙◌, subst}
use mathlib.Core.List.{List}
use Prim.Native.Nat.{ℕ, ◌*◌, ◌%◌, ◌≤◌}
use lib.IntN.{ℤ, pos, nat_abs, ◌*ℤ◌, ◌-ℤ◌}
use lib.Ieee.Nearest.{closest}
use lib.Pow.{pow_pos}
use Rattle.tables.specs.Tables.{Row, answer}
use Rattle.tables.proofs.Tables.{answered, none_told}
use Rattle.panel.specs.Bits.{bits, sign, one, units, signed, exact, nearest_whole}
use Rattle.panel.specs.Panel.{quotient, command_table, Translation, update_to, refused_by, translating}
use Rattle.panel.specs.declared.Command.TheVariants.{Trim, Pull}
use Rattle.translations.specs.Nearness.{Nearest, TrimNearest, PullNearest, WholeNearest, OnlyNearest}
use Rattle.translations.proofs.Distances.{gap, Near, apart, across, abs_signed, by_sign, closest_near, near_only, never_across}

-- a whole number of the float's sign lies as far from it as its size from the float's
distance : (b k : ℕ) → nat_abs (signed (sign b) k *ℤ pos one -ℤ exact b) ≡ gap (k * one) (units b)
distance b k = apart (sign b) k one (units b)

from_near : (b k : ℕ) → Near k one (units b) → Nearest b (signed (sign b) k)
from_near b k (w, e) = record {
  within = subst (λ (n : ℕ). 2 * n ≤ one) (sym (distance b k)) w;
  even = λ t. subst (λ (n : ℕ). n % 2 ≡ 0) (sym (abs_signed (sign b) k)) (e (ap (λ (n : ℕ). 2 * n) (sym (distance b k)) ∙ t));
}

to_near : (b k : ℕ) → Nearest b (signed (sign b) k) → Near k one (units b)
to_near b k n = (
  subst (λ (n : ℕ). 2 * n ≤ one) (distance b k) n.within,
  λ t. subst (λ (n : ℕ). n % 2 ≡ 0) (abs_signed (sign b) k) (n.even (ap (λ (n : ℕ). 2 * n) (distance b k) ∙ t)),
)

rounded : (b : ℕ) → Near (closest (units b) one) one (units b)
rounded b = closest_near (units b) one (pow_pos 1074)

pub whole_nearest : WholeNearest
unfolding nearest_whole
whole_nearest b = from_near b (closest (units b) one) (rounded b)

pub only_nearest : OnlyNearest
unfolding nearest_whole
only_nearest b =
    by_sign (sign b) (λ (r : ℤ). Nearest b r → r ≡ nearest_whole b)
    (λ k n. ap (signed (sign b)) (near_only k (closest (units b) one) one (units b) (pow_pos 1074) (to_near b k n) (rounded b)))
    (λ k n. absurd (never_across k one (units b) (pow_pos 1074) (subst (λ (m : ℕ). 2 * m ≤ one) (across (sign b) k one (units b)) n.within)))

-- where nothing is refused that is the rate
nearest_told : (rows : List Row) (b : ℕ) → (answer rows (update_to (nearest_whole b)) refused_by).refusal ≡ 0 →
    Nearest b (answer rows (update_to (nearest_whole b)) refused_by).request.rate
nearest_told rows b h =
    let taken = update_to (nearest_whole b) in
    subst (λ (t : Translation). Nearest b t.request.rate)
    (answered rows taken refused_by (none_told rows taken refused_by (λ t. t.refusal) (λ n. refl) h))
    (whole_nearest b)

pub trim_nearest : TrimNearest
unfolding translating
trim_nearest ppm = nearest_told (command_table (Trim ppm)) (bits ppm)

pub pull_nearest : PullNearest
unfolding translating
pull_nearest offset window = nearest_told (command_table (Pull offset window)) (bits (quotient offset window))
