-- A field out of some bytes that are taken as one number.
use mathlib.Core.Path.{◌≡◌, refl, sym, ap, ap₂, ◌∙◌}
use mathlib.Core.List.{List}
use Prim.Native.Nat.{ℕ, ◌+◌, ◌-◌, ◌*◌, ◌/◌, ◌%◌, ◌^◌, ◌≤◌, ◌<◌}
use native.Mathlib.Nat.{mod-eq_of_lt, div-one, add-zero}
use native.Mathlib.Omega.{arith}
use lib.ListN.{length, get_or}
use lib.Pow.{high, shr_lt}
use Rattle.fields.specs.Bits.{Bytes}
use Rattle.fields.specs.Field.{field}
use Rattle.fields.proofs.Words.{shl_low, shl_shr_more, shl_shr_less, chained_sum}
use Rattle.fields.proofs.Reading.{field_lt, field_more, field_byte}

-- the first bits of a byte
field_front_bits : (l : List ℕ) (i k : ℕ) → i < length l → get_or l i 0 < 256 → k ≤ 8 → field l (8 * i) k ≡ get_or l i 0 / 2 ^ (8 - k)
field_front_bits l i k h b hk =
    let e : k + (8 - k) ≡ 8 = omega arith in
    ap (λ (p : ℕ). field l p k) (sym (add-zero (8 * i)))
    ∙ field_byte l i 0 k (8 - k) h (omega arith)
    ∙ mod-eq_of_lt (shr_lt k (8 - k) (rw e b))

-- a whole byte
field_whole : (l : List ℕ) (i : ℕ) → i < length l → get_or l i 0 < 256 → field l (8 * i) 8 ≡ get_or l i 0
field_whole l i h b = field_front_bits l i 8 h b (omega arith) ∙ div-one (get_or l i 0)

-- two fields that follow each other
field_two : (l : List ℕ) (place mid n k m : ℕ) → mid ≡ place + n → m ≡ n + k → place + m ≤ 8 * length l → field l place n * 2 ^ k + field l mid k ≡ field l place m
field_two l place mid n k m e f h =
    ap (λ (p : ℕ). field l place n * 2 ^ k + field l p k) e ∙ sym (field_more l place n k (omega arith)) ∙ ap (field l place) (sym f)

-- a byte more
pub field_next
    : (l : List ℕ) (i j n x : ℕ) → x ≡ field l (8 * i) (8 * n) → j ≡ i + n → j < length l → get_or l j 0 < 256
    → x * 256 + get_or l j 0 ≡ field l (8 * i) (8 * (n + 1))
field_next l i j n x e ej h b =
    ap₂ (λ (y z : ℕ). y * 256 + z) e (sym (field_whole l j h b))
    ∙ field_two l (8 * i) (8 * j) (8 * n) 8 (8 * (n + 1)) (omega arith) (omega arith) (omega arith)

-- eight bytes, each at its place
pub field_eight
    : (l : List ℕ) (i : ℕ) → i + 8 ≤ length l → Bytes l
    → get_or l i 0 * 2 ^ 56 + get_or l (i + 1) 0 * 2 ^ 48 + get_or l (i + 2) 0 * 2 ^ 40 + get_or l (i + 3) 0 * 2 ^ 32
    + get_or l (i + 4) 0 * 2 ^ 24 + get_or l (i + 5) 0 * 2 ^ 16 + get_or l (i + 6) 0 * 2 ^ 8 + get_or l (i + 7) 0
    ≡ field l (8 * i) 64
field_eight l i h b =
    sym (chained_sum (get_or l i 0) (get_or l (i + 1) 0) (get_or l (i + 2) 0) (get_or l (i + 3) 0) (get_or l (i + 4) 0) (get_or l (i + 5) 0) (get_or l (i + 6) 0) (get_or l (i + 7) 0))
    ∙ field_next l i (i + 7) 7 _
    (field_next l i (i + 6) 6 _
    (field_next l i (i + 5) 5 _
    (field_next l i (i + 4) 4 _
    (field_next l i (i + 3) 3 _
    (field_next l i (i + 2) 2 _
    (field_next l i (i + 1) 1 _ (sym (field_whole l i (omega arith) (b i))) refl (omega arith) (b (i + 1)))
    refl (omega arith) (b (i + 2)))
    refl (omega arith) (b (i + 3)))
    refl (omega arith) (b (i + 4)))
    refl (omega arith) (b (i + 5)))
    refl (omega arith) (b (i + 6)))
    refl (omega arith) (b (i + 7))

-- m bits, shifted up by s until the first o of them are gone
window_shl
    : (l : List ℕ) (a m o k s : ℕ) → m ≡ o + k → k + s ≡ 64 → a + m ≤ 8 * length l
    → field l a m * 2 ^ s % 2 ^ 64 ≡ field l (a + o) k * 2 ^ s
window_shl l a m o k s em e h =
    ap₂ (λ (m n : ℕ). field l a m * 2 ^ s % 2 ^ n) em (sym e)
    ∙ ap (λ (n : ℕ). n * 2 ^ s % 2 ^ (k + s)) (field_more l a o k (omega arith))
    ∙ shl_low (field l a o) k s (field l (a + o) k) (field_lt l (a + o) k (omega arith))

-- a field inside m bits, shifted up until what stands before it is gone, and down to its width
pub window_in
    : (l : List ℕ) (a m place w s : ℕ) → a ≤ place → place + w ≤ a + m → a + m + s ≡ place + 64 → a + m ≤ 8 * length l
    → field l a m * 2 ^ s % 2 ^ 64 / 2 ^ (64 - w) ≡ field l place w
window_in l a m place w s ha hw e h =
    let o : ℕ = place - a in
    let r : ℕ = m - o - w in
    let down : 64 - w ≡ s + r = omega arith in
    let there : a + o ≡ place = omega arith in
    ap₂ (λ (x d : ℕ). x / 2 ^ d) (window_shl l a m o (w + r) s (omega arith) (omega arith) h) down
    ∙ shl_shr_more (field l (a + o) (w + r)) s r
    ∙ ap (λ (n : ℕ). n / 2 ^ r) (field_more l (a + o) w r (omega arith))
    ∙ high (field l (a + o) w) r (field_lt l (a + o + w) r (omega arith))
    ∙ ap (λ (p : ℕ). field l p w) there

-- a field that goes on in the byte after eight others, with `left` of its bits
window_nine
    : (l : List ℕ) (i o w k d left : ℕ) → o + k ≡ 64 → o ≡ left + d → w ≡ k + left → left ≤ 8 → i + 8 < length l → get_or l (i + 8) 0 < 256
    → field l (8 * i) 64 * 2 ^ o % 2 ^ 64 / 2 ^ d + get_or l (i + 8) 0 / 2 ^ (8 - left) ≡ field l (8 * i + o) w
window_nine l i o w k d left ek eo ew hl h b =
    ap₂ (λ (x y : ℕ). x + y)
    (ap (λ (x : ℕ). x / 2 ^ d) (window_shl l (8 * i) 64 o k o (sym ek) (omega arith) (omega arith) ∙ ap (λ (n : ℕ). field l (8 * i + o) k * 2 ^ n) eo)
    ∙ shl_shr_less (field l (8 * i + o) k) left d)
    (sym (field_front_bits l (i + 8) left h b hl))
    ∙ field_two l (8 * i + o) (8 * (i + 8)) k left w (omega arith) ew (omega arith)

pub window_past
    : (l : List ℕ) (i place w : ℕ) → 8 * i ≤ place → place < 8 * i + 8 → 8 * i + 64 < place + w → w ≤ 64 → i + 8 < length l → get_or l (i + 8) 0 < 256
    → field l (8 * i) 64 * 2 ^ (place - 8 * i) % 2 ^ 64 / 2 ^ (64 - w) + get_or l (i + 8) 0 / 2 ^ (72 - (place - 8 * i) - w) ≡ field l place w
window_past l i place w ha hb hw h64 h b = go (place - 8 * i) (omega arith)
  where
    go : (o : ℕ) → 8 * i + o ≡ place
        → field l (8 * i) 64 * 2 ^ o % 2 ^ 64 / 2 ^ (64 - w) + get_or l (i + 8) 0 / 2 ^ (72 - o - w) ≡ field l place w
    go o e =
        let rest : 72 - o - w ≡ 8 - (o + w - 64) = omega arith in
        ap (λ (n : ℕ). field l (8 * i) 64 * 2 ^ o % 2 ^ 64 / 2 ^ (64 - w) + get_or l (i + 8) 0 / 2 ^ n) rest
        ∙ window_nine l i o w (64 - o) (64 - w) (o + w - 64) (omega arith) (omega arith) (omega arith) (omega arith) h b
        ∙ ap (λ (p : ℕ). field l p w) e
