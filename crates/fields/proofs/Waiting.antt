-- Bits that wait to be written: a field behind them, bytes of them that go out, and those that share a byte.
use mathlib.Core.Path.{◌≡◌, refl, sym, ap, ap₂, ◌∙◌, subst}
use mathlib.Core.Bool.{Bool}
use mathlib.Core.List.{List, ◌++◌, append_assoc}
use Prim.Native.Nat.{ℕ, ◌+◌, ◌-◌, ◌*◌, ◌/◌, ◌%◌, ◌^◌, ◌≤◌, ◌<◌}
use native.Mathlib.Nat.{add-zero, add-mul}
use native.Mathlib.Omega.{arith}
use lib.ListN.{length, take, drop, get_or, set}
use lib.Pow.{pow-add, shl_lt, shr_lt, shl_exact, shl-shr, shr-shr, field}
use lib.Arith.{digits_lt}
use Rattle.fields.specs.Bits.{digits, row}
use Rattle.fields.specs.Field.{over}
use Rattle.fields.specs.Pending.{waiting, reach, merged, Together}
use Rattle.fields.proofs.Numbers.{length_digits, digits_mod, digits_append, digits_joined}
use Rattle.fields.proofs.Rows.{length_row, row_byte}
use Rattle.fields.proofs.Words.{shl_shl, shl_word, shl_word_twice, shl_clear, shr_shl, shl_shr_more, shl_shr_less}
use Rattle.fields.proofs.Over.{over_no_digits, over_own, over_over}
use Rattle.fields.proofs.Writing.{front_written, front_digits, front_fits}

-- ---- a word, and the number of its first c bits

abbrev front : ℕ → ℕ → ℕ
front x c = x / 2 ^ (64 - c)

front_lt : (x c : ℕ) → x < 2 ^ 64 → c ≤ 64 → front x c < 2 ^ c
front_lt x c fits h =
    let all : c + (64 - c) ≡ 64 = omega arith in
    shr_lt c (64 - c) (rw all fits)

-- a word that is n shifted up: no bit below is set, and those of n wait
shifted_waits : {x : ℕ} (n c k : ℕ) → x ≡ n * 2 ^ k → (x % 2 ^ k ≡ 0) × (digits c (x / 2 ^ k) ≡ digits c n)
shifted_waits n c k e = (
  ap (λ (y : ℕ). y % 2 ^ k) e ∙ shl_clear n k,
  ap (λ (y : ℕ). digits c (y / 2 ^ k)) e ∙ ap (digits c) (shl-shr n k),
)

-- the place behind c bits
pub reach_waiting : (x c i : ℕ) → reach (waiting x c i) ≡ 8 * i + c
reach_waiting x c i = ap (λ (n : ℕ). 8 * i + n) (length_digits c (front x c))

pub nothing_waits : (l : List ℕ) (x c i : ℕ) → c ≡ 0 → merged l (waiting x c i) ≡ row l
unfolding merged
nothing_waits l x c i e = over_no_digits (row l) (8 * i) c (front x c) e

-- ---- a field of w bits behind the c bits that wait in the word x

-- below the first c bits of a word there is room for another, moved down by c
pub sum_fits : (x c y : ℕ) → x < 2 ^ 64 → c < 64 → x % 2 ^ (64 - c) ≡ 0 → y < 2 ^ 64 → x + y / 2 ^ c < 2 ^ 64
sum_fits x c y fits hc clear hy =
    let all : c + (64 - c) ≡ 64 = omega arith in
    let all₁ : 64 - c + c ≡ 64 = omega arith in
    let behind : y / 2 ^ c < 2 ^ (64 - c) = shr_lt (64 - c) c (rw all₁ hy) in
    subst (λ (n : ℕ). x + y / 2 ^ c < 2 ^ n) all
    (rw (pow-add 2 c (64 - c))
    (subst (λ (n : ℕ). n + y / 2 ^ c < 2 ^ c * 2 ^ (64 - c)) (sym (shr_shl x (64 - c) clear)) (digits_lt (front_lt x c fits (omega arith)) behind)))

-- w bits of v, moved to the top of a word and then down past c bits
abbrev moved : ℕ → ℕ → ℕ → ℕ
moved v w c = v * 2 ^ (64 - w) % 2 ^ 64 / 2 ^ c

module _ (x c w v : ℕ) (hc : c < 64) (clear : x % 2 ^ (64 - c) ≡ 0) (hw : w ≤ 64) where
  top : v * 2 ^ (64 - w) % 2 ^ 64 ≡ v % 2 ^ w * 2 ^ (64 - w)
  top = shl_word v w (64 - w) (omega arith)

  -- all of it finds room, and r bits are free
  sum_short : (r : ℕ) → c + w + r ≡ 64 → x + moved v w c ≡ (front x c * 2 ^ w + v % 2 ^ w) * 2 ^ r
  sum_short r e =
      let up : 64 - w ≡ r + c = omega arith in
      let down : 64 - c ≡ w + r = omega arith in
      let y : x ≡ front x c * 2 ^ w * 2 ^ r = shr_shl x (64 - c) clear ∙ ap (λ (k : ℕ). front x c * 2 ^ k) down ∙ sym (shl_shl (front x c) w r) in
      let m : moved v w c ≡ v % 2 ^ w * 2 ^ r =
      ap (λ (y : ℕ). y / 2 ^ c) (top ∙ ap (λ (k : ℕ). v % 2 ^ w * 2 ^ k) up) ∙ shl_shr_less (v % 2 ^ w) r c in
      ap₂ (λ (a b : ℕ). a + b) y m ∙ sym (add-mul (front x c * 2 ^ w) (v % 2 ^ w) (2 ^ r))

  short_waits
      : (r : ℕ) → c + w + r ≡ 64
      → ((x + moved v w c) % 2 ^ r ≡ 0) × (digits (c + w) ((x + moved v w c) / 2 ^ r) ≡ digits c (front x c) ++ digits w v)
  short_waits r e =
      let sum = shifted_waits (front x c * 2 ^ w + v % 2 ^ w) (c + w) r (sum_short r e) in (
        sum.0,
        sum.1
            ∙ digits_joined c w (front x c) v,
      )

  -- the word is full, and r bits of the field are left
  sum_full : (r : ℕ) → c + w ≡ 64 + r → x + moved v w c ≡ front x c * 2 ^ (64 - c) + v / 2 ^ r % 2 ^ (64 - c)
  sum_full r e =
      let down : c ≡ 64 - w + r = omega arith in
      let wide : w ≡ 64 - c + r = omega arith in
      ap₂ (λ (a b : ℕ). a + b) (shr_shl x (64 - c) clear)
      (ap₂ (λ (y k : ℕ). y / 2 ^ k) top down
      ∙ shl_shr_more (v % 2 ^ w) (64 - w) r
      ∙ ap (λ (k : ℕ). v % 2 ^ k / 2 ^ r) wide
      ∙ field v (64 - c) r)

  full_and_left : (r : ℕ) → c + w ≡ 64 + r → digits 64 (x + moved v w c) ++ digits r v ≡ digits c (front x c) ++ digits w v
  full_and_left r e =
      let k : ℕ = 64 - c in
      let all : 64 ≡ c + k = omega arith in
      let wide : k + r ≡ w = omega arith in
      ap (λ (t : List Bool). t ++ digits r v)
      (ap₂ digits all (sum_full r e) ∙ digits_joined c k (front x c) (v / 2 ^ r))
      ∙ append_assoc (digits c (front x c)) (digits k (v / 2 ^ r)) (digits r v)
      ∙ ap (λ (t : List Bool). digits c (front x c) ++ t) (sym (digits_append k r v) ∙ ap (λ (j : ℕ). digits j v) wide)

-- the r bits that are left, at the top of a word
left_word : (v r : ℕ) → r < 64 → v * 2 ^ (63 - r) % 2 ^ 64 * 2 % 2 ^ 64 ≡ v % 2 ^ r * 2 ^ (64 - r)
left_word v r h =
    let up : 63 - r + 1 ≡ 64 - r = omega arith in
    shl_word_twice v r (63 - r) (omega arith) ∙ ap (λ (k : ℕ). v % 2 ^ r * 2 ^ k) up

module _
    (l : List ℕ) (x c i w v : ℕ) (few : c < 64) (clear : x % 2 ^ (64 - c) ≡ 0) (hw : w ≤ 64) (inside : reach (waiting x c i) + w ≤ 8 * length l) where
  abbrev sum : ℕ
  sum = x + moved v w c

  abbrev after : List Bool
  after = over (merged l (waiting x c i)) (reach (waiting x c i)) (digits w v)

  ends : reach (waiting x c i) ≡ 8 * i + c
  ends = reach_waiting x c i

  -- the bits that wait and the field in one go
  field_behind : over (row l) (8 * i) (digits c (front x c) ++ digits w v) ≡ after
  unfolding merged
  field_behind =
      let lw : length (digits c (front x c)) ≡ c = length_digits c (front x c) in
      sym
      (over_over (row l) (8 * i) (digits c (front x c)) (digits w v) (reach (waiting x c i))
      refl (omega (arith, lw, inside, length_digits w v, length_row l)))

  module _ (h : c + w < 64) where
    short
        : (sum % 2 ^ (64 - (c + w)) ≡ 0) × (digits (c + w) (sum / 2 ^ (64 - (c + w))) ≡ digits c (front x c) ++ digits w v)
    short = short_waits x c w v few clear hw (64 - (c + w)) (omega arith)

    pub short_clear : sum % 2 ^ (64 - (c + w)) ≡ 0
    short_clear = short.0

    -- all of the field waits
    pub added_short : Together l (waiting sum (c + w) i) after (reach (waiting x c i) + w)
    unfolding merged
    added_short =
        record {
          reached = omega (arith, reach_waiting sum (c + w) i, ends);
          merges = ap (over (row l) (8 * i)) short.1 ∙ field_behind;
        }

  module _ (r : ℕ) (er : c + w ≡ 64 + r) where
    abbrev pub left : ℕ
    left = v * 2 ^ (63 - r) % 2 ^ 64 * 2 % 2 ^ 64

    pub few_left : r < 64
    few_left = omega (arith, few, er, hw)

    rest : (left % 2 ^ (64 - r) ≡ 0) × (digits r (left / 2 ^ (64 - r)) ≡ digits r (v % 2 ^ r))
    rest = shifted_waits (v % 2 ^ r) r (64 - r) (left_word v r few_left)

    pub left_clear : left % 2 ^ (64 - r) ≡ 0
    left_clear = rest.0

    -- the word went out, and what is left of the field waits
    pub added_full
        : (l2 : List ℕ) → row l2 ≡ over (row l) (8 * i) (digits 64 sum) → Together l2 (waiting left r (i + 8)) after (reach (waiting x c i) + w)
    unfolding merged
    added_full l2 e =
        record {
          reached = omega (arith, er, reach_waiting left r (i + 8), ends);
          merges =
              ap₂ (λ (y d : List Bool). over y (8 * (i + 8)) d) e (rest.1 ∙ digits_mod r v)
              ∙ over_over (row l) (8 * i) (digits 64 sum) (digits r v) (8 * (i + 8))
              (omega (arith, length_digits 64 sum)) (omega (arith, inside, ends, er, length_digits 64 sum, length_digits r v, length_row l))
              ∙ ap (over (row l) (8 * i)) (full_and_left x c w v few clear hw r er)
              ∙ field_behind;
        }

-- ---- bytes that go out

-- the first m of the c bits that wait in the word x, and the others
module _ (x c m : ℕ) (hc : c ≤ 64) (clear : x % 2 ^ (64 - c) ≡ 0) (h : m ≤ c) where
  others_word : x * 2 ^ m % 2 ^ 64 ≡ front x c % 2 ^ (c - m) * 2 ^ (64 - (c - m))
  others_word =
      let up : 64 - c + m ≡ 64 - (c - m) = omega arith in
      ap (λ (y : ℕ). y % 2 ^ 64)
      (ap (λ (y : ℕ). y * 2 ^ m) (shr_shl x (64 - c) clear) ∙ shl_shl (front x c) (64 - c) m ∙ ap (λ (k : ℕ). front x c * 2 ^ k) up)
      ∙ shl_word (front x c) (c - m) (64 - (c - m)) (omega arith)

  others_wait
      : (x * 2 ^ m % 2 ^ 64 % 2 ^ (64 - (c - m)) ≡ 0)
      × (digits m (front x m) ++ digits (c - m) (x * 2 ^ m % 2 ^ 64 / 2 ^ (64 - (c - m))) ≡ digits c (front x c))
  others_wait =
      let waits = shifted_waits (front x c % 2 ^ (c - m)) (c - m) (64 - (c - m)) others_word in
      let all : m + (c - m) ≡ c = omega arith in
      let down : 64 - c + (c - m) ≡ 64 - m = omega arith in (
        waits.0,
        ap₂ (λ (a b : List Bool). a ++ b)
            (ap (λ (k : ℕ). digits m (x / 2 ^ k)) (sym down) ∙ ap (digits m) (sym (shr-shr x (64 - c) (c - m))))
            (waits.1 ∙ digits_mod (c - m) (front x c))
            ∙ sym (digits_append m (c - m) (front x c))
            ∙ ap (λ (k : ℕ). digits k (front x c)) all,
      )

module _ (x c i bytes : ℕ) (few : c < 64) (clear : x % 2 ^ (64 - c) ≡ 0) (h : 8 * bytes ≤ c) where
  abbrev gone : ℕ
  gone = 8 * bytes

  abbrev others : ℕ
  others = x * 2 ^ gone % 2 ^ 64

  pub others_clear : others % 2 ^ (64 - (c - gone)) ≡ 0
  others_clear = (others_wait x c gone (omega (arith, few)) clear h).0

  pub drained
      : (l l2 : List ℕ) → reach (waiting x c i) ≤ 8 * length l → row l2 ≡ over (row l) (8 * i) (digits gone (x / 2 ^ (64 - gone)))
      → Together l2 (waiting others (c - gone) (i + bytes)) (merged l (waiting x c i)) (reach (waiting x c i))
  unfolding merged
  drained l l2 inside e =
      let waits = others_wait x c gone (omega (arith, few)) clear h in
      let out : List Bool = digits gone (front x gone) in
      let left : List Bool = digits (c - gone) (others / 2 ^ (64 - (c - gone))) in
      let lg : length out ≡ gone = length_digits gone (front x gone) in
      let ll : length left ≡ c - gone = length_digits (c - gone) (others / 2 ^ (64 - (c - gone))) in
      let ends : reach (waiting x c i) ≡ 8 * i + c = reach_waiting x c i in
      record {
        reached = omega (arith, ends, h, ll);
        merges =
            ap (λ (r : List Bool). over r (8 * (i + bytes)) left) e
            ∙ over_over (row l) (8 * i) out left (8 * (i + bytes)) (omega (arith, lg)) (omega (arith, inside, ends, h, lg, ll, length_row l))
            ∙ ap (over (row l) (8 * i)) waits.1;
      }

-- ---- fewer bits than a byte has

-- those that wait in the word x, before the other bits of the byte b
module _ (x c b : ℕ) (h : c < 8) (clear : x % 2 ^ (64 - c) ≡ 0) where
  byte_sum : x / 2 ^ 56 + b * 2 ^ (56 + c) % 2 ^ 64 / 2 ^ (56 + c) ≡ front x c * 2 ^ (8 - c) + b % 2 ^ (8 - c)
  byte_sum =
      let up : 64 - c ≡ 8 - c + 56 = omega arith in
      ap₂ (λ (a b : ℕ). a + b)
      (ap (λ (y : ℕ). y / 2 ^ 56) (shr_shl x (64 - c) clear ∙ ap (λ (k : ℕ). front x c * 2 ^ k) up) ∙ shl_shr_less (front x c) (8 - c) 56)
      (ap (λ (y : ℕ). y / 2 ^ (56 + c)) (shl_word b (8 - c) (56 + c) (omega arith)) ∙ shl-shr (b % 2 ^ (8 - c)) (56 + c))

  pub byte_digits : digits 8 (x / 2 ^ 56 + b * 2 ^ (56 + c) % 2 ^ 64 / 2 ^ (56 + c)) ≡ over (digits 8 b) 0 (digits c (front x c))
  byte_digits = ap (digits 8) byte_sum ∙ front_digits b c (front x c) (omega arith)

  pub byte_fits : x < 2 ^ 64 → x / 2 ^ 56 + b * 2 ^ (56 + c) % 2 ^ 64 / 2 ^ (56 + c) < 256
  byte_fits fits = subst (λ (y : ℕ). y < 256) (sym byte_sum) (front_fits b c (front x c) (omega arith) (front_lt x c fits (omega arith)))

pub last_written
    : (l : List ℕ) (y x c i : ℕ) → digits 8 y ≡ over (digits 8 (get_or l i 0)) 0 (digits c (front x c)) → c < 8 → i < length l
    → row (set l i y) ≡ merged l (waiting x c i)
unfolding merged
last_written l y x c i e h hf = front_written l i y (digits c (front x c)) e (omega (arith, length_digits c (front x c))) hf

-- the first c bits of a byte as the first of a word
pub front_word : (b c : ℕ) → b < 256 → c < 8 → b / 2 ^ (8 - c) * 2 ^ (8 - c) % 2 ^ 64 * 2 ^ 56 % 2 ^ 64 ≡ b / 2 ^ (8 - c) * 2 ^ (64 - c)
front_word b c hb h =
    let n : ℕ = b / 2 ^ (8 - c) in
    let all : c + (8 - c) ≡ 8 = omega arith in
    let up : 8 - c + 56 ≡ 64 - c = omega arith in
    let small : n < 2 ^ c = shr_lt c (8 - c) (rw all hb) in
    let byte : n * 2 ^ (8 - c) < 2 ^ 8 = subst (λ (k : ℕ). n * 2 ^ (8 - c) < 2 ^ k) all (shl_lt c (8 - c) small) in
    ap (λ (y : ℕ). y * 2 ^ 56 % 2 ^ 64) (shl_exact c (8 - c) 64 small (omega arith))
    ∙ shl_exact 8 56 64 byte (omega arith)
    ∙ shl_shl n (8 - c) 56
    ∙ ap (λ (k : ℕ). n * 2 ^ k) up

-- where they wait, all is as it was
pub front_waits
    : (l : List ℕ) (i c x : ℕ) → i < length l → c < 8 → x ≡ get_or l i 0 / 2 ^ (8 - c) * 2 ^ (64 - c) → merged l (waiting x c i) ≡ row l
unfolding merged
front_waits l i c x h hc e =
    let waits = shifted_waits (get_or l i 0 / 2 ^ (8 - c)) c (64 - c) e in
    ap (over (row l) (8 * i))
    (waits.1 ∙ sym (row_byte l i 0 c (8 - c) h (omega (arith, hc))) ∙ ap (λ (k : ℕ). take c (drop k (row l))) (add-zero (8 * i)))
    ∙ over_own (row l) (8 * i) c (omega (arith, h, hc, length_row l))
