-- A table of refusals: numbered tests in the order in which they are made, and the answer that it gives.
--
-- How to read the definitions: `f : A → B` says what f takes and gives, and the lines below it what that is, case by
-- case; `abbrev`, `unfoldable`, `pub` and names in braces matter to the prover alone. ℕ are the whole numbers from 0
-- on, ℤ all of them: `pos n` is n, `negsuc n` is -1 - n, `neg_ℤ z` is -z, and `+ℤ`, `-ℤ`, `*ℤ` work on them. `lt_z a b`
-- is a < b and `le_z a b` a ≤ b (`ltb`, `leb` of ℕ), `eqb` tests whether two are equal; `not`, `&&` and `||` are as in
-- code. `cond b x y` is x where b holds, else y; `let y = .. in` names a part; `λ n. x` is the function that gives x
-- for n. `c.word` is the field `word` of c, and `record { .. }` a struct by its fields; `some x` is a value, `none`
-- is none. `x ∷ xs` is a list with x in front, `[]` the empty one, `++` joins two, and `get_or xs i 0` is number i of a
-- list, from 0 on; `suc n` is n + 1. A `Type 0` is a kind of values or a statement. In statements `T b` says that b
-- holds, `a ≡ b` that they are equal, and `a ≤ℤ b` (`≤` of ℕ) that a is at most b; `×` is and, `⊎` is or, `A → B` is
-- if A then B, and `(t : ℤ) → ..` says it for every t; a record of statements says that each of its fields holds,
-- `Unit` says nothing, and `⊥` is never true.
use Rattle.std.specs.Prelude.{Bool, true, false, not, List, [], ◌∷◌, ◌⊎◌, ◌≡◌, ℕ, zero, suc, T}

-- the refusal n applies where the test holds
infix 68 ◌when◌
pub data Row : Type 0 where
  ◌when◌ : ℕ → Bool → Row

-- the number of the first row that applies, 0 where none does (01, 'When the clock says no')
abbrev pub first : List Row → ℕ
first [] = 0
first ((n when true) ∷ rows) = n
first ((n when false) ∷ rows) = first rows

-- ---- the answer that a table gives

-- 0 is no refusal
abbrev pub answer_to : {A : Type 0} → ℕ → A → (ℕ → A) → A
answer_to zero taken refused = taken
answer_to (suc n) taken refused = refused (suc n)

-- `taken` where no row applies, else `refused` with the number of the first row that does
abbrev pub answer : {A : Type 0} → List Row → A → (ℕ → A) → A
answer rows taken refused = answer_to (first rows) taken refused

-- ---- the same said of any answer, with no number that stands for none

abbrev pub NoneApplies : List Row → Type 0
NoneApplies [] = Unit {0}
NoneApplies ((n when b) ∷ rows) = T (not b) × NoneApplies rows

-- the first row that applies has the number n
abbrev pub FirstApplies : List Row → ℕ → Type 0
FirstApplies [] n = ⊥
FirstApplies ((m when true) ∷ rows) n = m ≡ n
FirstApplies ((m when false) ∷ rows) n = FirstApplies rows n

-- no row applies, and `taken` is told; or the first row that applies has the number n, and `refused n` is told
abbrev pub Settled : {A : Type 0} → List Row → A → A → (ℕ → A) → Type 0
Settled rows told taken refused =
    (NoneApplies rows × (told ≡ taken)) ⊎ ((n : ℕ) × FirstApplies rows n × (told ≡ refused n))
