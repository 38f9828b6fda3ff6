-- Bits and the numbers that they stand for, and bytes as one row of bits. The most significant bit comes first.
use Rattle.std.specs.Prelude.{Bool, true, false, List, [], ◌∷◌, ◌++◌, ℕ, zero, suc, ◌+◌, ◌*◌, ◌/◌, ◌%◌, ◌^◌, ◌<◌, eqb, length, take, drop, get_or}

abbrev pub digit : Bool → ℕ
digit true = 1
digit false = 0

-- the number that a row of bits stands for: 0 1 0 1 for 5
unfoldable pub number : List Bool → ℕ
number [] = 0
number (b ∷ row) = digit b * 2 ^ length row + number row

abbrev pub odd : ℕ → Bool
odd n = eqb (n % 2) 1

-- the low bits of n, as many as the width says: 0 1 0 1 for 5 at width 4
unfoldable pub digits : ℕ → ℕ → List Bool
digits zero n = []
digits (suc width) n = odd (n / 2 ^ width) ∷ digits width n

-- bytes as one row of bits
unfoldable pub row : List ℕ → List Bool
row [] = []
row (byte ∷ bytes) = digits 8 byte ++ row bytes

-- a row of 8 * n bits as n bytes
unfoldable pub bytes_of : ℕ → List Bool → List ℕ
bytes_of zero bits = []
bytes_of (suc n) bits = number (take 8 bits) ∷ bytes_of n (drop 8 bits)

-- the bytes that n bits need
abbrev pub room : ℕ → ℕ
room n = (n + 7) / 8

-- every element is a byte
abbrev pub Bytes : List ℕ → Type 0
Bytes l = (i : ℕ) → get_or l i 0 < 256
