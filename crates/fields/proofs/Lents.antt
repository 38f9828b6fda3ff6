-- Parts of lent bytes.
use mathlib.Core.Path.{◌≡◌, ap}
use Prim.Native.Nat.{ℕ}
use native.Mathlib.Nat.{zero-add}
use Rattle.fields.specs.Lent.{Lent, part, from}

-- from the first byte on, it is all that was lent
pub from_the_front : (lent : Lent) → from 0 lent ≡ part lent
from_the_front lent = ap (λ (k : ℕ). record { start = (lent.ref_ptr.0, k); bytes = lent.now }) (zero-add lent.ref_ptr.1)
