-- Bytes that a caller lent, and parts of them that are handed back. A part is told by where it starts and not only by
-- its bytes: equal bytes may stand in many places.
use Rattle.std.specs.Prelude.{List, ℕ, ◌+◌, drop}
use Rattle.std.specs.Borrow.{Bor}

-- lent bytes: where they start in memory (`ref_ptr`: in which object, and at which byte of it), and what they are (`now`)
abbrev pub Lent : Type 0
Lent = Bor (List ℕ)

pub record Part : Type 0 where
  pub start : ℕ × ℕ
  pub bytes : List ℕ

-- a reference that is handed back, as a part
abbrev pub part : Lent → Part
part r = record { start = r.ref_ptr; bytes = r.now }

-- lent bytes from number n on
abbrev pub from : ℕ → Lent → Part
from n lent = record { start = (lent.ref_ptr.0, n + lent.ref_ptr.1); bytes = drop n lent.now }
