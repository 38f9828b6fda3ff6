-- What a header calls for: a layout that lies in the bytes.
use mathlib.Core.Path.{◌≡◌}
use mathlib.Core.List.{List}
use Prim.Native.Nat.{ℕ, ◌≤◌}
use lib.Dec.{nltb→le}
use lib.ListN.{length}
use Rattle.std.specs.Prelude.{Ok}
use Rattle.tables.specs.Tables.{first}
use Rattle.tables.proofs.Tables.{none_applies}
use Rattle.fields.specs.Record.{AllInside}
use Rattle.slip.specs.Layout.{slip_length}
use Rattle.slip.specs.Reading.{headed, header_table_by, header_table}
use Rattle.slip.specs.Parts.{opened_by, opening}
use Rattle.slip.specs.declared.Opened.{Opened}
use Rattle.slip.proofs.Told.{told_ok}
use Rattle.slip.proofs.Layouts.{layout_inside}

module _ (bytes : List ℕ) where
  -- the bytes are as many as the header calls for
  pub enough : first (header_table bytes) ≡ 0 → slip_length (headed bytes) ≤ length bytes
  unfolding header_table_by
  enough e = nltb→le (length bytes) (slip_length (headed bytes)) (none_applies (header_table bytes) tt e).1.1.0

  module _ (opened : Opened) (is : Ok opened ≡ opening bytes) where
    pub opening_passed : first (header_table bytes) ≡ 0
    unfolding opening
    opening_passed = (told_ok (header_table bytes) (opened_by (headed bytes)) opened is).0

    pub opening_taken : opened ≡ opened_by (headed bytes)
    unfolding opening
    opening_taken = (told_ok (header_table bytes) (opened_by (headed bytes)) opened is).1

    pub opening_inside : AllInside bytes 0 opened.sizes.layout
    opening_inside = rw opening_taken (layout_inside (headed bytes) bytes (enough opening_passed))
