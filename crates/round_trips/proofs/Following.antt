-- What follows a slip does not count.
use mathlib.Core.Path.{◌≡◌, ap, ◌∙◌}
use mathlib.Core.Bool.{false}
use mathlib.Core.List.{List, ◌++◌}
use Prim.Native.Nat.{ℕ, ◌≤◌}
use native.Mathlib.Omega.{arith}
use lib.Dec.{ltb}
use lib.ListN.{length, length-append}
use borrow.Author.Tests.{le-ltb}
use Rattle.tables.specs.Tables.{first}
use Rattle.clock.specs.declared.Request.{Request}
use Rattle.fields.specs.Record.{fields}
use Rattle.fields.proofs.Reading.{field_ahead}
use Rattle.fields.proofs.Records.{fields_ahead}
use Rattle.slip.specs.Layout.{header_width, word_of, bare, slip_length, layout, header_length}
use Rattle.slip.specs.Reading.{headed, values_by, values_in, header_table_by, front_table_by, front_table, reading_by, reading_front}
use Rattle.slip.proofs.Layouts.{total_layout}

-- bytes that have a header and as many bytes as it calls for
module _ (bytes more : List ℕ) (some : header_length ≤ length bytes) where
  pub headed_ahead : headed (bytes ++ more) ≡ headed bytes
  unfolding headed
  headed_ahead = ap (λ (h : ℕ). bare (word_of h)) (field_ahead bytes more 0 header_width (omega arith))

  module _ (all : slip_length (headed bytes) ≤ length bytes) where
    values_ahead : values_in (bytes ++ more) ≡ values_in bytes
    unfolding values_by
    values_ahead =
        ap (λ (u : Request). fields (bytes ++ more) 0 (layout u)) headed_ahead
        ∙ fields_ahead (layout (headed bytes)) bytes more 0 (omega (arith, total_layout (headed bytes)))

    enough : (l : List ℕ) → length bytes ≤ length l →
        (ltb (length l) header_length ≡ false) × (ltb (length l) (slip_length (headed bytes)) ≡ false)
    enough l h = (le-ltb (length l) header_length (omega arith), le-ltb (length l) (slip_length (headed bytes)) (omega arith))

    table_ahead : first (front_table (bytes ++ more)) ≡ first (front_table bytes)
    unfolding front_table_by header_table_by
    table_ahead =
        let long = enough (bytes ++ more) (omega (arith, length-append bytes more)) in
        let short = enough bytes (omega arith) in
        rw (headed_ahead, values_ahead, long.0, long.1, short.0, short.1)

    pub front_ahead : reading_front (bytes ++ more) ≡ reading_front bytes
    unfolding reading_by
    front_ahead = rw (table_ahead, headed_ahead, values_ahead)
