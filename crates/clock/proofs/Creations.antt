-- What is known where creation accepts: the test of each row failed.
use mathlib.Core.Path.{◌≡◌}
use mathlib.Core.Bool.{not, ◌&&◌}
use Prim.Native.Nat.{ℕ}
use lib.IntN.{ℤ}
use lib.Signed.{lt_z}
use lib.Dec.{T}
use Rattle.clock.specs.Numbers.{time_outside}
use Rattle.clock.specs.Clock.{auto_start}
use Rattle.clock.specs.Creation.{creation_table, creation_refusal}
use Rattle.tables.proofs.Tables.{passed}

module _ (word : ℕ) (backstop now : ℤ) (e : creation_refusal word backstop now ≡ 0) where
  pub created_row1 : T (not (time_outside now))
  unfolding creation_refusal creation_table
  created_row1 = passed 1 (creation_table word backstop now) tt e

  pub created_row16 : T (not (time_outside backstop))
  unfolding creation_refusal creation_table
  created_row16 = passed 16 (creation_table word backstop now) tt e

  pub created_row17 : T (not (auto_start word && lt_z now backstop))
  unfolding creation_refusal creation_table
  created_row17 = passed 17 (creation_table word backstop now) tt e
