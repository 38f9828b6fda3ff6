use mathlib.Core.Path.{sym, ◌∙◌, subst}
use lib.Dec.{T}
use Rattle.tables.proofs.Tests.{is_true}
use Rattle.clock.specs.Taken.{is_clock}
use Rattle.clock.proofs.Taken.{clearly_taken}
use Rattle.clock.proofs.Clock.read.Goals as goal

pub read_tested-requires : goal.read_tested-requires
read_tested-requires c =
    let self = c.args.self in
    sym (is_true (is_clock self) (clearly_taken self (subst T (sym c.if-clearly_runs.true ∙ c.clearly_runs.ensures) tt)))
