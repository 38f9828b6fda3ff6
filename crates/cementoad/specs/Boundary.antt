-- What the boundary adds to the rules: its version, and what stands beside a refused creation. Every other answer is
-- the rules' own.
use Rattle.std.proofs.Math.Option.{Option, none, some}
use Rattle.std.specs.Prelude.{ℕ, ℤ, Result, Ok, Err}
use Rattle.tables.specs.Refusals.{number}
use Rattle.tables.specs.declared.Refusal.{Refusal}
use Rattle.clock.specs.Creation.{creating}
use Rattle.clock.specs.Taken.{zero_clock}
use Rattle.clock.specs.declared.Clock.{Clock}
use Rattle.cementoad.specs.declared.Created.{Created}

-- the version of the boundary that include/cementoad.h declares
abbrev pub abi : ℕ
abi = 5

-- the clock, or zeros, which are none
abbrev pub or_zeros : Option Clock → Clock
or_zeros none = zero_clock
or_zeros (some c) = c

-- creation's answer as a struct: in C there is no enum that carries a clock
unfoldable pub creating_for : ℕ → ℤ → ℤ → Created
creating_for word backstop now =
    let made = creating word backstop now in
    record { clock = or_zeros made.clock; refusal = made.refusal }

-- what each case of the result that creation returns stands for in that struct
abbrev pub created_told : Result Clock Refusal → Created
created_told (Ok c) = record { clock = c; refusal = 0 }
created_told (Err r) = record { clock = zero_clock; refusal = number r }
