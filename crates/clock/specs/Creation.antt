-- Creation: its refusals, the clock it gives, and its whole answer.
use Rattle.std.specs.Prelude.{Bool, not, ◌&&◌, List, [], ◌∷◌, ℕ, ◌-◌, ◌/◌, ◌%◌, ◌^◌, ℤ, eqb, Result, Ok, Err}
use Rattle.std.proofs.Math.Option.{Option, none, some}
use Rattle.std.specs.Int.Signed.{lt_z}
use Rattle.tables.specs.Tables.{Row, ◌when◌, first, answer}
use Rattle.clock.specs.Numbers.{time_outside}
use Rattle.clock.specs.Clock.{monotonic, continuous, auto_start, byte_of, identity}
use Rattle.clock.specs.declared.Clock.{Clock}
use Rattle.tables.specs.Refusals.{number}
use Rattle.tables.specs.declared.Refusal.{Refusal}

-- no bit of the 8-bit word is set but those of the three flags
abbrev pub others_zero : ℕ → Bool
others_zero word = eqb (word % 32) 0 && eqb (word / 256) 0

-- creation's rows (01, 'When the clock says no'); 3 is an unknown bit
unfoldable pub creation_table : ℕ → ℤ → ℤ → List Row
creation_table word backstop now =
    (1 when time_outside now
    ∷ 3 when not (others_zero word)
    ∷ 15 when (continuous word && not (monotonic word))
    ∷ 16 when time_outside backstop
    ∷ 17 when (auto_start word && lt_z now backstop)
    ∷ [])

unfoldable pub creation_refusal : ℕ → ℤ → ℤ → ℕ
creation_refusal word backstop now = first (creation_table word backstop now)

-- 64 ones
abbrev pub UNKNOWN_ERROR : ℕ
UNKNOWN_ERROR = 2 ^ 64 - 1

-- what the generation counts from
abbrev pub FIRST_GENERATION : ℕ
FIRST_GENERATION = 1

-- the line stands ready, but runs only with auto start (01, 'Creation')
unfoldable pub created : ℕ → ℤ → ℤ → Clock
created word backstop now = record {
  line = identity;
  backstop = backstop;
  latest = now;
  error = UNKNOWN_ERROR;
  generation = FIRST_GENERATION;
  word = word;
  started = byte_of (auto_start word);
}

-- the answer: a refusal's number, 0 for none, and the clock, if there is one
pub record Creation : Type 0 where
  pub refusal : ℕ
  pub clock : Option Clock

unfoldable pub creating : ℕ → ℤ → ℤ → Creation
creating word backstop now =
    answer (creation_table word backstop now)
    (record { refusal = 0; clock = some (created word backstop now) })
    (λ n. record { refusal = n; clock = none })

-- what each case of the result that creation returns stands for
abbrev pub told : Result Clock Refusal → Creation
told (Ok c) = record { refusal = 0; clock = some c }
told (Err r) = record { refusal = number r; clock = none }
