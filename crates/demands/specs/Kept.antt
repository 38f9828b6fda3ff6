-- What holds of everything that is taken for a clock, whoever made it up, and of a clock that creation gave after any
-- list of calls.
use Rattle.std.specs.Prelude.{false, not, List, ◌≡◌, ℕ, ℤ, ◌-ℤ◌, T, eqb}
use Rattle.clock.specs.Numbers.{step_outside}
use Rattle.clock.specs.Clock.{is_running, InRange, Valid}
use Rattle.clock.specs.Taken.{is_clock, NOT_A_CLOCK, zero_clock}
use Rattle.clock.specs.Calls.{Call, refusal_of, after, after_all, Given, nothing, ◌at◌, given}
use Rattle.clock.specs.declared.Clock.{Clock}
use Rattle.demands.specs.Lives.{Gave}
use Rattle.demands.specs.Demand2.{NotBelow}

-- ---- what is taken for a clock

abbrev pub CreationGivesClock : Type 0
CreationGivesClock = (word : ℕ) (backstop now : ℤ) (c : Clock) → Gave word backstop now c → T (is_clock c)

abbrev pub CallsLeaveClock : Type 0
CallsLeaveClock = (c : Clock) (calls : List Call) → T (is_clock c) → T (is_clock (after_all c calls))

-- its numbers are in range, and a started one shows at least its backstop at its latest time
abbrev pub ClocksValid : Type 0
ClocksValid = (c : Clock) → T (is_clock c) → Valid c

-- before the start only what creation gives is taken for a clock
abbrev pub UnstartedAsCreated : Type 0
UnstartedAsCreated = (c : Clock) → T (is_clock c) → T (not (is_running c)) → Gave c.word c.backstop c.latest c

abbrev pub ZerosNoClock : Type 0
ZerosNoClock = is_clock zero_clock ≡ false

-- ---- whatever numbers are handed in

-- 255 is told of all that is not taken for a clock, and of nothing else
abbrev pub ToldApart : Type 0
ToldApart = (c : Clock) (k : Call) → eqb (refusal_of c k) NOT_A_CLOCK ≡ not (is_clock c)

-- what is started stays started
abbrev pub StaysStarted : Type 0
StaysStarted = (c : Clock) (calls : List Call) → T (is_running c) → T (is_running (after_all c calls))

-- no single call moves the rate of what is started by more than the widest step (02, R-9)
abbrev pub RateSteps : Type 0
RateSteps = (c : Clock) (k : Call) → T (is_running c) → T (not (step_outside ((after c k).line.rate -ℤ c.line.rate)))

abbrev pub WithinRange : Given → Type 0
WithinRange nothing = Unit {0}
WithinRange (v at t) = InRange v

-- a reading that is given is not below the backstop, and lies in 0..END
abbrev pub AnyReading : Type 0
AnyReading = (c : Clock) (k : Call) → NotBelow c.backstop (given c k) × WithinRange (given c k)

-- ---- a clock that creation gave, after any list of calls

-- it is a clock, with creation's word and backstop
pub record Kept (word : ℕ) (backstop : ℤ) (c : Clock) : Type 0 where
  pub clock : T (is_clock c)
  pub same_word : c.word ≡ word
  pub same_backstop : c.backstop ≡ backstop

abbrev pub AlwaysKept : Type 0
AlwaysKept = (word : ℕ) (backstop now : ℤ) (c : Clock) → Gave word backstop now c →
    (calls : List Call) → Kept word backstop (after_all c calls)
