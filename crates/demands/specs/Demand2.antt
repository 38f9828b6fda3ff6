-- Demand 2: updates, the backstop, a monotonic clock, a continuous clock.
use Rattle.std.specs.Prelude.{cond, List, [], ◌∷◌, ◌≡◌, ℕ, ℤ, ◌≤ℤ◌, T}
use Rattle.line.specs.Line.{exact_at, value_at}
use Rattle.line.specs.declared.Line.{Line}
use Rattle.clock.specs.Clock.{is_running, monotonic, continuous}
use Rattle.clock.specs.Update.{values_outside, update_table, updating, SameToTheWord, SameRequest}
use Rattle.clock.specs.Calls.{ask_table, Call, update, ask, accepted, after, after_all, Given, nothing, ◌at◌, given}
use Rattle.clock.specs.declared.Clock.{Clock}
use Rattle.clock.specs.declared.Request.{Request}
use Rattle.demands.specs.Demand1.{UpdatedBy, AnsweredBy}
use Rattle.demands.specs.Lives.{Gave, Each, gathered}

-- ---- each call of a list is settled by the paper's own table: updates (demand 2), and questions too (01, 'The ideal
-- line')

abbrev pub AsWritten : Clock → Call → Type 0
AsWritten c (update u now) = UpdatedBy (update_table c u now) c u now
AsWritten c (ask q) = AnsweredBy (ask_table c q) c q

abbrev pub Demand2Update : Type 0
Demand2Update = (word : ℕ) (backstop now : ℤ) (c : Clock) → Gave word backstop now c →
    (calls : List Call) → Each AsWritten c calls

-- what isn't flagged does not count
abbrev pub IgnoresUnflagged : Type 0
IgnoresUnflagged = (c : Clock) (u v : Request) (now : ℤ) → SameToTheWord u v → updating c u now ≡ updating c v now

-- nor does the version, where rule 5 judges both alike (02, R-11)
abbrev pub IgnoresVersion : Type 0
IgnoresVersion = (c : Clock) (u v : Request) (now : ℤ) → SameRequest u v →
    values_outside u ≡ values_outside v → updating c u now ≡ updating c v now

-- ---- the backstop

abbrev pub NotBelow : ℤ → Given → Type 0
NotBelow backstop nothing = Unit {0}
NotBelow backstop (v at t) = backstop ≤ℤ v

abbrev pub Demand2Backstop : Type 0
Demand2Backstop = (word : ℕ) (backstop now : ℤ) (c : Clock) → Gave word backstop now c →
    (calls : List Call) → Each (λ d k. NotBelow backstop (given d k)) c calls

-- ---- a monotonic clock, as long as its times don't fall

abbrev pub time_of : Given → List ℤ
time_of nothing = []
time_of (v at t) = t ∷ []

abbrev pub value_of : Given → List ℤ
value_of nothing = []
value_of (v at t) = v ∷ []

-- the time at which an accepted update or a given reading is made; refused calls have none
unfoldable pub moment : Clock → Call → List ℤ
moment c (update u now) = cond (accepted c (update u now)) (now ∷ []) []
moment c (ask q) = time_of (given c (ask q))

abbrev pub times : Clock → List Call → List ℤ
times = gathered moment

abbrev pub readings : Clock → List Call → List ℤ
readings = gathered (λ d k. value_of (given d k))

-- none is below the one before it
abbrev pub From : ℤ → List ℤ → Type 0
From x [] = Unit {0}
From x (y ∷ ys) = (x ≤ℤ y) × From y ys

abbrev pub NeverFalls : List ℤ → Type 0
NeverFalls [] = Unit {0}
NeverFalls (x ∷ xs) = From x xs

-- over any stretch of calls, after any calls before it
abbrev pub Demand2Monotonic : Type 0
Demand2Monotonic = (word : ℕ) (backstop now : ℤ) (c : Clock) → Gave word backstop now c → T (monotonic word) →
    (before stretch : List Call) →
    NeverFalls (times (after_all c before) stretch) → NeverFalls (readings (after_all c before) stretch)

-- ---- a continuous clock that runs: at an update's now the new line is where the old one was; `Demand2Ideal` (Demand3)
-- says it of the ideal lines

-- to the millionth (02, R-7), and so in value
pub record AgreeAt (t : ℤ) (old new : Line) : Type 0 where
  pub exactly : exact_at new t ≡ exact_at old t
  pub in_value : value_at new t ≡ value_at old t

abbrev pub Agrees : Clock → Call → Type 0
Agrees c (update u now) = T (is_running c) → T (continuous c.word) →
    AgreeAt now c.line (after c (update u now)).line
Agrees c (ask q) = Unit {0}

abbrev pub Demand2Continuous : Type 0
Demand2Continuous = (word : ℕ) (backstop now : ℤ) (c : Clock) → Gave word backstop now c →
    (calls : List Call) → Each Agrees c calls
