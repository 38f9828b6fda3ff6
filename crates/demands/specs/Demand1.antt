-- Demand 1: an answer is settled by its table, of whatever numbers are handed in, for a clock too; after a refusal the
-- clock is as it was, and zeros stand where 01 asks for them.
use Rattle.std.specs.Prelude.{not, List, ◌≡◌, ℕ, ℤ, T}
use Rattle.std.proofs.Math.Option.{none, some}
use Rattle.tables.specs.Tables.{Row, Settled}
use Rattle.clock.specs.Taken.{is_clock, guarded}
use Rattle.clock.specs.Creation.{creation_table, created, creating}
use Rattle.clock.specs.Update.{update_table, updated, updating}
use Rattle.clock.specs.Calls.{Ask, ask_table, asking, answered, unanswered, Call, update, ask, refusal_of, accepted, after}
use Rattle.clock.specs.declared.Clock.{Clock}
use Rattle.clock.specs.declared.Request.{Request}
use Rattle.demands.specs.Lives.{Gave, Each}

-- ---- an answer is what its table says

abbrev pub Demand1Create : Type 0
Demand1Create = (word : ℕ) (backstop now : ℤ) →
    Settled (creation_table word backstop now) (creating word backstop now)
    (record { refusal = 0; clock = some (created word backstop now) })
    (λ n. record { refusal = n; clock = none })

-- an update of c, and any question to it, is settled by these rows
abbrev pub UpdatedBy : List Row → Clock → Request → ℤ → Type 0
UpdatedBy rows c u now = Settled rows (updating c u now)
    (record { clock = updated c u now; refusal = 0 })
    (λ n. record { clock = c; refusal = n })

abbrev pub AnsweredBy : List Row → Clock → Ask → Type 0
AnsweredBy rows c q = Settled rows (asking c q) (answered c q) (unanswered q)

-- of anything that is handed in: the row of our own, then the paper's table
abbrev pub Demand1Update : Type 0
Demand1Update = (c : Clock) (u : Request) (now : ℤ) → UpdatedBy (guarded c (update_table c u now)) c u now

abbrev pub Demand1Ask : Type 0
Demand1Ask = (c : Clock) (q : Ask) → AnsweredBy (guarded c (ask_table c q)) c q

-- of a clock: the paper's table alone
pub record ByThePaper (c : Clock) : Type 0 where
  pub update : (u : Request) (now : ℤ) → UpdatedBy (update_table c u now) c u now
  pub ask : (q : Ask) → AnsweredBy (ask_table c q) c q

abbrev pub Demand1Clock : Type 0
Demand1Clock = (c : Clock) → T (is_clock c) → ByThePaper c

-- ---- a refused call leaves the clock as it was, and answers zeros

abbrev pub Zeros : Clock → Call → Type 0
Zeros c (update u now) = Unit {0}
Zeros c (ask q) = asking c q ≡ unanswered q (refusal_of c (ask q))

pub record Unaltered (c : Clock) (k : Call) : Type 0 where
  pub clock : after c k ≡ c
  pub zeros : Zeros c k

abbrev pub RefusedUnaltered : Clock → Call → Type 0
RefusedUnaltered c k = T (not (accepted c k)) → Unaltered c k

-- whatever is handed in
abbrev pub Demand1Refused : Type 0
Demand1Refused = (c : Clock) (k : Call) → RefusedUnaltered c k

-- at each call of a list
abbrev pub Demand1Calls : Type 0
Demand1Calls = (word : ℕ) (backstop now : ℤ) (c : Clock) → Gave word backstop now c →
    (calls : List Call) → Each RefusedUnaltered c calls
