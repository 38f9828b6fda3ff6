-- Demand 1, of commands: each answer is what its table says. Only hold asks for no update, and a request that is
-- answered is refused with 3 to 7 by no clock.
use Rattle.std.specs.Prelude.{true, false, ◌≡◌, ℕ, ◌≤◌, ℤ, Option, Result}
use Rattle.tables.specs.Tables.{Settled}
use Rattle.tables.specs.declared.Refusal.{Refusal}
use Rattle.clock.specs.Update.{updating}
use Rattle.clock.specs.declared.Clock.{Clock}
use Rattle.clock.specs.declared.Request.{Request}
use Rattle.panel.specs.Panel.{command_table, no_update, refused_by, asked, translating, told}
use Rattle.panel.specs.declared.Command.{Command}
use Rattle.panel.specs.declared.Command.TheVariants.{Hold}

abbrev pub Demand1Translate : Type 0
Demand1Translate = (c : Command) → Settled (command_table c) (translating c) (asked c) refused_by

-- hold is answered that there is no update, and no other command is
abbrev pub HoldHolds : Type 0
HoldHolds = translating Hold ≡ no_update

abbrev pub OnlyHold : Type 0
OnlyHold = (c : Command) → (translating c).held ≡ true → c ≡ Hold

-- of the answers one alone meets the promise
abbrev pub OneAnswer : Type 0
OneAnswer = (c : Command) (a b : Result (Option Request) Refusal) →
    told a ≡ translating c → told b ≡ translating c → a ≡ b

-- ---- what becomes of a request that is answered

-- on no clock, at no time, is it refused with 3 to 7
abbrev pub Passes3To7 : Request → Type 0
Passes3To7 u = (clock : Clock) (now : ℤ) (n : ℕ) → 3 ≤ n → n ≤ 7 → (updating clock u now).refusal ≡ n → ⊥

abbrev pub RequestPasses : Type 0
RequestPasses = (c : Command) → (translating c).held ≡ false → (translating c).refusal ≡ 0 →
    Passes3To7 (translating c).request
