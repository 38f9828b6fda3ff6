-- The generation (02, R-2) counts the accepted updates, so that an equal one shows that there was none between.
use Rattle.std.specs.Prelude.{Bool, true, false, List, [], ◌∷◌, ◌≡◌, ℕ, ◌+◌, ◌%◌, ◌^◌, ◌<◌, ℤ, T}
use Rattle.clock.specs.Creation.{FIRST_GENERATION}
use Rattle.clock.specs.Details.{detailing}
use Rattle.clock.specs.Calls.{Call, update, ask, details, accepted, after, after_all}
use Rattle.clock.specs.declared.Clock.{Clock}
use Rattle.clock.specs.declared.Details.{Details}
use Rattle.demands.specs.Lives.{Gave}

-- what a call adds to the count of accepted updates; the Bool says whether it was accepted
unfoldable pub adds : Call → Bool → ℕ
adds (update u now) true = 1
adds (update u now) false = 0
adds (ask q) b = 0

-- how many updates of a list are accepted
abbrev pub accepted_updates : Clock → List Call → ℕ
accepted_updates c [] = 0
accepted_updates c (k ∷ ks) = adds k (accepted c k) + accepted_updates (after c k) ks

-- ---- after every list of calls it is creation's plus that number, modulo 2^32

abbrev pub GenerationCounts : Type 0
GenerationCounts = (word : ℕ) (backstop now : ℤ) (c : Clock) → Gave word backstop now c →
    (calls : List Call) → (after_all c calls).generation ≡ (FIRST_GENERATION + accepted_updates c calls) % 2 ^ 32

-- ---- an equal one, of whatever numbers are handed in

-- too few are accepted for the same number to come again
abbrev pub WithinARound : Clock → List Call → Type 0
WithinARound c calls = accepted_updates c calls < 2 ^ 32

-- none was accepted, and the clock is as it was
pub record Untouched (c : Clock) (calls : List Call) : Type 0 where
  pub none_accepted : accepted_updates c calls ≡ 0
  pub same : after_all c calls ≡ c

abbrev pub EqualGenerations : Type 0
EqualGenerations = (c : Clock) (calls : List Call) → WithinARound c calls →
    (after_all c calls).generation ≡ c.generation → Untouched c calls

-- ---- the same seen in details, neither of them refused: those from before hold, but for their now

abbrev pub with_now : Details → ℤ → Details
with_now d now = record {
  started = d.started;
  line = d.line;
  error = d.error;
  generation = d.generation;
  latest = d.latest;
  word = d.word;
  backstop = d.backstop;
  now = now;
}

abbrev pub EqualDetails : Type 0
EqualDetails = (c : Clock) (calls : List Call) (s t : ℤ) → WithinARound c calls →
    T (accepted c (ask (details s))) → T (accepted (after_all c calls) (ask (details t))) →
    (detailing (after_all c calls) t).details.generation ≡ (detailing c s).details.generation →
    (detailing (after_all c calls) t).details ≡ with_now (detailing c s).details t
