-- The generation counts the accepted updates.
use mathlib.Core.Path.{◌≡◌, refl, sym, ap, ◌∙◌, subst}
use mathlib.Core.List.{List, [], ◌∷◌}
use Prim.Native.Nat.{ℕ, ◌+◌, ◌%◌, ◌^◌, ◌<◌}
use native.Mathlib.Omega.{arith}
use Rattle.clock.specs.Creation.{FIRST_GENERATION, created}
use Rattle.clock.specs.Update.{next_generation, updated}
use Rattle.clock.specs.Details.{details_of}
use Rattle.clock.specs.Calls.{Call, update, ask, details, accepted, after, after_all}
use Rattle.clock.specs.declared.Clock.{Clock}
use Rattle.clock.specs.declared.Details.{Details}
use Rattle.clock.specs.declared.Detailed.{Detailed}
use Rattle.clock.proofs.Rows.{either_way}
use Rattle.demands.specs.Generation.{adds, accepted_updates, GenerationCounts, EqualGenerations, with_now, EqualDetails}
use Rattle.demands.proofs.Rows.{gave, ask_answered}
use Rattle.demands.proofs.Walks.{kept_by_all}

-- ---- modulo 2^32, of whatever is handed in

-- one call
call_counts : (c : Clock) (k : Call) (n : ℕ) → ((after c k).generation + n) % 2 ^ 32 ≡ (c.generation + (adds k (accepted c k) + n)) % 2 ^ 32
unfolding adds after updated next_generation
call_counts c (ask q) n = omega arith
call_counts c (update u now) n =
    either_way (λ b d. (d.generation + n) % 2 ^ 32 ≡ (c.generation + (adds (update u now) b + n)) % 2 ^ 32) c u now (λ t. omega arith) (omega arith)

calls_count : (c : Clock) (calls : List Call) → (after_all c calls).generation % 2 ^ 32 ≡ (c.generation + accepted_updates c calls) % 2 ^ 32
calls_count c [] = omega arith
calls_count c (k ∷ ks) = calls_count (after c k) ks ∙ call_counts c k (accepted_updates (after c k) ks)

-- ---- in 32 bits

abbrev InBits : Clock → Type 0
InBits c = c.generation < 2 ^ 32

after_in_bits : (c : Clock) (k : Call) → InBits c → InBits (after c k)
unfolding after updated next_generation
after_in_bits c (ask q) h = h
after_in_bits c (update u now) h = either_way (λ b d. InBits d) c u now (λ t. omega arith) h

pub generation_counts : GenerationCounts
unfolding created
generation_counts word backstop now c e calls =
    let first : c.generation ≡ FIRST_GENERATION = ap (λ (d : Clock). d.generation) (sym (gave word backstop now c e).is) in
    let bits : InBits (after_all c calls) = kept_by_all InBits after_in_bits c calls (subst (λ (n : ℕ). n < 2 ^ 32) (sym first) (omega arith)) in
    let count = calls_count c calls in
    omega arith

-- ---- none accepted

none_same : (c : Clock) (calls : List Call) → accepted_updates c calls ≡ 0 → after_all c calls ≡ c
unfolding adds after
none_same c [] e = refl
none_same c (ask q ∷ ks) e = none_same c ks (omega arith)
none_same c (update u now ∷ ks) e =
    either_way (λ b d. adds (update u now) b + accepted_updates d ks ≡ 0 → after_all d ks ≡ c) c u now (λ t z. absurd (omega arith)) (λ z. none_same c ks (omega arith)) e

pub equal_generations : EqualGenerations
equal_generations c calls few same =
    let count = calls_count c calls in
    let none : accepted_updates c calls ≡ 0 = omega arith in
    record { none_accepted = none; same = none_same c calls none }

-- ---- details

pub equal_details : EqualDetails
unfolding details_of
equal_details c calls s t few kept asked e =
    let told : Detailed → Details = λ d. d.details in
    let old = ap told (ask_answered c (details s) kept) in
    let new = ap told (ask_answered (after_all c calls) (details t) asked) in
    let generation : Details → ℕ = λ d. d.generation in
    let same = (equal_generations c calls few (sym (ap generation new) ∙ e ∙ ap generation old)).same in
    new ∙ ap (λ (d : Clock). details_of d t) same ∙ sym (ap (λ (d : Details). with_now d t) old)
