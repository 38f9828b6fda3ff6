-- Demand 1: each answer is what its table says, and what is refused leaves the clock as it was and answers zeros.
use mathlib.Core.Path.{◌≡◌, refl, sym, subst}
use mathlib.Core.Bool.{not}
use Prim.Native.Nat.{ℕ}
use lib.Dec.{T, eqb}
use Rattle.tables.proofs.Tables.{settled, refused_by_lem}
use Rattle.clock.specs.Clock.{time_table}
use Rattle.clock.specs.Taken.{guarded}
use Rattle.clock.specs.Creation.{creation_table, creating}
use Rattle.clock.specs.Reading.{reading_table, reading}
use Rattle.clock.specs.Update.{alone_table, allowed_table, request_table, new_line_table, update_table, updating}
use Rattle.clock.specs.Details.{details_table, detailing}
use Rattle.clock.specs.Calls.{read, details, ask_table, Call, update, ask, call_table, refusal_of, accepted, after}
use Rattle.clock.specs.declared.Clock.{Clock}
use Rattle.clock.proofs.Guarded.{guarded_settled}
use Rattle.clock.proofs.Rows.{refusal_is, either_way}
use Rattle.demands.specs.Demand1.{Demand1Create, Demand1Update, Demand1Ask, Demand1Clock, Zeros, RefusedUnaltered, Demand1Refused, Demand1Calls}
use Rattle.demands.proofs.Walks.{of_any}

pub demand1_create : Demand1Create
unfolding creating creation_table
demand1_create word backstop now = settled (creation_table word backstop now) _ _ tt

pub demand1_update : Demand1Update
unfolding guarded time_table alone_table allowed_table request_table new_line_table update_table updating
demand1_update c u now = settled (guarded c (update_table c u now)) _ _ tt

pub demand1_ask : Demand1Ask
unfolding guarded time_table ask_table reading_table reading details_table detailing
demand1_ask c (read now) = settled (guarded c (reading_table c now)) _ _ tt
demand1_ask c (details now) = settled (guarded c (details_table c now)) _ _ tt

pub demand1_clock : Demand1Clock
demand1_clock c t = record {
  update = λ u now. guarded_settled c (update_table c u now) _ _ _ t (demand1_update c u now);
  ask = λ q. guarded_settled c (ask_table c q) _ _ _ t (demand1_ask c q);
}

-- ---- refused calls

refused_clock : (c : Clock) (k : Call) → T (not (accepted c k)) → after c k ≡ c
unfolding after
refused_clock c (ask q) n = refl
refused_clock c (update u now) n = either_way (λ b d. T (not b) → d ≡ c) c u now (λ t f. absurd f) (λ f. refl) n

-- the number that is told is not 0
told : (c : Clock) (k : Call) → T (not (accepted c k)) → refusal_of c k ≡ 0 → ⊥
unfolding accepted
told c k n e = subst (λ (m : ℕ). T (not (eqb m 0))) e n

refused_zeros : (c : Clock) (k : Call) → T (not (accepted c k)) → Zeros c k
unfolding call_table ask_table reading detailing
refused_zeros c (update u now) n = tt
refused_zeros c (ask (read now)) n =
    sym (refused_by_lem (guarded c (reading_table c now)) _ _ _ (refusal_is c (ask (read now))) (told c (ask (read now)) n))
refused_zeros c (ask (details now)) n =
    sym (refused_by_lem (guarded c (details_table c now)) _ _ _ (refusal_is c (ask (details now))) (told c (ask (details now)) n))

pub demand1_refused : Demand1Refused
demand1_refused c k n = record { clock = refused_clock c k n; zeros = refused_zeros c k n }

pub demand1_calls : Demand1Calls
demand1_calls word backstop now c e calls = of_any RefusedUnaltered demand1_refused c calls
