-- What an accepted creation, an accepted question and a given reading leave known.
use mathlib.Core.Path.{◌≡◌, refl, sym, ap, subst}
use mathlib.Core.Bool.{Bool, true, false, cond}
use mathlib.Core.Option.{Option, none, some}
use Prim.Native.Nat.{ℕ}
use lib.IntN.{ℤ}
use lib.Signed.{◌≤ℤ◌}
use lib.Dec.{T}
use Rattle.tables.proofs.Tables.{passed, by_answer}
use Rattle.tables.proofs.Tables as tables
use Rattle.clock.specs.Numbers.{END}
use Rattle.clock.specs.Clock.{time_table}
use Rattle.clock.specs.Creation.{Creation, creation_table, creation_refusal, created, creating}
use Rattle.clock.specs.Taken.{is_clock, guarded}
use Rattle.clock.specs.Reading.{clock_value, reading_table, reading}
use Rattle.clock.specs.Details.{details_table, detailing}
use Rattle.clock.specs.Calls.{Ask, read, details, ask_table, asking, answered, Call, update, ask, call_table, accepted, Given, nothing, ◌at◌, given}
use Rattle.clock.specs.declared.Clock.{Clock}
use Rattle.clock.specs.declared.Reading.{Reading}
use Rattle.clock.proofs.Ranges.{not_less}
use Rattle.clock.proofs.Rows.{call_unrefused, call_passed}
use Rattle.demands.specs.Lives.{Gave}

-- ---- a creation

-- c is what creation gives, and nothing refuses it
pub record Creates (word : ℕ) (backstop now : ℤ) (c : Clock) : Type 0 where
  pub unrefused : creation_refusal word backstop now ≡ 0
  pub is : created word backstop now ≡ c

holds : {A : Type 0} → Option A → A → Type 0
holds none y = ⊥
holds (some x) y = x ≡ y

pub gave : (word : ℕ) (backstop now : ℤ) (c : Clock) → Gave word backstop now c → Creates word backstop now c
unfolding creating creation_refusal holds
gave word backstop now c e =
    by_answer (creation_table word backstop now) _ _ (λ (a : Creation). holds a.clock c → Creates word backstop now c)
    (λ z h. record { unrefused = z; is = h }) (λ n z k h. absurd h)
    (subst (λ (o : Option Clock). holds o c) (sym e) refl)

pub gives : (word : ℕ) (backstop now : ℤ) → creation_refusal word backstop now ≡ 0 →
    Gave word backstop now (created word backstop now)
unfolding creating creation_refusal
gives word backstop now e = ap (λ (a : Creation). a.clock) (sym (tables.answered (creation_table word backstop now) _ _ e))

-- ---- a question

-- an accepted one is answered as it is where nothing is refused
pub ask_answered : (c : Clock) (q : Ask) → T (accepted c (ask q)) → asking c q ≡ answered c q
unfolding call_table ask_table reading detailing
ask_answered c (read now) t = sym (tables.answered (guarded c (reading_table c now)) _ _ (call_unrefused c (ask (read now)) t))
ask_answered c (details now) t = sym (tables.answered (guarded c (details_table c now)) _ _ (call_unrefused c (ask (details now)) t))

-- ---- a reading

-- what is known of a reading v at t that a call gives
pub record Known (c : Clock) (v t : ℤ) : Type 0 where
  pub is : clock_value c t ≡ v
  pub taken : T (is_clock c)
  pub late : c.latest ≤ℤ t
  pub high : v ≤ℤ END

read_passed : (c : Clock) (now : ℤ) → T (accepted c (ask (read now))) → Known c (reading c now).value now
unfolding call_table ask_table reading_table time_table
read_passed c now t =
    let passes = call_passed c (ask (read now)) t in
    let is : clock_value c now ≡ (reading c now).value = sym (ap (λ (r : Reading). r.value) (ask_answered c (read now) t)) in
    record {
      is = is;
      taken = passes.0;
      late = not_less now c.latest (passed 2 (reading_table c now) tt passes.1);
      high = subst (λ (v : ℤ). v ≤ℤ END) is (not_less END (clock_value c now) (passed 12 (reading_table c now) tt passes.1));
    }

abbrev IfGiven : Clock → Given → Type 0
IfGiven c nothing = Unit {0}
IfGiven c (v at t) = Known c v t

known : (c : Clock) (k : Call) → IfGiven c (given c k)
unfolding given
known c (update u now) = tt
known c (ask (details now)) = tt
known c (ask (read now)) = go (accepted c (ask (read now))) (read_passed c now)
  where
    go : (b : Bool) → (T b → Known c (reading c now).value now) → IfGiven c (cond b ((reading c now).value at now) nothing)
    go true f = f tt
    go false f = tt

-- what holds of no reading, and of each of which this is known, holds of what a call gives
pub of_given : (Claim : Given → Type 0) (c : Clock) (k : Call) →
    Claim nothing → ((v t : ℤ) → Known c v t → Claim (v at t)) → Claim (given c k)
of_given Claim c k absent present = go (given c k) (known c k)
  where
    go : (g : Given) → IfGiven c g → Claim g
    go nothing i = absent
    go (v at t) i = present v t i
