-- What holds of every command's answer.
use mathlib.Core.Path.{◌≡◌, refl, sym, ◌∙◌, subst}
use mathlib.Core.Bool.{Bool, true, false, not, ◌&&◌, true≢false}
use mathlib.Core.List.{List, [], ◌∷◌}
use Prim.Native.Nat.{ℕ, zero, suc, ◌≤◌}
use native.Mathlib.Omega.{arith}
use lib.IntN.{ℤ}
use lib.Dec.{T, eqb}
use borrow.Author.Tests.{eq-eqb}
use mir.Facts.{and_yes}
use Rattle.std.specs.Prelude.{Option, Result}
use Rattle.tables.specs.declared.Refusal.{Refusal}
use Rattle.clock.specs.declared.Request.{Request}
use Rattle.std.proofs.lemmas.Grind.{common_steps}
use Rattle.tables.specs.Tables.{Row, ◌when◌, first, answer_to, answer}
use Rattle.tables.proofs.Tables.{passed, answered, none_told, settled}
use Rattle.tables.proofs.Tests.{is_false}
use Rattle.clock.specs.Numbers.{rate_outside}
use Rattle.clock.specs.Clock.{time_table}
use Rattle.clock.specs.Taken.{guarded}
use Rattle.clock.specs.Update.{wrong_unless, values_beyond, rate_too_wide, alone_table, allowed_table, request_table, new_line_table, update_table}
use Rattle.clock.specs.Calls.{update, call_table, refusal_of}
use Rattle.clock.specs.declared.Clock.{Clock}
use Rattle.clock.proofs.Rows.{refusal_is}
use Rattle.panel.specs.Bits.{bits, nearest_whole}
use Rattle.panel.specs.Panel.{quotient, trim_table, input_table, command_table, Translation, rate_request, update_to, refused_by, asked, translating, told}
use Rattle.panel.specs.declared.Command.TheVariants.{Hold, Trim, Pull}
use Rattle.translations.specs.Answers.{Demand1Translate, HoldHolds, OnlyHold, OneAnswer, Passes3To7, RequestPasses}

pub demand1_translate : Demand1Translate
unfolding translating trim_table input_table
demand1_translate Hold = settled (command_table Hold) (asked Hold) refused_by tt
demand1_translate (Trim x) = settled (command_table (Trim x)) (asked (Trim x)) refused_by tt
demand1_translate (Pull o w) = settled (command_table (Pull o w)) (asked (Pull o w)) refused_by tt

pub hold_holds : HoldHolds
unfolding translating
hold_holds = refl

-- ---- the answer to a command with a rate

abbrev told_rate : ℕ → ℤ → Translation
told_rate n a = answer_to n (update_to a) refused_by

not_held : (n : ℕ) (a : ℤ) → (told_rate n a).held ≡ true → ⊥
not_held zero a h = true≢false (sym h)
not_held (suc n) a h = true≢false (sym h)

pub only_hold : OnlyHold
unfolding translating
only_hold Hold h = refl
only_hold (Trim x) h = absurd (not_held (first (command_table (Trim x))) (nearest_whole (bits x)) h)
only_hold (Pull o w) h = absurd (not_held (first (command_table (Pull o w))) (nearest_whole (bits (quotient o w))) h)

-- ---- a number that none of the rows that apply has

abbrev lacks : ℕ → List Row → Bool
lacks k [] = not (eqb 0 k)
lacks k ((n when b) ∷ rows) = not (eqb n k && b) && lacks k rows

never_told : (k : ℕ) (rows : List Row) → T (lacks k rows) → T (not (eqb (first rows) k))
never_told k [] p = p
never_told k ((n when true) ∷ rows) p = alone (eqb n k) (and_yes (not (eqb n k && true)) (lacks k rows) p).0
  where
    alone : (a : Bool) → T (not (a && true)) → T (not a)
    alone true t = t
    alone false t = tt
never_told k ((n when false) ∷ rows) p = never_told k rows (and_yes (not (eqb n k && false)) (lacks k rows) p).1

-- ---- the clock's rules 3 to 7

never_first : (k : ℕ) (rows : List Row) → T (lacks k rows) → first rows ≡ k → ⊥
never_first k rows p e = subst (λ (b : Bool). T (not b)) (eq-eqb (first rows) k e) (never_told k rows p)

by_rule : (P : ℕ → Type 0) → P 3 → P 4 → P 5 → P 6 → P 7 → (n : ℕ) → 3 ≤ n → n ≤ 7 → P n
by_rule P a b c d e zero l h = absurd (omega arith)
by_rule P a b c d e (suc zero) l h = absurd (omega arith)
by_rule P a b c d e (suc (suc zero)) l h = absurd (omega arith)
by_rule P a b c d e (suc (suc (suc zero))) l h = a
by_rule P a b c d e (suc (suc (suc (suc zero)))) l h = b
by_rule P a b c d e (suc (suc (suc (suc (suc zero))))) l h = c
by_rule P a b c d e (suc (suc (suc (suc (suc (suc zero)))))) l h = d
by_rule P a b c d e (suc (suc (suc (suc (suc (suc (suc zero))))))) l h = e
by_rule P a b c d e (suc (suc (suc (suc (suc (suc (suc (suc n)))))))) l h = absurd (omega arith)

rate_lacks : (a : ℤ) → rate_outside a ≡ false → (c : Clock) (now : ℤ) (n : ℕ) → 3 ≤ n → n ≤ 7 →
    T (lacks n (guarded c (update_table c (rate_request a) now)))
unfolding guarded time_table alone_table allowed_table request_table new_line_table update_table wrong_unless values_beyond rate_too_wide
rate_lacks a f c now =
    by_rule (λ (n : ℕ). T (lacks n (guarded c (update_table c (rate_request a) now)))) tt tt tt (rw f tt) tt

rate_passes : (a : ℤ) → rate_outside a ≡ false → Passes3To7 (rate_request a)
unfolding refusal_of call_table
rate_passes a f c now n l h e =
    never_first n (guarded c (update_table c (rate_request a) now)) (rate_lacks a f c now n l h)
    (sym (refusal_is c (update (rate_request a) now)) ∙ e)

told_passes : (rows : List Row) (a : ℤ) → (first rows ≡ 0 → rate_outside a ≡ false) →
    (answer rows (update_to a) refused_by).refusal ≡ 0 → Passes3To7 (answer rows (update_to a) refused_by).request
told_passes rows a f h =
    let none = none_told rows (update_to a) refused_by (λ t. t.refusal) (λ n. refl) h in
    subst (λ (t : Translation). Passes3To7 t.request) (answered rows (update_to a) refused_by none) (rate_passes a (f none))

pub request_passes : RequestPasses
unfolding translating trim_table input_table
request_passes Hold h r = absurd (true≢false h)
request_passes (Trim x) h r =
    let rows = command_table (Trim x) in
    told_passes rows (nearest_whole (bits x)) (λ e. is_false _ (passed 6 rows tt e)) r
request_passes (Pull o w) h r =
    let rows = command_table (Pull o w) in
    told_passes rows (nearest_whole (bits (quotient o w))) (λ e. is_false _ (passed 6 rows tt e)) r

-- ---- one answer

-- answers that are told alike are the same: no refusal has the number 0, and no two have one number
same_told : (a b : Result (Option Request) Refusal) → told a ≡ told b → a ≡ b
same_told a b e = grind (arith, common_steps)

pub one_answer : OneAnswer
one_answer c a b p q = same_told a b (p ∙ sym q)
