use Rattle.std.proofs.Common.{not, T}
use mathlib.Core.Path.{subst⁻¹}
use Rattle.tables.specs.declared.Refusal.TheVariants.{WordWrong, ValueOutside, RateOutside}
use Rattle.clock.specs.Update.{word_wrong, values_outside, rate_too_wide}
use Rattle.clock.specs.declared.Request.{Request}
use Rattle.slip.proofs.Told.{let_pass}
use Rattle.slip.proofs.Writings.{Writable}
use Rattle.slip.proofs.Versions.{slip_writable}
use Rattle.slip.proofs.slip_for.Goals as goal

-- a request that passes the tests fits its slip
pub invariant_of-result : goal.invariant_of-result
invariant_of-result c =
    let w : Writable c.args.request = record {
      word = let_pass c.word_wrong.result (word_wrong c.args.request) WordWrong c.in_ok-refuse_if.ensures c.word_wrong.ensures;
      values = let_pass c.values_outside.result (values_outside c.args.request) ValueOutside c.in_ok-refuse_if-2.ensures c.values_outside.ensures;
      rate = let_pass c.rate_too_wide.result (rate_too_wide c.args.request) RateOutside c.in_ok-refuse_if-3.ensures c.rate_too_wide.ensures;
    } in
    let s = slip_writable c.args.request w in
    subst⁻¹ (λ (v : Request). T (not (values_outside v)) × T (not (rate_too_wide v))) c.in_slip.ensures (s.values, s.rate)
