-- The first bytes of the bits that wait have gone out, and the others wait.
use Rattle.std.proofs.Common.{◌-◌, ◌*◌, ◌/◌, ◌%◌, ◌^◌, arith}
use Rattle.fields.proofs.Numbers.{length_digits}
use Rattle.fields.proofs.Waiting.{reach_waiting, others_clear, drained}
use Rattle.fields.proofs.Pending.drain.Goals as goal

pub returns-then-count-bits-clause-few : goal.returns-then-count-bits-clause-few
returns-then-count-bits-clause-few c = omega (arith, length_digits c.self.inside.count (c.self.inside.word / 2 ^ (64 - c.self.inside.count)))

pub store-requires : goal.store-requires
store-requires c =
    let p = c.self.inside in
    (omega arith, omega (arith, reach_waiting p.word p.count p.first, rw (← c.self.view_is) at c.requires.1))

pub invariant_of-result-2 : goal.invariant_of-result-2
invariant_of-result-2 c =
    let p = c.self.inside in
    (omega arith, others_clear p.word p.count p.first c.args.bytes c.self.invariant.0 c.self.invariant.1 c.if-count-bits.false)

pub returns-clause-few : goal.returns-clause-few
returns-clause-few c =
    let p = c.self.inside in
    let m = 8 * c.args.bytes in
    omega (
      arith,
      length_digits p.count (p.word / 2 ^ (64 - p.count)),
      length_digits (p.count - m) (p.word * 2 ^ m % 2 ^ 64 / 2 ^ (64 - (p.count - m))),
      rw (← c.self.view_is) at c.requires.0,
    )

pub returns-clause-together : goal.returns-clause-together
returns-clause-together c =
    let a = c.args in
    let p = c.self.inside in
    rw (← c.self.view_is)
    (drained p.word p.count p.first a.bytes c.self.invariant.0 c.self.invariant.1 c.if-count-bits.false
    a.buf.now c.store.new.buf (rw (← c.self.view_is) at c.requires.1) c.store.ensures)
