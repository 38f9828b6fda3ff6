-- The bytes that went out, with the bits that wait still, are what is to be there.
use Rattle.std.proofs.Common.{◌-◌, ◌/◌, ◌^◌, ◌<◌, length, sym, ◌∙◌, arith}
use Rattle.fields.proofs.Numbers.{length_digits}
use Rattle.fields.proofs.Waiting.{reach_waiting, nothing_waits, last_written}
use Rattle.fields.proofs.Pending.finish.Goals as goal

pub drain-pending-requires : goal.drain-pending-requires
drain-pending-requires c =
    let p = c.self.inside in
    rw (← c.self.view_is) (
      omega (arith, length_digits p.count (p.word / 2 ^ (64 - p.count)), c.self.invariant.0),
      rw (← c.self.view_is) at c.requires,
      omega arith,
    )

pub bounds-buf-first : goal.bounds-buf-first
bounds-buf-first c =
    let p = c.pending.inside in
    omega (
      arith,
      c.requires,
      reach_waiting p.word p.count p.first,
      rw (← c.pending.view_is) at c.drain-pending-3.ensures.together.reached,
      c.drain-pending-2.ensures.together.reached,
      c.drain-pending.ensures.together.reached,
    )

pub with_front-x-requires : goal.with_front-x-requires
with_front-x-requires c =
    let p = c.pending.inside in (
      omega (arith, length_digits p.count (p.word / 2 ^ (64 - p.count)), rw (← c.pending.view_is) at c.drain-pending-3.ensures.few),
      c.pending.invariant.1,
    )

pub bounds-buf-first-then-count-ne0 : goal.bounds-buf-first-then-count-ne0
bounds-buf-first-then-count-ne0 c =
    let p = c.pending.inside in
    omega (
      arith,
      c.requires,
      reach_waiting p.word p.count p.first,
      rw (← c.pending.view_is) at c.drain-pending-3.ensures.together.reached,
      c.drain-pending-2.ensures.together.reached,
      c.drain-pending.ensures.together.reached,
    )

pub returns-then-count-ne0 : goal.returns-then-count-ne0
returns-then-count-ne0 c =
    let d = c.drain-pending-3 in
    let p = c.pending.inside in
    let few : p.count < 8 =
    omega (arith, length_digits p.count (p.word / 2 ^ (64 - p.count)), rw (← c.pending.view_is) at d.ensures.few) in
    let within : p.first < length d.new.buf =
    omega (
      arith,
      c.requires,
      reach_waiting p.word p.count p.first,
      rw (← c.pending.view_is) at d.ensures.together.reached,
      c.drain-pending-2.ensures.together.reached,
      c.drain-pending.ensures.together.reached,
    ) in
    last_written d.new.buf c.with_front-x.result p.word p.count p.first c.with_front-x.ensures few within
    ∙ rw (← c.pending.view_is) at d.ensures.together.merges
    ∙ c.drain-pending-2.ensures.together.merges ∙ c.drain-pending.ensures.together.merges

pub returns-else-count-ne0 : goal.returns-else-count-ne0
returns-else-count-ne0 c =
    let d = c.drain-pending-3 in
    let p = c.pending.inside in
    sym (nothing_waits d.new.buf p.word p.count p.first (omega arith))
    ∙ rw (← c.pending.view_is) at d.ensures.together.merges
    ∙ c.drain-pending-2.ensures.together.merges ∙ c.drain-pending.ensures.together.merges
