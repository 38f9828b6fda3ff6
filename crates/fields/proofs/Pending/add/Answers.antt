-- A field of no bits, one that finds room, and one that fills the word.
use Rattle.std.proofs.Common.{ℕ, ◌+◌, ◌-◌, ◌*◌, ◌≤◌, length, ap, sym, ◌∙◌, arith}
use Rattle.fields.specs.Bits.{digits, row}
use Rattle.fields.specs.Field.{over}
use Rattle.fields.specs.Pending.{waiting, reach, merged}
use Rattle.fields.proofs.Over.{over_no_digits}
use Rattle.fields.proofs.Waiting.{reach_waiting, short_clear, added_short, few_left, left_clear, added_full}
use Rattle.fields.proofs.Pending.add.Goals as goal

pub returns-then-width-eq0 : goal.returns-then-width-eq0
returns-then-width-eq0 c =
    let a = c.args in
    rw c.self.view_is
    (record {
      reached = omega arith;
      merges = sym (over_no_digits (merged a.buf.now a.self) (reach a.self) a.width a.value (omega arith));
    })

pub invariant_of-result-then-count-lt64 : goal.invariant_of-result-then-count-lt64
invariant_of-result-then-count-lt64 c =
    let a = c.args in
    let p = c.self.inside in (
      c.if-count-lt64.true,
      rw c.behind-word.ensures
          (short_clear a.buf.now p.word p.count p.first a.width a.value c.self.invariant.0 c.self.invariant.1 c.requires.1
          (rw (← c.self.view_is) at c.requires.0) c.if-count-lt64.true),
    )

pub returns-then-count-lt64 : goal.returns-then-count-lt64
returns-then-count-lt64 c =
    let a = c.args in
    let p = c.self.inside in
    rw (← c.self.view_is, c.behind-word.ensures)
    (added_short a.buf.now p.word p.count p.first a.width a.value c.self.invariant.0 c.self.invariant.1 c.requires.1
    (rw (← c.self.view_is) at c.requires.0) c.if-count-lt64.true)

pub store-requires : goal.store-requires
store-requires c =
    let p = c.self.inside in
    (omega arith, omega (arith, reach_waiting p.word p.count p.first, rw (← c.self.view_is) at c.requires.0))

pub invariant_of-result-2 : goal.invariant_of-result-2
invariant_of-result-2 c =
    let a = c.args in
    let p = c.self.inside in
    let inside : reach (waiting p.word p.count p.first) + a.width ≤ 8 * length a.buf.now = rw (← c.self.view_is) at c.requires.0 in (
      few_left a.buf.now p.word p.count p.first a.width a.value c.self.invariant.0 c.self.invariant.1 c.requires.1 inside
          (p.count + a.width - 64) (omega arith),
      left_clear a.buf.now p.word p.count p.first a.width a.value c.self.invariant.0 c.self.invariant.1 c.requires.1 inside
          (p.count + a.width - 64) (omega arith),
    )

pub returns : goal.returns
returns c =
    let a = c.args in
    let p = c.self.inside in
    rw (← c.self.view_is)
    (added_full a.buf.now p.word p.count p.first a.width a.value c.self.invariant.0 c.self.invariant.1 c.requires.1
    (rw (← c.self.view_is) at c.requires.0) (p.count + a.width - 64) (omega arith) c.store.new.buf
    (c.store.ensures ∙ ap (λ (x : ℕ). over (row a.buf.now) (8 * p.first) (digits 64 x)) c.behind-word.ensures))
