use mathlib.Core.Path.{◌∙◌}
use mir.Syntax.{w64}
use mir.ValLaws.{to_z-of_z}
use Rattle.clock.proofs.Redrawn.{judged}
use Rattle.clock.proofs.Clock.redraw.Goals as goal

pub line_refusal-requires : goal.line_refusal-requires
line_refusal-requires c =
    let same = to_z-of_z w64 c.args.now c.ranges.now in
    rw same
    (judged c.args.self c.args.request c.args.now c.requires c.old_line-old.ensures (c.redrawn-redrawn.ensures ∙ simp same) c.unwrap_or-line.ensures)
