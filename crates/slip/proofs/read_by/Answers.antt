use Rattle.slip.proofs.Openings.{opening_inside}
use Rattle.slip.proofs.Fronts.{opened_small}
use Rattle.slip.proofs.read_by.Goals as goal

pub take_six-values-requires : goal.take_six-values-requires
take_six-values-requires g c = opening_inside c.args.bytes.now c.in_ok-opened.opened c.in_ok-opened.ensures

pub judged-requires : goal.judged-requires
judged-requires g c =
    opened_small c.args.bytes.now c.in_ok-opened.opened c.take_six-values.result c.in_ok-opened.ensures c.take_six-values.ensures
