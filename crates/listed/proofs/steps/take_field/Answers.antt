-- `take_field`: the label, and the value behind it.
use Rattle.kinds.specs.Judged.{meaning}
use Rattle.listed.proofs.Taking.{on, stop}
use Rattle.listed.proofs.Pieces.{labelled}
use Rattle.listed.proofs.steps.take_field.Goals as goal

pub returns-in_err-take_label : goal.returns-in_err-take_label
returns-in_err-take_label c = rw c.from_residual.ensures (labelled c.args.label.now (meaning c.args.kind) c.in_err-take_label.ensures stop)

pub returns : goal.returns
returns c = labelled c.args.label.now (meaning c.args.kind) c.in_ok-take_label.ensures (on c.take_value.ensures)
