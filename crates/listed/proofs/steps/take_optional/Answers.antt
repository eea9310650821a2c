-- `take_optional`: nothing where the label does not stand.
use Rattle.kinds.specs.Judged.{meaning}
use Rattle.listed.proofs.Pieces.{maybe_none, maybe_some}
use Rattle.listed.proofs.steps.take_optional.Goals as goal

pub returns-in_default : goal.returns-in_default
returns-in_default c = maybe_none c.args.label.now (meaning c.args.kind) c.in_default.ensures

pub returns : goal.returns
returns c = maybe_some c.args.label.now (meaning c.args.kind) c.in-Some.ensures c.take_value.ensures
