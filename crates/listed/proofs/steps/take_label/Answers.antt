-- `take_label`: what `strip_prefix` says.
use Rattle.listed.proofs.Pieces.{stripped}
use Rattle.listed.proofs.steps.take_label.Goals as goal

pub returns : goal.returns
returns c = stripped c.args.s.now c.args.label.now _ c.strip_prefix.ensures.cases
