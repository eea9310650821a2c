-- `peek_number`: the digits where the number stands.
use Rattle.kept.proofs.Walking.{peeked}
use Rattle.kept.proofs.peek_number.Goals as goal

pub returns : goal.returns
returns c = peeked c.args.place.now c.args.ids _ _ c.requires.0 c.row-n.ensures
