-- `take_side`: a field behind the one that is always the same, and one that may be absent.
use Rattle.listed.proofs.Taking.{on, stop}
use Rattle.listed.proofs.Sections.{side_took}
use Rattle.listed.proofs.take_side.Goals as goal

pub returns-in_err-s : goal.returns-in_err-s
returns-in_err-s c = rw c.from_residual.ensures (side_took c.in_err-s.ensures stop)

pub returns : goal.returns
returns c = side_took c.in_ok-s.ensures (on c.take_optional.ensures)
