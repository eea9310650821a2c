-- `moment_of`: each part from its place.
use Rattle.calendar.proofs.Timed.{times}
use Rattle.calendar.proofs.moments.moment_of.Goals as goal

pub returns : goal.returns
returns c = search times
