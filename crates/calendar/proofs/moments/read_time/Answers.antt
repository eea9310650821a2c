-- `read_time`: nothing is found, or it is no time.
use Rattle.calendar.proofs.Timed.{reads_none, reads_time, is_timed}
use Rattle.fault.proofs.Numbers.{some_number}
use Rattle.calendar.proofs.moments.read_time.Goals as goal

pub returns-in_default : goal.returns-in_default
returns-in_default c = let h = c.in_default.ensures in reads_none _ h (some_number _)

pub moment_of-requires : goal.moment_of-requires
moment_of-requires c = is_timed _ c.in-Ok.ensures

pub returns : goal.returns
returns c = reads_time _ c.in-Ok.ensures c.moment_of.ensures
