-- `fixgw_read`: the case of the reading, in words.
use Rattle.gateway.proofs.Readings.{read-frame, read_none}
use Rattle.gateway.proofs.stream.fixgw_read.Goals as goal

pub returns-in-Ok : goal.returns-in-Ok
returns-in-Ok c = read-frame c.in-Ok.is c.reading_of.ensures

pub returns-in-Err : goal.returns-in-Err
returns-in-Err c = read_none c.in-Err.is c.reading_of.ensures
