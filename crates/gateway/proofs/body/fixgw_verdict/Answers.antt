-- `fixgw_verdict`: the verdict, in words.
use Rattle.gateway.proofs.Readings.{verdict_is}
use Rattle.gateway.proofs.body.fixgw_verdict.Goals as goal

pub returns : goal.returns
returns c = verdict_is c.args.body.now c.verdict_on.ensures c.judged.ensures
