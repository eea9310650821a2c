-- `fixgw_report_values`: the answer, in words.
use Rattle.gateway.proofs.Readings.{report-values_are}
use Rattle.gateway.proofs.trades.fixgw_report_values.Goals as goal

pub returns : goal.returns
returns c = report-values_are c.args.body.now c.report_values.ensures c.judged.ensures
