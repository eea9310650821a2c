-- `reconnect`: 11, or Waiting and nothing else.
use mathlib.Core.Bool.{not}
use mathlib.Core.Path.{ap}
use Rattle.session.proofs.Stepping.{back_refused, back_waiting}
use Rattle.session.proofs.reconnect.Goals as goal

pub returns-then-not-in_range : goal.returns-then-not-in_range
returns-then-not-in_range c = back_refused c.args.r c.in_range.ensures (ap not c.if-not-in_range.true) c.refused.ensures

pub returns : goal.returns
returns c = back_waiting c.args.r c.in_range.ensures (ap not c.if-not-in_range.false) c.turned.ensures c.unchanged.ensures
