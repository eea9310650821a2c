-- `take_members`: whatever the other parties are, those passed stand in front of them.
use Rattle.listed.proofs.Members.{first-party, next_party, no_party, last_party}
use Rattle.listed.proofs.take_members.Goals as goal

pub loop-i-init : goal.loop-i-init
loop-i-init c = first-party c.args.n

pub returns-in_err-left : goal.returns-in_err-left
returns-in_err-left c = rw c.from_residual.ensures (no_party c.args.n c.loop-i.i c.loop-i.invariant c.loop-i-test.true c.in_err-left.ensures)

pub loop-i-preserved : goal.loop-i-preserved
loop-i-preserved c = next_party c.args.n c.loop-i.i c.loop-i.invariant c.loop-i-test.true c.in_ok-left.ensures

pub returns : goal.returns
returns c = last_party c.args.n c.loop-i.i c.loop-i.invariant c.loop-i-test.false
