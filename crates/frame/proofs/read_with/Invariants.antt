-- `read_with`: no position before the one in hand is live.
use Rattle.std.proofs.Common.{◌-◌, ◌≤◌, length}
use Rattle.frame.specs.Frame.{rule_of}
use Rattle.frame.proofs.Search.{Dead}
use Rattle.frame.proofs.read_with.Given as goal

abbrev pub invariant-positions : goal.invariant-positions
invariant-positions l = (l.p ≤ length l.s) × Dead (rule_of l.mark) l.s l.p

abbrev pub decreases-positions : goal.decreases-positions
decreases-positions l = length l.s - l.p
