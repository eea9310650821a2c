-- `row_of`: up to the place at hand all are digits, and their number is kept.
use Prim.Native.Nat.{◌-◌}
use lib.ListN.{length}
use Rattle.decimals.proofs.Reading.{Running}
use Rattle.decimals.proofs.row_of.Given as goal

abbrev pub invariant-loop-i : goal.invariant-loop-i
invariant-loop-i l = Running l.v l.from l.before l.i l.w

abbrev pub decreases-loop-i : goal.decreases-loop-i
decreases-loop-i l = length l.v - l.i
