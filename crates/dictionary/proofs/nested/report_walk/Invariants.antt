-- The report's walk: before each part the code stands where the words stand (Above), and each way that a part can go is one turn of theirs.
use Prim.Native.Nat.{◌+◌, ◌-◌}
use lib.ListN.{length}
use Rattle.dictionary.proofs.TopWalk.{Above}
use Rattle.dictionary.proofs.nested.report_walk.Given as goal

abbrev pub invariant-loop-item : goal.invariant-loop-item
invariant-loop-item l = Above l.body l.seen l.over l.at l.item

abbrev pub decreases-loop-item : goal.decreases-loop-item
decreases-loop-item l = length l.body + 1 - l.at
