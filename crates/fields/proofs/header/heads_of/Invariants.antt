-- `heads_of`: what was met stands, and the rest is looked for from `at` on.
use Prim.Native.Nat.{◌+◌, ◌-◌}
use lib.ListN.{length}
use Rattle.fields.proofs.Heading.{Mets}
use Rattle.fields.proofs.header.heads_of.Given as goal

abbrev pub invariant-loop-at : goal.invariant-loop-at
invariant-loop-at l = Mets l.body l.at l.h

abbrev pub decreases-loop-at : goal.decreases-loop-at
decreases-loop-at l = length l.body + 1 - l.at
