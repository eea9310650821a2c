-- The words hold the fields before the place reached; at the end they are those of the body.
use Prim.Native.Nat.{◌+◌, ◌-◌}
use lib.ListN.{length}
use Rattle.readback.proofs.Passing.{Sofar}
use Rattle.readback.proofs.noting.note_all.Given as goal

abbrev pub invariant-loop-tag : goal.invariant-loop-tag
invariant-loop-tag l = Sofar l.body l.at l.words l.had

abbrev pub decreases-loop-tag : goal.decreases-loop-tag
decreases-loop-tag l = length l.body + 1 - l.at
