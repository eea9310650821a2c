-- The walk: before each part the code stands where the words stand (At), and each way that a part can go is one turn of theirs.
use Prim.Native.Nat.{◌+◌, ◌-◌}
use lib.ListN.{length}
use Rattle.dictionary.proofs.Walking.{At}
use Rattle.dictionary.proofs.walk.walk.Given as goal

abbrev pub invariant-loop-tag : goal.invariant-loop-tag
invariant-loop-tag l = At l.m l.body l.seen l.met l.st l.at

abbrev pub decreases-loop-tag : goal.decreases-loop-tag
decreases-loop-tag l = length l.body + 1 - l.at
