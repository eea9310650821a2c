-- The group walk and the instance walk: the bytes that are left, and where each stands before the part at a place.
use Rattle.std.proofs.Common.{◌+◌, ◌-◌, length}
use Rattle.dictionary.proofs.TwoWalks.{InGroupWalk, InInstanceWalk}
use Rattle.dictionary.proofs.nested.+group_walk_instance_walk.Given as goal

abbrev pub decreases-group_walk : goal.decreases-group_walk
decreases-group_walk l = length l.body.now + 1 - l.from

abbrev pub decreases-instance_walk : goal.decreases-instance_walk
decreases-instance_walk l = length l.body.now + 1 - l.from

abbrev pub invariant-group_walk-loop-head : goal.invariant-group_walk-loop-head
invariant-group_walk-loop-head l = InGroupWalk l.body l.initial.g l.from l.met l.g l.at l.item

abbrev pub decreases-group_walk-loop-head : goal.decreases-group_walk-loop-head
decreases-group_walk-loop-head l = length l.body + 1 - l.at

abbrev pub invariant-instance_walk-loop-head : goal.invariant-instance_walk-loop-head
invariant-instance_walk-loop-head l = InInstanceWalk l.body l.initial.met l.g l.from l.met l.at l.item

abbrev pub decreases-instance_walk-loop-head : goal.decreases-instance_walk-loop-head
decreases-instance_walk-loop-head l = length l.body + 1 - l.at
