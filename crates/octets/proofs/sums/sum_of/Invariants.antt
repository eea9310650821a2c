-- `sum_of`: t is the sum of the bytes passed, and each of them is at most 255.
use Rattle.std.proofs.Common.{◌≡◌, ◌*◌, ◌≤◌, take, drop}
use Rattle.octets.specs.Bytes.{sum}
use Rattle.octets.proofs.sums.sum_of.Given as goal

abbrev pub invariant-loop-x : goal.invariant-loop-x
invariant-loop-x l = (l.t ≡ sum (take l.x-index (drop l.at l.s))) × (l.t ≤ 255 * l.x-index)
