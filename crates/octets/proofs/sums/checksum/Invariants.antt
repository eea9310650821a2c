-- `checksum`: thirty-two eights at a time, the front is a multiple of 256; then each part leaves fewer bytes than it has, and the last seven are all.
use Rattle.std.proofs.Common.{◌≡◌, ◌-◌, ◌%◌, ◌≤◌, length}
use Rattle.octets.specs.code.Leaf.{Summed}
use Rattle.octets.proofs.sums.checksum.Given as goal

abbrev pub invariant-loop-front : goal.invariant-loop-front
invariant-loop-front l = Summed l.s l.front × ((l.front.at ≤ length l.s) × (l.front.at % 256 ≡ 0))

abbrev pub decreases-loop-front : goal.decreases-loop-front
decreases-loop-front l = length l.s - l.front.at
