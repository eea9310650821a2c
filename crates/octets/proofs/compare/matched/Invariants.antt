-- `matched`: every byte passed is the literal's.
use Rattle.std.proofs.Common.{◌≡◌, ℕ, ◌+◌, ◌<◌, ◌≤◌, length, get_or}
use Rattle.octets.proofs.compare.matched.Given as goal

abbrev pub invariant-loop-i : goal.invariant-loop-i
invariant-loop-i l = (l.at + l.i ≤ length l.s) × ((k : ℕ) → k < l.i → get_or l.s (l.at + k) 0 ≡ get_or l.lit k 0)
