-- `calm`: as long as the answer is yes, no byte passed is x.
use Rattle.std.proofs.Common.{◌≡◌, ℕ, ◌+◌, ◌<◌, true, get_or}
use Rattle.octets.proofs.find.calm.Given as goal

abbrev pub invariant-loop-k : goal.invariant-loop-k
invariant-loop-k l = l.none ≡ true → (j : ℕ) → j < l.k → get_or l.s (l.i + j) 0 ≡ l.x → ⊥
