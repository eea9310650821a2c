-- `calm_to`: x stands nowhere in what was stepped over.
use Rattle.std.proofs.Common.{◌≡◌, ℕ, ◌-◌, ◌<◌, ◌≤◌, get_or}
use Rattle.octets.proofs.find.calm_to.Given as goal

abbrev pub invariant-loop-i : goal.invariant-loop-i
invariant-loop-i l = (l.a ≤ l.i) × ((l.i ≤ l.e) × ((q : ℕ) → q < l.i → l.a ≤ q → get_or l.s q 0 ≡ l.x → ⊥))

abbrev pub decreases-loop-i : goal.decreases-loop-i
decreases-loop-i l = l.e - l.i
