-- `holds`: the literal stands nowhere with its fifth byte in what was stepped over.
use Rattle.std.proofs.Common.{ℕ, ◌+◌, ◌-◌, ◌<◌, ◌≤◌, length}
use Rattle.octets.specs.Bytes.{At}
use Rattle.octets.proofs.find.holds.Given as goal

abbrev pub invariant-loop-i : goal.invariant-loop-i
invariant-loop-i l = (l.a ≤ l.i) × ((l.i ≤ l.e) × ((q : ℕ) → q + 4 < l.i → l.a ≤ q → q + length l.lit ≤ l.e → At l.s q l.lit → ⊥))

abbrev pub decreases-loop-i : goal.decreases-loop-i
decreases-loop-i l = l.e - l.i
