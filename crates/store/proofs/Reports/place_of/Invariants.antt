-- `place_of`: no place passed holds the number.
use Prim.Native.Nat.{ℕ, ◌<◌}
use mathlib.Core.Path.{◌≡◌}
use Rattle.places.specs.Places.{places}
use Rattle.store.proofs.Counting.{number_at}
use Rattle.store.proofs.Reports.place_of.Given as goal

abbrev pub invariant-loop-i : goal.invariant-loop-i
invariant-loop-i l = (j : ℕ) → j < l.i → number_at l.self.ids.us.now l.self.ids.them.now (places l.self.store.now) j ≡ l.n → ⊥
