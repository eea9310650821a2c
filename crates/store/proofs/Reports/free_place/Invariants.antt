-- `free_place`: each place passed holds a report of another number.
use mathlib.Core.Path.{◌≡◌}
use lib.ListN.{length, take}
use Rattle.places.specs.Places.{places}
use Rattle.store.proofs.Filled.{Filled}
use Rattle.store.proofs.Reports.free_place.Given as goal

abbrev pub invariant-loop-i : goal.invariant-loop-i
invariant-loop-i l = (length l.numbers ≡ 64) × Filled l.self.ids.us.now l.self.ids.them.now (places l.self.store.now) l.i (take l.i l.numbers)
