-- `first_of`: the search from the start is the search from the place reached.
use Prim.Native.Nat.{◌+◌, ◌-◌}
use mathlib.Core.Path.{◌≡◌}
use lib.ListN.{length}
use Rattle.fields.proofs.Firsts.{place_from}
use Rattle.fields.proofs.first.first_of.Given as goal

abbrev pub invariant-loop-at : goal.invariant-loop-at
invariant-loop-at l = place_from l.tag l.body 0 ≡ place_from l.tag l.body l.at

abbrev pub decreases-loop-at : goal.decreases-loop-at
decreases-loop-at l = length l.body + 1 - l.at
