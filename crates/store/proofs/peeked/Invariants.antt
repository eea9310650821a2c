-- `peeked`: the number of each place passed stands in the list.
use mathlib.Core.Path.{◌≡◌}
use lib.ListN.{length}
use Rattle.store.proofs.Running.{PeekedTo}
use Rattle.store.proofs.peeked.Given as goal

abbrev pub invariant-loop-i : goal.invariant-loop-i
invariant-loop-i l = (length l.numbers ≡ 64) × PeekedTo l.store l.ids l.numbers l.i
