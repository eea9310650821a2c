-- `lead_of`: a number without its last digit begins as it did.
use mathlib.Core.Path.{◌≡◌}
use lib.ListN.{get_or}
use Rattle.octets.specs.Bytes.{decimal}
use Rattle.fields.proofs.first.lead_of.Given as goal

abbrev pub invariant-loop-n : goal.invariant-loop-n
invariant-loop-n l = get_or (decimal l.n) 0 0 ≡ get_or (decimal l.tag) 0 0

abbrev pub decreases-loop-n : goal.decreases-loop-n
decreases-loop-n l = l.n
