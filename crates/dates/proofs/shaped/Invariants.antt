-- `shaped`: the flag says whether the bytes so far fit.
use Rattle.std.proofs.Common.{◌≡◌, length, take}
use Rattle.dates.specs.Date.{like}
use Rattle.dates.proofs.shaped.Given as goal

abbrev pub invariant-loop-s : goal.invariant-loop-s
invariant-loop-s l = l.fits ≡ like (take (length l.yielded) l.shape) (take (length l.yielded) l.v)
