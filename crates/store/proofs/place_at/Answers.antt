-- `place_at`: 512 bytes of the 32,768.
use native.Mathlib.Omega.{arith}
use mathlib.Core.Path.{sym}
use Rattle.places.proofs.Cuts.{store_is, slice_at}
use Rattle.store.proofs.place_at.Goals as goal

pub slice_bounds-result-end : goal.slice_bounds-result-end
slice_bounds-result-end c = let e = store_is _ c.requires.0 in omega (arith, e)

pub returns-clause-is : goal.returns-clause-is
returns-clause-is c = sym (slice_at _ _ c.requires.1)
