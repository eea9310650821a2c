-- A bit by a shift.
use mathlib.Core.Path.{refl}
use Rattle.table.specs.code.Held.{bit_of}
use Rattle.table.proofs.known.bit.Goals as goal

pub returns : goal.returns
unfolding bit_of
returns c = refl
