-- The types of two bytes, AD and AE.
use mathlib.Core.Path.{ap}
use Rattle.table.specs.Dictionary.{code35, type_of, named}
use Rattle.table.proofs.Types.{other_first, other_second}
use Rattle.table.proofs.MsgType.of_two.Goals as goal

pub returns-in-65-eq68 : goal.returns-in-65-eq68
unfolding type_of code35
returns-in-65-eq68 c = rw (c.in-65-eq68.is-0, c.in-65-eq68.is-1)

pub returns-in-65-eq69 : goal.returns-in-65-eq69
unfolding type_of code35
returns-in-65-eq69 c = rw (c.in-65-eq69.is-0, c.in-65-eq69.is-1)

pub returns-in_default : goal.returns-in_default
returns-in_default c = ap named (other_second _ _ c.in_default.is-1.0.1 c.in_default.is-1.1)

pub returns-in_default-2 : goal.returns-in_default-2
returns-in_default-2 c = ap named (other_first _ _ c.in_default.is-0.1)
