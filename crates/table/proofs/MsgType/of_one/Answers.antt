-- The types of one byte.
use Rattle.std.proofs.Common.{arith}
use mathlib.Core.Path.{ap}
use Rattle.table.specs.Dictionary.{code35, type_of, named}
use Rattle.table.proofs.Types.{other_byte}
use Rattle.table.proofs.MsgType.of_one.Goals as goal

pub returns-in-48 : goal.returns-in-48
unfolding type_of code35
returns-in-48 c = rw c.in-48.is

pub returns-in-49 : goal.returns-in-49
unfolding type_of code35
returns-in-49 c = rw c.in-49.is

pub returns-in-50 : goal.returns-in-50
unfolding type_of code35
returns-in-50 c = rw c.in-50.is

pub returns-in-51 : goal.returns-in-51
unfolding type_of code35
returns-in-51 c = rw c.in-51.is

pub returns-in-52 : goal.returns-in-52
unfolding type_of code35
returns-in-52 c = rw c.in-52.is

pub returns-in-53 : goal.returns-in-53
unfolding type_of code35
returns-in-53 c = rw c.in-53.is

pub returns-in-65 : goal.returns-in-65
unfolding type_of code35
returns-in-65 c = rw c.in-65.is

pub returns-in-70 : goal.returns-in-70
unfolding type_of code35
returns-in-70 c = rw c.in-70.is

pub returns-in_default : goal.returns-in_default
returns-in_default c = ap named (other_byte _ (omega arith) (omega arith) (omega arith) (omega arith) (omega arith) (omega arith) (omega arith) (omega arith))
