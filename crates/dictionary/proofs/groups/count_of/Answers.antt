-- The number of a count field.
use native.Mathlib.Omega.{arith}
use Rattle.dictionary.proofs.Opening.{counted_is, counted_large, counted_bad}
use Rattle.dictionary.proofs.groups.count_of.Goals as goal

pub returns-in_default : goal.returns-in_default
returns-in_default c = counted_bad _ _ _ c.read_number.ensures c.in_default.is

pub returns-then-n-gt999999999 : goal.returns-then-n-gt999999999
returns-then-n-gt999999999 c = counted_large _ _ _ c.read_number.ensures c.in-Some.is c.if-n-gt999999999.true

pub returns : goal.returns
returns c = counted_is _ _ _ c.read_number.ensures c.in-Some.is

pub overflow_cast-result : goal.overflow_cast-result
overflow_cast-result c = omega arith
