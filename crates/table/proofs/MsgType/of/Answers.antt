-- The types of one byte, of two, and others.
use Rattle.std.proofs.Common.{arith}
use mathlib.Core.Path.{ap}
use Rattle.table.specs.Dictionary.{named}
use Rattle.table.proofs.Types.{other_long}
use Rattle.table.proofs.MsgType.of.Goals as goal

pub returns-in_default : goal.returns-in_default
returns-in_default c = ap named (other_long _ (λ e. omega (arith, e, c.in_default.len_below)) (λ e. omega (arith, e, c.in_default.len_below)))

pub returns-in_default-2 : goal.returns-in_default-2
returns-in_default-2 c = ap named (other_long _ (λ e. omega (arith, e, c.in_default.len_at_least)) (λ e. omega (arith, e, c.in_default.len_at_least)))
