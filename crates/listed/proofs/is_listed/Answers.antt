-- `is_listed`: all sections, up to the end.
use Rattle.std.proofs.Common.{refl}
use Rattle.listed.proofs.Whole.{none_listed, all_listed}
use Rattle.listed.proofs.is_listed.Goals as goal

pub returns-in_default : goal.returns-in_default
returns-in_default c = none_listed c.in_default.ensures refl

pub returns : goal.returns
returns c = rw c.is_empty.ensures (all_listed c.in-Some.ensures refl)
