-- By the number of the type.
use lib.Dec.{ltb}
use Rattle.std.proofs.Common.{ℕ, ap, ◌∙◌}
use Rattle.table.proofs.Types.{number_is}
use Rattle.dictionary.proofs.Saying.{administrative_is}
use Rattle.dictionary.proofs.rules.is_administrative.Goals as goal

pub returns : goal.returns
returns c = ap (λ (x : ℕ). ltb x 7) (number_is c.args.m) ∙ administrative_is c.args.m
