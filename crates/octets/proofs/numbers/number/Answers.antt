-- `number`: where fewer bytes are left than digits are allowed, the end is the limit.
use Rattle.std.proofs.Common.{arith}
use Rattle.octets.proofs.Numerals.{read_to_end}
use Rattle.octets.proofs.numbers.number.Goals as goal

pub returns-then-left-most : goal.returns-then-left-most
returns-then-left-most c = read_to_end _ _ _ _ _ _ (omega arith) (omega arith) c.row.ensures
