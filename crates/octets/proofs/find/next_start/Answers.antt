-- `next_start`: the first place by itself, the others by the first place of the fifth byte.
use Rattle.std.proofs.Common.{arith}
use Rattle.octets.proofs.Search.{next_behind}
use Rattle.octets.proofs.find.next_start.Goals as goal

pub returns-then-n-p-le4 : goal.returns-then-n-p-le4
returns-then-n-p-le4 c =
    record { low = omega arith; high = omega arith; inside = λ q l h. absurd (omega arith); none = λ q l h. absurd (omega arith) }

pub returns-then-s-j : goal.returns-then-s-j
returns-then-s-j c =
    record { low = omega arith; high = omega arith; inside = λ q l h. absurd (omega arith); none = λ q l h. absurd (omega arith) }

pub returns : goal.returns
returns c = next_behind _ _ _ _ c.if-s-j.false c.find_byte-k.ensures
