-- `width`: one digit, two, or by the powers of ten around the number.
use Rattle.octets.proofs.Rightmost.{width_1, width_2}
use Rattle.message.proofs.Writes.{many}
use Rattle.message.proofs.width.Goals as goal

pub returns-then-n-lt10 : goal.returns-then-n-lt10
returns-then-n-lt10 c = width_1 _ c.if-n-lt10.true

pub returns-then-n-lt100 : goal.returns-then-n-lt100
returns-then-n-lt100 c = width_2 _ c.if-n-lt10.false c.if-n-lt100.true

pub returns : goal.returns
returns c = many c.args.n _ _ c.max.ensures c.ilog10.ensures.power_le c.ilog10.ensures.next_power_gt
