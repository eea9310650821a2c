-- `read_decimal`: no digits, zeros in front, or a plain number that leads.
use Rattle.decimals.proofs.Making.{no_digits}
use Rattle.decimals.proofs.read_decimal.Goals as goal

pub returns-then-k-eq0 : goal.returns-then-k-eq0
returns-then-k-eq0 c = no_digits _ c.row_of-a.ensures c.if-k-eq0.true
