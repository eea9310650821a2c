-- `put_decimal`: its last digits are all of them.
use Rattle.octets.proofs.Rightmost.{all_padded}
use Rattle.message.proofs.Writes.{reword}
use Rattle.message.proofs.put_decimal.Goals as goal

pub returns : goal.returns
returns c = reword (all_padded _ _ c.width-k.ensures) c.put_digits.ensures.bytes
