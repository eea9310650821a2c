-- `put_front`: the mark, the digits of the length, `|` and the body.
use native.Mathlib.Omega.{arith}
use Rattle.frame.specs.Frame.{fixt}
use Rattle.message.proofs.Writes.{chain}
use Rattle.message.proofs.put_front.Goals as goal

pub returns : goal.returns
unfolding fixt
returns c =
    record { bytes = chain c.put_bytes-a.ensures (chain c.put_decimal-b.ensures (chain c.put_byte-c.ensures c.put_bytes.ensures)); room = omega arith }
