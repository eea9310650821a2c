-- `put_tag`: the digits, and `=`.
use native.Mathlib.Omega.{arith}
use Rattle.message.proofs.Writes.{chain, few_digits}
use Rattle.message.proofs.put_tag.Goals as goal

pub put_decimal-a-requires : goal.put_decimal-a-requires
put_decimal-a-requires c = omega (arith, few_digits 4 c.args.tag (omega arith))

pub put_byte-requires : goal.put_byte-requires
put_byte-requires c = omega (arith, few_digits 4 c.args.tag (omega arith))

pub returns : goal.returns
returns c =
    record { bytes = chain c.put_decimal-a.ensures c.put_byte.ensures; room = omega (arith, few_digits 4 c.args.tag (omega arith)) }
