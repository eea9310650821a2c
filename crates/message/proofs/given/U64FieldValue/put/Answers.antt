-- A number of at most nine digits.
use native.Mathlib.Omega.{arith}
use Rattle.message.proofs.Writes.{few_digits}
use Rattle.message.proofs.given.U64FieldValue.put.Goals as goal

pub put_decimal-requires : goal.put_decimal-requires
put_decimal-requires c = omega (arith, few_digits 8 c.args.self (omega arith))

pub returns-clause-room : goal.returns-clause-room
returns-clause-room c = omega (arith, few_digits 8 c.args.self (omega arith))
