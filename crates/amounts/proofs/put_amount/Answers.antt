-- `put_amount`: the digits alone, or those behind the point, the point and those before it.
use native.Mathlib.Omega.{arith}
use Prim.Native.Nat.{◌+◌}
use lib.ListN.{length-set}
use mathlib.Core.Path.{refl}
use Rattle.amounts.proofs.Placing.{fifteen, pointed}
use Rattle.amounts.proofs.put_amount.Goals as goal

pub returns-clause-bytes : goal.returns-clause-bytes
returns-clause-bytes c =
    let a = c.args in
    pointed c.max-before.result a.places a.whole _ (omega arith) (omega arith) c.put_digits-front.ensures.rest c.put_digits-front.ensures.bytes (record { next = refl; bytes = refl }) c.put_digits.ensures.bytes

pub put_digits-requires : goal.put_digits-requires
put_digits-requires c = omega (arith, fifteen c.args.whole (omega arith), length-set c.put_digits-front.new.buf (c.args.at + c.max-before.result) 46)
