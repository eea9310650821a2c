-- `frame_length`: a body length has at most four digits.
use native.Mathlib.Omega.{arith}
use Rattle.message.proofs.Writes.{few_digits}
use Rattle.message.proofs.frame_length.Goals as goal

pub overflow_add-result : goal.overflow_add-result
overflow_add-result c = omega (arith, few_digits 3 c.args.n (omega arith))

pub overflow_add-result-2 : goal.overflow_add-result-2
overflow_add-result-2 c = omega (arith, few_digits 3 c.args.n (omega arith))
