-- `is_zero_from`: the answer so far is yes exactly if every byte passed is zero.
use Prim.Native.Nat.{◌+◌}
use Rattle.kept.proofs.Zeros.{Zeros}
use Rattle.kept.proofs.is_zero_from.Given as goal

abbrev pub invariant-loop-b : goal.invariant-loop-b
invariant-loop-b l = Zeros l.place l.n (l.n + l.b-index) l.zeros
