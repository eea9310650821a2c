-- A judgement has one outcome: two that tell the same number are the same. Assumes nothing.
use Rattle.std.proofs.Common.{ℕ, ◌≡◌, Result}
use Rattle.fault.specs.declared.Fault.{Fault}
use Rattle.fault.specs.Fault.{Tells}
use Rattle.fault.proofs.Numbers.{tells_one}

pub judged_one : (x y : Result (Unit {0}) Fault) {n : ℕ} → Tells x n → Tells y n → x ≡ y
judged_one x y e f = tells_one x y e f
