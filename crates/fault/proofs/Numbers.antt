-- The number of a finding: 0 of none alone.
use Rattle.std.proofs.Common.{ℕ, ◌≡◌, ◌<◌, Result, Ok, Err, refl, arith, eqb, is_ok}
use Rattle.fault.specs.declared.Fault.{Fault}
use Rattle.fault.specs.declared.Fault.TheVariants.{Value, Form}
use Rattle.fault.specs.Fault.{number, reason, Tells}

pub some_number : (e : Fault) → 0 < number e
some_number Form = omega arith
some_number Value = omega arith

-- nothing is found where the finding's number is 0
pub ok_is : (r : Result (Unit {0}) Fault) → is_ok r ≡ eqb (reason r) 0
ok_is (Ok u) = refl
ok_is (Err Form) = refl
ok_is (Err Value) = refl

-- two that tell the same number are the same
pub tells_one : (x y : Result (Unit {0}) Fault) {n : ℕ} → Tells x n → Tells y n → x ≡ y
tells_one (Ok u) (Ok v) e f = refl
tells_one (Ok u) (Err Form) e f = absurd (omega (arith, e, f))
tells_one (Ok u) (Err Value) e f = absurd (omega (arith, e, f))
tells_one (Err Form) (Ok u) e f = absurd (omega (arith, e, f))
tells_one (Err Value) (Ok u) e f = absurd (omega (arith, e, f))
tells_one (Err Form) (Err Form) e f = refl
tells_one (Err Form) (Err Value) e f = absurd (omega (arith, e, f))
tells_one (Err Value) (Err Form) e f = absurd (omega (arith, e, f))
tells_one (Err Value) (Err Value) e f = refl
