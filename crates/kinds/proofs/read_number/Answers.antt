-- `read_number`: at each `return` the tests that led there say what the bytes are.
use native.Mathlib.Omega.{arith}
use mathlib.Core.Path.{◌∙◌, ap}
use Rattle.std.proofs.Common.{ℕ, Some}
use Rattle.kinds.proofs.Values.{number-good, number_bad, read_all, read_other}
use Rattle.kinds.proofs.read_number.Goals as goal

pub returns-then-n-eq0 : goal.returns-then-n-eq0
returns-then-n-eq0 c = number_bad _ (λ N. omega (arith, N.some_digit))

pub returns-then-d-n : goal.returns-then-d-n
returns-then-d-n c =
    let broken = read_other _ _ _ (c.digits-d.ensures.inside (omega arith) (omega arith)) c.if-d-n.true in
    number_bad _ (λ N. broken N.few N.whole)

pub returns : goal.returns
returns c =
    let N = read_all _ _ _ (c.digits-d.ensures.inside (omega arith) (omega arith)) c.if-d-n.false (omega arith) in
    ap (λ (n : ℕ). Some n) N.0 ∙ number-good _ N.1
