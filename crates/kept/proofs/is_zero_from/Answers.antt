-- `is_zero_from`: the answer so far is yes exactly if every byte passed is zero.
use native.Mathlib.Omega.{arith}
use Prim.Native.Nat.{ℕ, ◌+◌}
use mathlib.Core.Path.{◌≡◌, subst}
use lib.ListN.{length}
use Rattle.kept.proofs.Zeros.{Zeros, zeros_stand}
use Rattle.kept.proofs.is_zero_from.Goals as goal

pub returns : goal.returns
returns c =
    let a = c.args in
    let l = c.loop-b in
    let e : a.n + l.b-index ≡ length a.place.now = omega arith in
    zeros_stand a.place.now a.n l.zeros (omega arith) (subst (λ (i : ℕ). Zeros a.place.now a.n i l.zeros) e l.invariant)
