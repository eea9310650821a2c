-- `put_digits`: the digits from the right; those that are still to come are the last ones of what is left of the number.
use native.Mathlib.Omega.{arith}
use Prim.Native.Nat.{◌-◌}
use native.Mathlib.Nat.{div-one}
use mathlib.Core.Path.{◌≡◌, refl, sym, ◌∙◌}
use Rattle.octets.specs.Bytes.{padded}
use Rattle.message.proofs.Leftward.{left_all, left_more, left_none, rest_more}
use Rattle.message.proofs.put_digits.Goals as goal

pub loop-i-init : goal.loop-i-init
loop-i-init c = (left_all _ c.args.at c.args.k c.args.n, refl)

pub loop-i-preserved : goal.loop-i-preserved
loop-i-preserved c =
    let l = c.loop-i in
    let a = c.args in
    (left_more _ _ (padded a.k a.n) a.at l.i _ l.rest (omega arith) l.invariant.0, rest_more l.i (l.i - 1) l.rest _ (omega arith) l.invariant.1)

pub returns : goal.returns
returns c =
    let l = c.loop-i in
    let a = c.args in
    let z : l.i ≡ 0 = omega arith in
    record { bytes = left_none _ _ a.at a.k a.n l.rest (rw z at l.invariant.0); rest = sym (div-one l.rest) ∙ (rw z at l.invariant.1) }
