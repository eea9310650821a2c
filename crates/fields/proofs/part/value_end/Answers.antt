-- `value_end`: eight bytes one by one, sixteen at once, and the last ones by `bar`.
use native.Mathlib.Omega.{arith}
use native.Mathlib.Nat.{add-zero}
use Prim.Native.Nat.{ℕ, ◌+◌}
use mathlib.Core.Path.{◌≡◌, refl, sym, subst}
use Rattle.fields.proofs.Bars.{Same, passed, passed_all, met}
use Rattle.fields.proofs.part.value_end.Goals as goal

pub loop-k-init : goal.loop-k-init
loop-k-init c = subst (Same _ _) (sym (add-zero _)) refl

pub returns-then-s-at-eq1 : goal.returns-then-s-at-eq1
returns-then-s-at-eq1 c =
    let a = c.args in
    met a.s.now a.at (a.at + c.loop-k.k) c.loop-k.invariant (omega arith) c.if-s-at-eq1.true

pub loop-k-preserved : goal.loop-k-preserved
loop-k-preserved c =
    let a = c.args in
    passed a.s.now a.at (a.at + c.loop-k.k) (a.at + (c.loop-k.k + 1)) c.loop-k.invariant (omega arith) c.if-s-at-eq1.false (omega arith)

pub loop-i-init : goal.loop-i-init
loop-i-init c =
    let k : c.loop-k.k ≡ 8 = omega arith in
    (omega arith, subst (λ (n : ℕ). Same c.args.s.now c.args.at (c.args.at + n)) k c.loop-k.invariant)

pub loop-i-preserved : goal.loop-i-preserved
loop-i-preserved c =
    let l = c.loop-i in
    let a = c.args in
    (omega arith, passed_all a.s.now a.at l.i 16 l.invariant.1 (omega arith) (λ k h. c.calm.ensures c.if-calm.true k (omega arith)))
