-- `byte_from`: no byte passed is x.
use Rattle.std.proofs.Common.{◌+◌, refl, arith}
use Rattle.octets.proofs.Search.{none_one}
use Rattle.octets.proofs.find.byte_from.Goals as goal

pub loop-i-init : goal.loop-i-init
loop-i-init c = (omega arith, (omega arith, λ q x y. absurd (omega arith)))

pub returns-then-s-i : goal.returns-then-s-i
returns-then-s-i c = record { low = omega arith; high = omega arith; none = c.loop-i.invariant.1.1; found = λ h. c.if-s-i.true }

pub returns-then-s-i-2 : goal.returns-then-s-i-2
returns-then-s-i-2 c =
    let a = c.args in
    let s = a.s.now in
    let i = c.loop-i.i in
    let n1 = none_one s a.a i (i + 1) a.x refl c.loop-i.invariant.1.1 c.if-s-i.false in
    record { low = omega arith; high = omega arith; none = n1; found = λ h. c.if-s-i-2.true }

pub returns-then-s-i-3 : goal.returns-then-s-i-3
returns-then-s-i-3 c =
    let a = c.args in
    let s = a.s.now in
    let i = c.loop-i.i in
    let n1 = none_one s a.a i (i + 1) a.x refl c.loop-i.invariant.1.1 c.if-s-i.false in
    let n2 = none_one s a.a (i + 1) (i + 2) a.x (omega arith) (n1) c.if-s-i-2.false in
    record { low = omega arith; high = omega arith; none = n2; found = λ h. c.if-s-i-3.true }

pub returns-then-s-i-4 : goal.returns-then-s-i-4
returns-then-s-i-4 c =
    let a = c.args in
    let s = a.s.now in
    let i = c.loop-i.i in
    let n1 = none_one s a.a i (i + 1) a.x refl c.loop-i.invariant.1.1 c.if-s-i.false in
    let n2 = none_one s a.a (i + 1) (i + 2) a.x (omega arith) (n1) c.if-s-i-2.false in
    let n3 = none_one s a.a (i + 2) (i + 3) a.x (omega arith) (n2) c.if-s-i-3.false in
    record { low = omega arith; high = omega arith; none = n3; found = λ h. c.if-s-i-4.true }

pub loop-i-preserved : goal.loop-i-preserved
loop-i-preserved c =
    let a = c.args in
    let s = a.s.now in
    let i = c.loop-i.i in
    let n1 = none_one s a.a i (i + 1) a.x refl c.loop-i.invariant.1.1 c.if-s-i.false in
    let n2 = none_one s a.a (i + 1) (i + 2) a.x (omega arith) (n1) c.if-s-i-2.false in
    let n3 = none_one s a.a (i + 2) (i + 3) a.x (omega arith) (n2) c.if-s-i-3.false in
    let n4 = none_one s a.a (i + 3) (i + 4) a.x (omega arith) (n3) c.if-s-i-4.false in
    (omega arith, (omega arith, n4))

pub loop-i-2-init : goal.loop-i-2-init
loop-i-2-init c = c.loop-i.invariant

pub returns-then-s-i-5 : goal.returns-then-s-i-5
returns-then-s-i-5 c =
    let l = c.loop-i-2 in record { low = omega arith; high = omega arith; none = l.invariant.1.1; found = λ h. c.if-s-i-5.true }

pub loop-i-2-preserved : goal.loop-i-2-preserved
loop-i-2-preserved c =
    let a = c.args in
    (omega arith, (omega arith, none_one a.s.now a.a c.loop-i-2.i _ a.x refl c.loop-i-2.invariant.1.1 c.if-s-i-5.false))

pub returns : goal.returns
returns c =
    let l = c.loop-i-2 in record { low = omega arith; high = omega arith; none = l.invariant.1.1; found = λ h. absurd (omega arith) }
