-- `calm_to`: x stands nowhere in what was stepped over.
use Rattle.std.proofs.Common.{arith}
use Rattle.octets.proofs.Search.{none_further}
use Rattle.octets.proofs.find.calm_to.Goals as goal

pub loop-i-init : goal.loop-i-init
loop-i-init c = (omega arith, (omega arith, λ q l h. absurd (omega arith)))

pub returns-then-not-calm : goal.returns-then-not-calm
returns-then-not-calm c =
    let l = c.loop-i in record { low = omega arith; high = omega arith; none = l.invariant.1.1 }

pub loop-i-preserved : goal.loop-i-preserved
loop-i-preserved c =
    let a = c.args in
    (omega arith, (omega arith, none_further a.s.now a.a c.loop-i.i a.n a.x c.loop-i.invariant.1.1 (c.calm.ensures c.if-not-calm.false)))

pub returns : goal.returns
returns c = let l = c.loop-i in record { low = omega arith; high = omega arith; none = l.invariant.1.1 }

pub loop-i-smaller : goal.loop-i-smaller
loop-i-smaller c = omega arith
