-- `values_of`: the first k places hold what the words say of them.
use mathlib.Core.Path.{refl}
use native.Mathlib.Omega.{arith}
use Rattle.border.proofs.Filling.{next_filled, all_filled}
use Rattle.border.proofs.values.values_of.Goals as goal

pub loop-k-init : goal.loop-k-init
loop-k-init c = refl

pub loop-k-preserved : goal.loop-k-preserved
loop-k-preserved c = next_filled c.args.words.now c.loop-k.k (omega arith) c.then_some.ensures c.loop-k.invariant

pub returns : goal.returns
returns c = all_filled c.args.words.now {k = c.loop-k.k} (omega arith) c.loop-k.invariant
