-- `values_of`: the first k places hold what the words say of them.
use mathlib.Core.Path.{◌≡◌}
use Rattle.std.specs.Prelude.{None}
use Rattle.border.specs.Values.{value_at}
use Rattle.border.proofs.Filling.{filled}
use Rattle.border.proofs.values.values_of.Given as goal

abbrev pub invariant-loop-k : goal.invariant-loop-k
invariant-loop-k l = l.values ≡ filled (value_at l.words) None 21 l.k
