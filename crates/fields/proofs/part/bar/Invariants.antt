-- `bar`: where the bytes from the start on end is where the bytes from i on end.
use Rattle.fields.proofs.Bars.{Same}
use Rattle.fields.proofs.part.bar.Given as goal

abbrev pub invariant-loop-i : goal.invariant-loop-i
invariant-loop-i l = Same l.s l.at l.i
