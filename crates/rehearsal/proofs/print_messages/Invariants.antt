-- `print_messages`: what is left to read gets shorter by each frame.
use Rattle.std.specs.Prelude.{length}
use Rattle.rehearsal.proofs.print_messages.Given as goal

abbrev pub decreases-loop-skip : goal.decreases-loop-skip
decreases-loop-skip g l = length l.rest
