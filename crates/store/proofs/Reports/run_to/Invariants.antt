-- `run_to`: what the places looked at have left of the run, and those behind make the rest of it.
use Rattle.store.proofs.Running.{RunFrom}
use Rattle.store.proofs.Reports.run_to.Given as goal

abbrev pub invariant-loop-i : goal.invariant-loop-i
invariant-loop-i l = RunFrom l.self.ids.us.now l.self.ids.them.now l.self.store.now l.at l.end l.e l.i
