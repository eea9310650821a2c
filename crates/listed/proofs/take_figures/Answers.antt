-- `take_figures`: two amounts, and a field that may be absent.
use Rattle.listed.proofs.Taking.{on, stop}
use Rattle.listed.proofs.Sections.{figures_took}
use Rattle.listed.proofs.take_figures.Goals as goal

pub returns-in_err-s : goal.returns-in_err-s
returns-in_err-s c = rw c.from_residual.ensures (figures_took c.in_err-s.ensures stop stop)

pub returns-in_err-s-2 : goal.returns-in_err-s-2
returns-in_err-s-2 c = rw c.from_residual-in_err-s-2.ensures (figures_took c.in_ok-s.ensures (on c.in_err-s-2.ensures) stop)

pub returns : goal.returns
returns c = figures_took c.in_ok-s.ensures (on c.in_ok-s-2.ensures) (on c.take_optional.ensures)
