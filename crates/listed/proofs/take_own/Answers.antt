-- `take_own`: all sections.
use Rattle.listed.proofs.Taking.{on, stop}
use Rattle.listed.proofs.Whole.{own_took}
use Rattle.listed.proofs.take_own.Goals as goal

pub returns-in_err-s : goal.returns-in_err-s
returns-in_err-s c = rw c.from_residual.ensures (own_took c.in_err-s.ensures stop stop stop stop)

pub returns-in_err-s-2 : goal.returns-in_err-s-2
returns-in_err-s-2 c = rw c.from_residual-in_err-s-2.ensures (own_took c.in_ok-s.ensures (on c.in_err-s-2.ensures) stop stop stop)

pub returns-in_err-s-3 : goal.returns-in_err-s-3
returns-in_err-s-3 c = rw c.from_residual-in_err-s-3.ensures (own_took c.in_ok-s.ensures (on c.in_ok-s-2.ensures) (on c.in_err-s-3.ensures) stop stop)

pub returns-in_err-s-4 : goal.returns-in_err-s-4
returns-in_err-s-4 c = rw c.from_residual-in_err-s-4.ensures (own_took c.in_ok-s.ensures (on c.in_ok-s-2.ensures) (on c.in_ok-s-3.ensures) (on c.in_err-s-4.ensures) stop)

pub returns : goal.returns
returns c = own_took c.in_ok-s.ensures (on c.in_ok-s-2.ensures) (on c.in_ok-s-3.ensures) (on c.in_ok-s-4.ensures) (on c.take_parties.ensures)
