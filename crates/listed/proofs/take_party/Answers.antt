-- `take_party`: three fields.
use Rattle.listed.proofs.Taking.{on, stop}
use Rattle.listed.proofs.Sections.{party_took}
use Rattle.listed.proofs.take_party.Goals as goal

pub returns-in_err-s : goal.returns-in_err-s
returns-in_err-s c = rw c.from_residual.ensures (party_took c.in_err-s.ensures stop stop)

pub returns-in_err-s-2 : goal.returns-in_err-s-2
returns-in_err-s-2 c = rw c.from_residual-in_err-s-2.ensures (party_took c.in_ok-s.ensures (on c.in_err-s-2.ensures) stop)

pub returns : goal.returns
returns c = party_took c.in_ok-s.ensures (on c.in_ok-s-2.ensures) (on c.take_field-3.ensures)
