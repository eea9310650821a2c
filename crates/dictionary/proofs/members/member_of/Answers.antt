-- A tag that is not in the dictionary.
use Rattle.dictionary.proofs.Reported.{head_unknown}
use Rattle.dictionary.proofs.members.member_of.Goals as goal

pub returns-in_err-k : goal.returns-in_err-k
returns-in_err-k c = rw c.from_residual.ensures (head_unknown c.in-Field.is c.in_err-k.ensures)
