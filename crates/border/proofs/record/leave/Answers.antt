-- `leave`: the state is saved, the number is the answer's.
use Rattle.border.proofs.record.leave.Goals as goal

pub returns : goal.returns
returns c = (c.number_of.ensures, c.save.ensures)

pub save-requires : goal.save-requires
save-requires c = c.requires
