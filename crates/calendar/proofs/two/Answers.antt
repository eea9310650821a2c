-- `two`: both digits out of one number.
use Rattle.calendar.proofs.Texts.{two_bytes}
use Rattle.calendar.proofs.two.Goals as goal

pub returns : goal.returns
returns c = two_bytes c.args.n c.requires
