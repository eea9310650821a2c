-- The group of a line's tag.
use Rattle.table.proofs.Places.{member_at}
use Rattle.table.proofs.known.Known.member.Goals as goal

pub returns : goal.returns
returns c = rw c.entry.ensures (member_at c.args.self.place c.args.self.within)
