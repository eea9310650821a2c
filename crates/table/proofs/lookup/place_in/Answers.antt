-- The slot of a tag holds its place.
use Rattle.table.proofs.Places.{slot_place}
use Rattle.table.proofs.lookup.place_in.Goals as goal

pub returns : goal.returns
returns c = slot_place c.args.tag
