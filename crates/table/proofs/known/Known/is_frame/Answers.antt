-- The mark of a line says it of the line's tag.
use mathlib.Core.Path.{◌∙◌}
use Rattle.table.proofs.Places.{frame_at}
use Rattle.table.proofs.known.Known.is_frame.Goals as goal

pub returns : goal.returns
returns c = c.bit.ensures ∙ frame_at _ c.args.self.within
