-- The mark of a line says it of the line's tag.
use mathlib.Core.Path.{◌∙◌}
use Rattle.table.proofs.Places.{header_at}
use Rattle.table.proofs.known.Known.is_header.Goals as goal

pub returns : goal.returns
returns c = c.bit.ensures ∙ header_at _ c.args.self.within
