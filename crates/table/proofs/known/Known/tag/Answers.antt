-- The order of the table's lines is that of the tags.
use mathlib.Core.Path.{◌∙◌, ap}
use Rattle.table.proofs.Places.{entry_tag}
use Rattle.table.specs.declared.lines.Entry.{Entry}
use Rattle.table.proofs.known.Known.tag.Goals as goal

pub returns : goal.returns
returns c = ap (λ (e : Entry). e.tag) c.entry.ensures ∙ entry_tag _ c.args.self.within
