-- The line at a place.
use Rattle.std.proofs.lemmas.List.{get_or_default}
use Rattle.table.specs.code.Held.{entry_at, no_entry}
use Rattle.table.specs.declared.lines.TheConstants.{TABLE}
use Rattle.table.proofs.known.Known.entry.Goals as goal

pub returns : goal.returns
unfolding entry_at
returns c = get_or_default TABLE c.args.self.place _ no_entry c.args.self.within
