-- The header's list.
use mathlib.Core.Path.{refl}
use Rattle.table.specs.Dictionary.{№453, №580, №552, header, fields}
use Rattle.table.specs.code.Held.{all_rows, tags}
use Rattle.table.proofs.rows.lacking_header.Goals as goal

pub returns : goal.returns
unfolding all_rows tags №453 №580 №552 header fields
returns c = c.lacking.ensures header refl
