-- The list of each group.
use Rattle.std.proofs.Common.{arith}
use borrow.Author.Tests.{ne_eqb}
use mathlib.Core.Path.{refl}
use Rattle.table.specs.Dictionary.{№453, №580, №552, header, fields}
use Rattle.table.specs.code.Held.{all_rows, tags}
use Rattle.table.proofs.rows.lacking_member.Goals as goal

pub returns-in-453 : goal.returns-in-453
unfolding all_rows tags №453 №580 №552 header fields
returns-in-453 c = rw c.in-453.is (c.lacking.ensures №453.members refl)

pub returns-in-580 : goal.returns-in-580
unfolding all_rows tags №453 №580 №552 header fields
returns-in-580 c = rw c.in-580.is (c.lacking-in-580.ensures №580.members refl)

pub returns-in_default : goal.returns-in_default
unfolding all_rows tags №453 №580 №552 header fields
returns-in_default c =
    rw (ne_eqb c.args.group 453 (omega arith), ne_eqb c.args.group 580 (omega arith)) (c.lacking-in_default.ensures №552.members refl)
