-- The worked replies of specs/Cases.antt, by computation.
use mathlib.Core.Path.{refl}
use Rattle.octets.specs.Bytes.{decimal}
use Rattle.table.specs.Dictionary.{code35, fields}
use Rattle.message.specs.Message.{own, order}
use Rattle.replies.specs.Cases.{Cases}

pub cases : Cases
unfolding order own code35 fields decimal
cases = record { without_112 = refl; with_112 = refl; order_4 = refl }
