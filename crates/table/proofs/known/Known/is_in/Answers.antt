-- The bit of a message.
use mathlib.Core.Path.{◌∙◌, ap}
use Rattle.table.specs.code.Held.{bit_of, entry_at}
use Rattle.table.proofs.Types.{number_is}
use Rattle.table.proofs.Places.{in_message_at}
use Rattle.table.proofs.known.Known.is_in.Goals as goal

pub returns : goal.returns
returns c =
    c.bit.ensures
    ∙ ap (bit_of (entry_at c.args.self.place).marks) (number_is c.args.m)
    ∙ in_message_at _ c.args.self.within c.args.m
