-- `bit`: the bit of a place.
use borrow.Author.Rules.{rules}
use Rattle.writer.specs.code.Held.{bit_of}
use Rattle.writer.proofs.slots.bit.Goals as goal

pub returns : goal.returns
unfolding bit_of
returns c = search rules
