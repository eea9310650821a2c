-- `fixgw_new`: nothing is written where the words are not 24; else the record of a new session.
use Rattle.gateway.proofs.Calls.{new_unwritten, new_short, new_left}
use Rattle.gateway.proofs.record.fixgw_new.Goals as goal

pub returns-then-words-ne24 : goal.returns-then-words-ne24
returns-then-words-ne24 c = let a = c.args in rw c.from.ensures (new_unwritten a.ids.now a.words.now a.us.now a.them.now c.if-words-ne24.true)

pub save_new-requires : goal.save_new-requires
save_new-requires c = (c.if-words-ne24.false, new_short _ _ c.new-left.ensures)

pub returns : goal.returns
returns c =
    let saved = c.save_new.ensures in
    new_left _ _ _ _ c.if-words-ne24.false c.new-left.ensures c.number_of.ensures saved.0 saved.1

pub new-left-requires : goal.new-left-requires
new-left-requires c = tt

pub number_of-requires : goal.number_of-requires
number_of-requires c = tt

pub shape_of-words : goal.shape_of-words
shape_of-words c = c.words-1.given
