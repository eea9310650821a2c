-- A count field opens its group, another none.
use Rattle.dictionary.proofs.Opening.{opened_count, opened_other}
use Rattle.dictionary.proofs.groups.opened.Goals as goal

pub returns-then-not-is_count : goal.returns-then-not-is_count
returns-then-not-is_count c = opened_other c.args.k.within c.is_count.ensures c.if-not-is_count.true

pub returns : goal.returns
returns c = rw c.tag.ensures (opened_count c.args.k.within c.is_count.ensures c.if-not-is_count.false c.count_of.ensures)
