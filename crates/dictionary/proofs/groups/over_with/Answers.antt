-- A header tag leaves the header as it was, another ends it.
use Rattle.dictionary.proofs.Opening.{over_header, over_other}
use Rattle.dictionary.proofs.groups.over_with.Goals as goal

pub returns-then-is_header : goal.returns-then-is_header
returns-then-is_header c = over_header c.is_header.ensures c.if-is_header.true

pub returns : goal.returns
returns c = over_other c.is_header.ensures c.if-is_header.false
