-- Rule 7: a header tag after another, before any other, another.
use Rattle.dictionary.proofs.FourToEight.{rule7_late, rule7_early, rule7_other}
use Rattle.dictionary.proofs.rules.rule_7.Goals as goal

pub returns-then-over : goal.returns-then-over
returns-then-over c = rw c.tag.ensures (rule7_late c.is_header.ensures c.if-is_header.true c.if-over.true)

pub returns-then-is_header : goal.returns-then-is_header
returns-then-is_header c = rule7_early c.is_header.ensures c.if-is_header.true c.if-over.false

pub returns : goal.returns
returns c = rule7_other c.is_header.ensures c.if-is_header.false
