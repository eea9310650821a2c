-- Rule 4: an empty value.
use Rattle.dictionary.proofs.FourToEight.{rule4-empty, rule4_some}
use Rattle.dictionary.proofs.rules.rule_4.Goals as goal

pub returns-then-empty : goal.returns-then-empty
returns-then-empty c = rule4-empty c.if-empty.true

pub returns : goal.returns
returns c = rule4_some c.if-empty.false
