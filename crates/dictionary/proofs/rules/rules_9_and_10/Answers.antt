-- Rules 9 and 10 by the judgement on a value of the tag's kind.
use Rattle.dictionary.proofs.Saying.{judged_well, judged_ill}
use Rattle.dictionary.proofs.rules.rules_9_and_10.Goals as goal

pub returns-in_default : goal.returns-in_default
returns-in_default c = judged_well c.judge.ensures.by_rows c.in_default.is

pub returns : goal.returns
returns c = rw (c.number.ensures, c.tag.ensures) (judged_ill c.judge.ensures.by_rows c.in-Err.is)
