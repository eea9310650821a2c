use Rattle.rulebook.proofs.Deciding.{deciding}
use Rattle.rulebook.proofs.rule_3.Goals as goal

pub returns-in-Err : goal.returns-in-Err
returns-in-Err c = search deciding

pub returns-then-to-r : goal.returns-then-to-r
returns-then-to-r c = search deciding

pub returns : goal.returns
returns c = search deciding
