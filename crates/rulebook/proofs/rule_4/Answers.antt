use Rattle.rulebook.proofs.Deciding.{deciding}
use Rattle.rulebook.proofs.rule_4.Goals as goal

pub returns-in-Some : goal.returns-in-Some
returns-in-Some c = search deciding

pub returns-in-None : goal.returns-in-None
returns-in-None c = search deciding
