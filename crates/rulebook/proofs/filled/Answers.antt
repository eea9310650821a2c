use Rattle.rulebook.proofs.Deciding.{deciding}
use Rattle.rulebook.proofs.filled.Goals as goal

pub returns-then-new-n : goal.returns-then-new-n
returns-then-new-n c = search deciding

pub returns : goal.returns
returns c = search deciding
