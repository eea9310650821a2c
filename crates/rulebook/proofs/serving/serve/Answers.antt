use Rattle.rulebook.proofs.Deciding.{deciding}
use Rattle.rulebook.proofs.serving.serve.Goals as goal

pub returns-in-Ok : goal.returns-in-Ok
returns-in-Ok c = search deciding

pub returns-in-Err : goal.returns-in-Err
returns-in-Err c = search deciding
