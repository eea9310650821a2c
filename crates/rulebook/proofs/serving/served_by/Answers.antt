use Rattle.rulebook.proofs.Deciding.{deciding}
use Rattle.rulebook.proofs.serving.served_by.Goals as goal

pub returns-then-last-begin : goal.returns-then-last-begin
returns-then-last-begin c = search deciding

pub returns-then-end-eq0 : goal.returns-then-end-eq0
returns-then-end-eq0 c = search deciding

pub returns-then-end-begin : goal.returns-then-end-begin
returns-then-end-begin c = search deciding

pub returns : goal.returns
returns c = search deciding
