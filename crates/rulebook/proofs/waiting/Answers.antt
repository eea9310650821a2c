use Rattle.rulebook.proofs.Choosing.{choosing}
use Rattle.rulebook.proofs.waiting.Goals as goal

pub returns-in_default : goal.returns-in_default
returns-in_default c = search choosing

pub returns-then-n-eq1 : goal.returns-then-n-eq1
returns-then-n-eq1 c = search choosing

pub returns-then-holds : goal.returns-then-holds
returns-then-holds c = search choosing

pub returns-then-n-expected : goal.returns-then-n-expected
returns-then-n-expected c = search choosing

pub returns-then-n-expected-2 : goal.returns-then-n-expected-2
returns-then-n-expected-2 c = search choosing

pub returns : goal.returns
returns c = search choosing
