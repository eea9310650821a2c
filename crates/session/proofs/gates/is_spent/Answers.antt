-- `is_spent`: refusal 5, by E and then by the next number out.
use Rattle.session.proofs.Gating.{spent_expected, spent_next}
use Rattle.moves.specs.Held.{session_of}
use Rattle.session.proofs.gates.is_spent.Goals as goal

pub returns-then-r-gt-LAST_NUMBER : goal.returns-then-r-gt-LAST_NUMBER
returns-then-r-gt-LAST_NUMBER c = spent_expected (session_of c.args.r) c.if-r-gt-LAST_NUMBER.true

pub returns-else-r-gt-LAST_NUMBER : goal.returns-else-r-gt-LAST_NUMBER
returns-else-r-gt-LAST_NUMBER c = spent_next (session_of c.args.r) c.if-r-gt-LAST_NUMBER.false
