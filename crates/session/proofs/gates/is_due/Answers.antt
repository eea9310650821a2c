-- `is_due`: by a difference, so that nothing can wrap.
use Rattle.session.proofs.Stepping.{due_back, due_rest}
use Rattle.moves.specs.Held.{session_of}
use Rattle.session.proofs.gates.is_due.Goals as goal

pub returns-then-time-r : goal.returns-then-time-r
returns-then-time-r c = due_back (session_of c.args.r) _ c.if-time-r.true

pub returns : goal.returns
returns c = due_rest (session_of c.args.r) _ c.if-time-r.false
