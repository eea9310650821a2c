-- `is_acceptable`: the 34, the CompIDs, the verdict.
use Rattle.moves.specs.Held.{session_of}
use Rattle.rulebook.proofs.Choosing.{accepts_none, accepts_strange, accepts_by}
use Rattle.rulebook.proofs.is_acceptable.Goals as goal

pub returns-then-is_none : goal.returns-then-is_none
returns-then-is_none c = accepts_none (session_of c.args.r) _ c.number_at.ensures c.is_none.ensures c.if-is_none.true

pub returns-then-is_some : goal.returns-then-is_some
returns-then-is_some c = accepts_strange (session_of c.args.r) _ c.number_at.ensures c.is_none.ensures c.if-is_none.false c.strange_tag.ensures c.is_some.ensures c.if-is_some.true

pub returns : goal.returns
returns c = accepts_by (session_of c.args.r) _ c.number_at.ensures c.is_none.ensures c.if-is_none.false c.strange_tag.ensures c.is_some.ensures c.if-is_some.false c.verdict_on.ensures c.is_ok.ensures.value
