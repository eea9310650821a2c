-- `heads_of`: what was met stands, and the rest is looked for from `at` on.
use mathlib.Core.Path.{sym}
use Rattle.fields.proofs.Heading.{mets_next, mets_complete, mets_end}
use Rattle.fields.proofs.header.heads_of.Goals as goal

pub returns-then-is_complete : goal.returns-then-is_complete
returns-then-is_complete c =
    let l = c.loop-at in
    mets_complete _ _ _ (sym c.if-is_complete.ensures) (mets_next _ l.at l.h _ c.loop-at-test.true c.bar-end.ensures c.noted-h.ensures l.invariant)

pub loop-at-preserved : goal.loop-at-preserved
loop-at-preserved c =
    let l = c.loop-at in
    mets_next _ l.at l.h _ c.loop-at-test.true c.bar-end.ensures c.noted-h.ensures l.invariant

pub returns : goal.returns
returns c = mets_end _ _ _ c.loop-at-test.false c.loop-at.invariant
