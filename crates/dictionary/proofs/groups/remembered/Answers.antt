-- What is remembered of a field: outside groups, as the first member of an instance, or as another.
use Rattle.dictionary.proofs.Turns.{notes, begins_instance, joins_instance}
use Rattle.dictionary.proofs.groups.remembered.Goals as goal

pub returns-in_default : goal.returns-in_default
returns-in_default c =
    let P = c.requires in
    notes c.args.k.within P.0 P.1 c.in_default.ensures c.over_with.ensures c.opened.ensures

pub returns-then-at : goal.returns-then-at
returns-then-at c =
    let P = c.requires in
    begins_instance c.args.k.within P.0 P.1 c.in-Some.ensures c.if-at.true c.begun.ensures

pub returns : goal.returns
returns c =
    let P = c.requires in
    joins_instance c.args.k.within P.0 P.1 c.in-Some.ensures c.if-at.false
