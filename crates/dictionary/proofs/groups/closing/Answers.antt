-- Rule 1: the two checks at the end of a group, in their order.
use Rattle.std.proofs.lemmas.Result.{err_from_is_err_and}
use Rattle.dictionary.proofs.Ending.{closing_lacks, closing_counts, closing_miscounts}
use Rattle.dictionary.proofs.groups.closing.Goals as goal

pub returns-in_err-incomplete : goal.returns-in_err-incomplete
returns-in_err-incomplete c =
    let p = err_from_is_err_and c.from_residual.result c.from_residual.ensures.1 in
    rw (p.1, p.2)
    (closing_lacks c.incomplete.ensures c.in_err-incomplete.was)

pub returns-then-g : goal.returns-then-g
returns-then-g c = closing_counts c.incomplete.ensures c.in_ok-incomplete.was c.if-g.true

pub returns : goal.returns
returns c = closing_miscounts c.incomplete.ensures c.in_ok-incomplete.was c.if-g.false
