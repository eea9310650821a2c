-- At the next part, or behind the group.
use Rattle.std.proofs.lemmas.Result.{err_from_is_err_and}
use Rattle.dictionary.proofs.TopWalk.{behind_none, behind-group}
use Rattle.dictionary.proofs.nested.behind.Goals as goal

pub returns-in_default : goal.returns-in_default
returns-in_default c = behind_none c.requires.1 c.opened.ensures c.in_default.is c.item_at.ensures

pub returns-in_err-at : goal.returns-in_err-at
returns-in_err-at c =
    let p = err_from_is_err_and c.from_residual.result c.from_residual.ensures.1 in
    rw (p.1, p.2) (behind-group c.opened.ensures c.in-Some.is c.group_walk.ensures c.in_err-at.was)

pub returns : goal.returns
returns c = behind-group c.opened.ensures c.in-Some.is c.group_walk.ensures c.in_ok-at.was
