-- The report's walk: before each part the code stands where the words stand (Above), and each way that a part can go is one turn of theirs.
use native.Mathlib.Omega.{arith}
use Rattle.std.proofs.lemmas.Result.{err_from_is_err_and}
use Rattle.dictionary.proofs.Walking.{field_lies}
use Rattle.dictionary.proofs.TopWalk.{starts, unknown_stops, ended_stops, the_field, top_faults, behind_faults, behind_again}
use Rattle.dictionary.proofs.nested.report_walk.Goals as goal

pub loop-item-init : goal.loop-item-init
loop-item-init c = starts c.item_at-item.ensures

pub returns-in_default : goal.returns-in_default
returns-in_default c = ended_stops c.loop-item.invariant c.in_default.not-Field c.ended.ensures

pub returns-in_default-look_up : goal.returns-in_default-look_up
returns-in_default-look_up c =
    unknown_stops c.loop-item.invariant c.in-Field.is c.in_default-look_up.ensures

pub returns-in_err-of_own : goal.returns-in_err-of_own
returns-in_err-of_own c =
    let F = the_field c.in-Some.k c.in-Field.is c.in-Some.ensures in
    let p = err_from_is_err_and c.from_residual.result c.from_residual.ensures.1 in
    rw (p.1, p.2) (top_faults c.loop-item.invariant c.in-Some.k F c.of_own.ensures c.in_err-of_own.was)

pub behind-requires : goal.behind-requires
behind-requires c =
    (c.requires, omega (arith, field_lies c.loop-item.invariant.cut c.in-Field.is))

pub returns-in_err-part : goal.returns-in_err-part
returns-in_err-part c =
    let F = the_field c.in-Some.k c.in-Field.is c.in-Some.ensures in
    let p = err_from_is_err_and c.from_residual-in_err-part.result c.from_residual-in_err-part.ensures.1 in
    rw (p.1, p.2) (behind_faults c.loop-item.invariant c.in-Some.k F c.of_own.ensures c.in_ok-of_own.was c.behind.ensures c.in_err-part.was)

pub loop-item-preserved : goal.loop-item-preserved
loop-item-preserved c =
    let F = the_field c.in-Some.k c.in-Field.is c.in-Some.ensures in
    behind_again c.loop-item.invariant c.in-Some.k F c.of_own.ensures c.in_ok-of_own.was c.behind.ensures c.over_with-over.ensures c.in_ok-part.was
