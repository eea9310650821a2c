-- The group walk and the instance walk call each other, each with fewer bytes left than it was called with; each keeps what the words say.
use Rattle.std.proofs.Common.{arith}
use Rattle.std.proofs.lemmas.Result.{err_from_is_err_and}
use Rattle.dictionary.proofs.Nesting.{member_lies, the_member, the_other}
use Rattle.dictionary.proofs.TwoWalks.{marks_long, group_ends, group_lacks, group_faults, group_breaks, group_again, instance_ends, instance_faults, instance_joins, instance_breaks, instance_nests}
use Rattle.dictionary.proofs.nested.+group_walk_instance_walk.Goals as goal

pub group_walk-returns-in_err-closing : goal.group_walk-returns-in_err-closing
group_walk-returns-in_err-closing t c =
    let p = err_from_is_err_and c.from_residual.result c.from_residual.ensures.1 in
    rw (p.1, p.2) (group_lacks c.loop-head.invariant (the_other c.member_of.ensures c.in_default.is) c.closing.ensures c.in_err-closing.was)

pub group_walk-returns-in_default : goal.group_walk-returns-in_default
group_walk-returns-in_default t c = group_ends c.loop-head.invariant (the_other c.member_of.ensures c.in_default.is) c.closing.ensures c.in_ok-closing.was

pub group_walk-returns-in_err-of_member : goal.group_walk-returns-in_err-of_member
group_walk-returns-in_err-of_member t c =
    let p = err_from_is_err_and c.from_residual-in_err-of_member.result c.from_residual-in_err-of_member.ensures.1 in
    rw (p.1, p.2) (group_faults c.loop-head.invariant (the_member c.member_of.ensures c.in-Some.is) c.of_member.ensures c.in_err-of_member.was)

pub group_walk-instance_walk-requires : goal.group_walk-instance_walk-requires
group_walk-instance_walk-requires t c =
    let W = c.loop-head.invariant in
    let M = the_member c.member_of.ensures c.in-Some.is in
    let l = member_lies W.cut M in
    let P = c.requires in
    (omega (arith, W.behind, l), (P.0, omega (arith, l), marks_long M))

pub group_walk-returns-in_err-ended : goal.group_walk-returns-in_err-ended
group_walk-returns-in_err-ended t c =
    let p = err_from_is_err_and c.from_residual-in_err-ended.result c.from_residual-in_err-ended.ensures.1 in
    rw (p.1, p.2) (group_breaks c.loop-head.invariant (the_member c.member_of.ensures c.in-Some.is) c.of_member.ensures c.in_ok-of_member.was c.begun-g.ensures c.instance_walk.ensures c.in_err-ended.was)

pub group_walk-loop-head-preserved : goal.group_walk-loop-head-preserved
group_walk-loop-head-preserved t c =
    group_again c.loop-head.invariant (the_member c.member_of.ensures c.in-Some.is) c.of_member.ensures c.in_ok-of_member.was c.begun-g.ensures c.instance_walk.ensures c.in_ok-ended.was

pub instance_walk-returns-in_default : goal.instance_walk-returns-in_default
instance_walk-returns-in_default t c = instance_ends c.loop-head.invariant (the_other c.member_of.ensures c.in_default.is)

pub instance_walk-returns-in_err-of_member : goal.instance_walk-returns-in_err-of_member
instance_walk-returns-in_err-of_member t c =
    let p = err_from_is_err_and c.from_residual.result c.from_residual.ensures.1 in
    rw (p.1, p.2) (instance_faults c.loop-head.invariant (the_member c.member_of.ensures c.in-Some.is) c.of_member.ensures c.in_err-of_member.was)

pub instance_walk-loop-head-preserved-in_default-opened : goal.instance_walk-loop-head-preserved-in_default-opened
instance_walk-loop-head-preserved-in_default-opened t c =
    instance_joins c.loop-head.invariant (the_member c.member_of.ensures c.in-Some.is) c.of_member.ensures c.in_ok-of_member.was c.if-head.false c.opened.ensures c.in_default-opened.is c.item_at-item-in_default-opened.ensures

pub instance_walk-returns-in_err-ended : goal.instance_walk-returns-in_err-ended
instance_walk-returns-in_err-ended t c =
    let p = err_from_is_err_and c.from_residual-in_err-ended.result c.from_residual-in_err-ended.ensures.1 in
    rw (p.1, p.2) (instance_breaks c.loop-head.invariant (the_member c.member_of.ensures c.in-Some.is) c.of_member.ensures c.in_ok-of_member.was c.if-head.false c.opened.ensures c.in-Some-opened.is c.group_walk.ensures c.in_err-ended.was)

pub instance_walk-loop-head-preserved : goal.instance_walk-loop-head-preserved
instance_walk-loop-head-preserved t c =
    instance_nests c.loop-head.invariant (the_member c.member_of.ensures c.in-Some.is) c.of_member.ensures c.in_ok-of_member.was c.if-head.false c.opened.ensures c.in-Some-opened.is c.group_walk.ensures c.in_ok-ended.was
