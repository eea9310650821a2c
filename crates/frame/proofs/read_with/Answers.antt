-- `read_with`: no position before the one in hand is live.
use Rattle.std.proofs.Common.{arith}
use Rattle.frame.specs.Frame.{rule_of}
use Rattle.frame.proofs.Search.{dead_further, dead_past, hand_frame, hand_none, hand_open}
use Rattle.frame.proofs.read_with.Goals as goal

pub returns-then-n-q : goal.returns-then-n-q
returns-then-n-q c =
    let a = c.args in
    let R = rule_of a.mark.now in
    let D = dead_further R a.s.now c.requires c.positions.p _ c.next_start-q.ensures c.positions.invariant.1 in
    hand_none R a.s.now (λ q l. D q (omega arith))

pub returns-in-Ok : goal.returns-in-Ok
returns-in-Ok c =
    let a = c.args in
    let R = rule_of a.mark.now in
    hand_frame R a.s.now c.next_start-q.result _ c.in-Ok.ensures (dead_further R a.s.now c.requires c.positions.p _ c.next_start-q.ensures c.positions.invariant.1)

pub positions-preserved : goal.positions-preserved
positions-preserved c =
    let a = c.args in
    let R = rule_of a.mark.now in
    let w = rw c.in-Err-Wrong.field-0-is at c.in-Err-Wrong.ensures in
    (w.to, dead_past R a.s.now c.next_start-q.result _ w (dead_further R a.s.now c.requires c.positions.p _ c.next_start-q.ensures c.positions.invariant.1))

pub returns-in-Err-Short : goal.returns-in-Err-Short
returns-in-Err-Short c =
    let a = c.args in
    let R = rule_of a.mark.now in
    let s = a.s.now in
    let o = rw c.in-Err-Short.field-0-is at c.in-Err-Short.ensures in
    hand_open R s c.next_start-q.result (omega arith) (dead_further R s c.requires c.positions.p _ c.next_start-q.ensures c.positions.invariant.1) o
