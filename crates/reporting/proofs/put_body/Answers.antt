-- `put_body`: the time in words is that of the call, and the CompIDs are those of the record.
use borrow.Author.Rules.{rules}
use native.Mathlib.Omega.{arith}
use mathlib.Core.Path.{◌≡◌, sym, ◌∙◌}
use lib.ListN.{length, take}
use lib.Seq.{length-take-le}
use Rattle.calendar.proofs.Texts.{utc_before}
use Rattle.moves.specs.Held.{session_of}
use Rattle.moves.proofs.Ranges.{held_is}
use Rattle.report.specs.Layout.{values_given}
use Rattle.reporting.proofs.Sends.{head_some, body_put}
use Rattle.reporting.proofs.put_body.Goals as goal

pub put_head-a-requires : goal.put_head-a-requires
put_head-a-requires c =
    let P = c.requires in
    let r = c.args.r in
    let e : length r.ours ≡ 11 = search rules in
    let f : length r.peer ≡ 11 = search rules in
    let g : length c.utc-stamp.result ≡ 24 = search rules in
    (omega (arith, P.0.ours, length-take-le r.oursLen r.ours (omega (arith, P.0.ours))), omega (arith, P.0.peer, length-take-le r.peerLen r.peer (omega (arith, P.0.peer))), omega (arith, P.0.next), omega (arith, g), P.2)

pub put_own-requires : goal.put_own-requires
put_own-requires c =
    let h = c.put_head-a.ensures in
    let r = c.args.r in
    (omega (arith, h.bytes.next, head_some (take r.oursLen r.ours) (take r.peerLen r.peer) r.next c.utc-stamp.result), omega (arith, h.room), search rules)

pub returns : goal.returns
returns c =
    let a = c.args in
    let P = c.requires in
    let h = c.put_head-a.ensures in
    body_put (session_of a.r) (values_given a.given.words.now a.given.text.now) a.time (sym (held_is a.r.oursLen a.r.ours P.0.ours)) (sym (held_is a.r.peerLen a.r.peer P.0.peer)) (c.utc-stamp.ensures ∙ utc_before _ P.1) (omega (arith, h.bytes.next, head_some (take a.r.oursLen a.r.ours) (take a.r.peerLen a.r.peer) a.r.next c.utc-stamp.result)) h.bytes c.put_own.result c.put_own.ensures
