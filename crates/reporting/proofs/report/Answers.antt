-- `report`: 11, 13, 14, 7, 2, 5, or what the values come to.
use mathlib.Core.Path.{sym, ◌∙◌}
use Rattle.moves.specs.Held.{session_of}
use Rattle.report.specs.Layout.{values_given}
use Rattle.session.proofs.Stepping.{ready_by}
use Rattle.reporting.proofs.Gates.{report_shut, report_sent, opened}
use Rattle.reporting.proofs.report.Goals as goal

pub returns-in-Err : goal.returns-in-Err
returns-in-Err c = let a = c.args in report_shut a.r (values_given a.given.words.now a.given.text.now) a.time a.buf.now a.store.now c.is_store.ensures c.in-Err.ensures c.refused.ensures

pub send-requires : goal.send-requires
send-requires c =
    let P = opened (session_of c.args.r) _ _ c.in_default.ensures in
    (ready_by c.args.r P.ranged P.unspent, P.ranged, sym c.is_store.ensures ∙ P.lent, P.timed)

pub reported-requires : goal.reported-requires
reported-requires c = let P = opened (session_of c.args.r) _ _ c.in_default.ensures in ready_by c.args.r P.ranged P.unspent

pub returns-in-Err-send : goal.returns-in-Err-send
returns-in-Err-send c =
    let a = c.args in
    let S = c.in-Err-send.ensures in
    report_sent a.r (values_given a.given.words.now a.given.text.now) a.time a.buf.now a.store.now c.is_store.ensures c.in_default.ensures (record { answered = c.refused-in-Err-send.ensures ∙ S.sent.answered; buffer = S.sent.buffer }) S.kept

pub returns-in-Ok : goal.returns-in-Ok
returns-in-Ok c =
    let a = c.args in
    let S = c.in-Ok.ensures in
    report_sent a.r (values_given a.given.words.now a.given.text.now) a.time a.buf.now a.store.now c.is_store.ensures c.in_default.ensures (record { answered = c.reported.ensures ∙ S.sent.answered; buffer = S.sent.buffer }) S.kept
