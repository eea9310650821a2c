-- `send`: 8, 12, 9, or the report at the front of the buffer and in the store.
use borrow.Author.Rules.{rules}
use native.Mathlib.Omega.{arith}
use mathlib.Core.Path.{sym}
use lib.Seq.{length-take-le}
use Rattle.report.specs.Layout.{values_given}
use Rattle.reporting.proofs.Sends.{put_is, frame-room, frame_end, send_8, send_12, send_9, send_done}
use Rattle.reporting.proofs.send.Goals as goal

pub returns-in_default : goal.returns-in_default
returns-in_default c = let a = c.args in let x = send_8 a.r (values_given a.given.words.now a.given.text.now) a.time a.buf.now a.store.now (rw c.in_default.is at c.put_body.ensures) in record { sent = x.0; kept = x.1 }

pub frame_length-n-requires : goal.frame_length-n-requires
frame_length-n-requires c = omega (arith, (put_is c.in-Some.ensures).room)

pub returns-then-n-gt512 : goal.returns-then-n-gt512
returns-then-n-gt512 c = let a = c.args in let x = send_12 a.r (values_given a.given.words.now a.given.text.now) a.time a.buf.now a.store.now (put_is c.in-Some.ensures) (search rules) c.frame_length-n.ensures c.if-n-gt512.true in record { sent = x.0; kept = x.1 }

pub returns-then-buf-n : goal.returns-then-buf-n
returns-then-buf-n c = let a = c.args in let x = send_9 a.r (values_given a.given.words.now a.given.text.now) a.time a.buf.now a.store.now (put_is c.in-Some.ensures) (search rules) c.frame_length-n.ensures c.if-n-gt512.false c.if-buf-n.true in record { sent = x.0; kept = x.1 }

pub slice_bounds-body-end : goal.slice_bounds-body-end
slice_bounds-body-end c = omega (arith, (put_is c.in-Some.ensures).room)

pub slice_bounds-put_frame-end : goal.slice_bounds-put_frame-end
slice_bounds-put_frame-end c = sym (length-take-le _ _ (omega (arith, (put_is c.in-Some.ensures).room)))

pub put_frame-len-requires : goal.put_frame-len-requires
put_frame-len-requires c = let P = put_is c.in-Some.ensures in frame-room (length-take-le _ _ (omega (arith, P.room))) P.room c.frame_length-n.ensures c.if-buf-n.false

pub slice_bounds-keep_report-end : goal.slice_bounds-keep_report-end
slice_bounds-keep_report-end c = (frame_end _ (length-take-le _ _ (omega (arith, (put_is c.in-Some.ensures).room))) c.frame_length-n.ensures c.if-buf-n.false c.put_frame-len.ensures).within

pub slice_bounds-keep_report-end-2 : goal.slice_bounds-keep_report-end-2
slice_bounds-keep_report-end-2 c = sym (frame_end _ (length-take-le _ _ (omega (arith, (put_is c.in-Some.ensures).room))) c.frame_length-n.ensures c.if-buf-n.false c.put_frame-len.ensures).long

pub keep_report-requires : goal.keep_report-requires
keep_report-requires c =
    let P = c.requires in
    let f = frame_end _ (length-take-le _ _ (omega (arith, (put_is c.in-Some.ensures).room))) c.frame_length-n.ensures c.if-buf-n.false c.put_frame-len.ensures in
    (P.0, P.1, P.2, omega (arith, f.long, f.end, c.if-n-gt512.false))

pub returns : goal.returns
returns c = let a = c.args in let x = send_done a.r (values_given a.given.words.now a.given.text.now) a.time a.buf.now a.store.now (put_is c.in-Some.ensures) (search rules) c.frame_length-n.ensures c.if-n-gt512.false c.if-buf-n.false c.put_frame-len.ensures c.keep_report.ensures in record { sent = x.0; kept = x.1 }
