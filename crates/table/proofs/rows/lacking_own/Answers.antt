-- The list of each message.
use mathlib.Core.Path.{refl}
use Rattle.table.specs.Dictionary.{№453, №580, №552, header, fields}
use Rattle.table.specs.code.Held.{all_rows, tags}
use Rattle.table.specs.declared.MsgType.TheVariants.{Heartbeat, TestRequest, ResendRequest, Reject, SequenceReset, Logout, Logon, OrderCancelRequest, TradeCaptureReportRequest, TradeCaptureReport}
use Rattle.table.proofs.rows.lacking_own.Goals as goal

pub returns-in-Heartbeat : goal.returns-in-Heartbeat
unfolding all_rows tags №453 №580 №552 header fields
returns-in-Heartbeat c = rw c.in-Heartbeat.is (c.lacking.ensures (fields Heartbeat) refl)

pub returns-in-TestRequest : goal.returns-in-TestRequest
unfolding all_rows tags №453 №580 №552 header fields
returns-in-TestRequest c = rw c.in-TestRequest.is (c.lacking-in-TestRequest.ensures (fields TestRequest) refl)

pub returns-in-ResendRequest : goal.returns-in-ResendRequest
unfolding all_rows tags №453 №580 №552 header fields
returns-in-ResendRequest c = rw c.in-ResendRequest.is (c.lacking-in-ResendRequest.ensures (fields ResendRequest) refl)

pub returns-in-Reject : goal.returns-in-Reject
unfolding all_rows tags №453 №580 №552 header fields
returns-in-Reject c = rw c.in-Reject.is (c.lacking-in-Reject.ensures (fields Reject) refl)

pub returns-in-SequenceReset : goal.returns-in-SequenceReset
unfolding all_rows tags №453 №580 №552 header fields
returns-in-SequenceReset c = rw c.in-SequenceReset.is (c.lacking-in-SequenceReset.ensures (fields SequenceReset) refl)

pub returns-in-Logout : goal.returns-in-Logout
unfolding all_rows tags №453 №580 №552 header fields
returns-in-Logout c = rw c.in-Logout.is (c.lacking-in-Logout.ensures (fields Logout) refl)

pub returns-in-Logon : goal.returns-in-Logon
unfolding all_rows tags №453 №580 №552 header fields
returns-in-Logon c = rw c.in-Logon.is (c.lacking-in-Logon.ensures (fields Logon) refl)

pub returns-in-OrderCancelRequest : goal.returns-in-OrderCancelRequest
unfolding all_rows tags №453 №580 №552 header fields
returns-in-OrderCancelRequest c = rw c.in-OrderCancelRequest.is (c.lacking-in-OrderCancelRequest.ensures (fields OrderCancelRequest) refl)

pub returns-in-TradeCaptureReportRequest : goal.returns-in-TradeCaptureReportRequest
unfolding all_rows tags №453 №580 №552 header fields
returns-in-TradeCaptureReportRequest c = rw c.in-TradeCaptureReportRequest.is (c.lacking-in-TradeCaptureReportRequest.ensures (fields TradeCaptureReportRequest) refl)

pub returns-in-TradeCaptureReport : goal.returns-in-TradeCaptureReport
unfolding all_rows tags №453 №580 №552 header fields
returns-in-TradeCaptureReport c = rw c.in-TradeCaptureReport.is (c.lacking-in-TradeCaptureReport.ensures (fields TradeCaptureReport) refl)
