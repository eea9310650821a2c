-- `marks_of`: the marks of each message pass the test against the document's lists.
use mathlib.Core.Path.{refl, sym, ap, ◌∙◌, subst}
use mathlib.Core.Bool.{false≢true}
use Rattle.table.specs.declared.MsgType.{MsgType}
use Rattle.table.specs.declared.MsgType.TheVariants.{Heartbeat, TestRequest, ResendRequest, Reject, SequenceReset, Logout, Logon}
use Rattle.table.specs.Dictionary.{№453, №580, №552, header, fields, code35, groups_of, rows_of, administrative}
use Rattle.writer.specs.Tags.{tags}
use Rattle.message.specs.Unfit.{required}
use Rattle.writer.specs.code.Held.{bit_of, Marked}
use Rattle.writer.proofs.Named.{right_at, marked}
use Rattle.writer.proofs.slots.marks_of.Goals as goal

pub returns-in-Heartbeat : goal.returns-in-Heartbeat
unfolding tags right_at bit_of required rows_of header fields №453 №580 №552 groups_of
returns-in-Heartbeat c = subst (λ (x : MsgType). Marked x _) (sym c.in-Heartbeat.is) (marked Heartbeat _ refl)

pub returns-in-TestRequest : goal.returns-in-TestRequest
unfolding tags right_at bit_of required rows_of header fields №453 №580 №552 groups_of
returns-in-TestRequest c = subst (λ (x : MsgType). Marked x _) (sym c.in-TestRequest.is) (marked TestRequest _ refl)

pub returns-in-ResendRequest : goal.returns-in-ResendRequest
unfolding tags right_at bit_of required rows_of header fields №453 №580 №552 groups_of
returns-in-ResendRequest c = subst (λ (x : MsgType). Marked x _) (sym c.in-ResendRequest.is) (marked ResendRequest _ refl)

pub returns-in-Reject : goal.returns-in-Reject
unfolding tags right_at bit_of required rows_of header fields №453 №580 №552 groups_of
returns-in-Reject c = subst (λ (x : MsgType). Marked x _) (sym c.in-Reject.is) (marked Reject _ refl)

pub returns-in-SequenceReset : goal.returns-in-SequenceReset
unfolding tags right_at bit_of required rows_of header fields №453 №580 №552 groups_of
returns-in-SequenceReset c = subst (λ (x : MsgType). Marked x _) (sym c.in-SequenceReset.is) (marked SequenceReset _ refl)

pub returns-in-Logout : goal.returns-in-Logout
unfolding tags right_at bit_of required rows_of header fields №453 №580 №552 groups_of
returns-in-Logout c = subst (λ (x : MsgType). Marked x _) (sym c.in-Logout.is) (marked Logout _ refl)

pub returns-in-Logon : goal.returns-in-Logon
unfolding tags right_at bit_of required rows_of header fields №453 №580 №552 groups_of
returns-in-Logon c = subst (λ (x : MsgType). Marked x _) (sym c.in-Logon.is) (marked Logon _ refl)

pub returns-in-OrderCancelRequest : goal.returns-in-OrderCancelRequest
unfolding administrative code35
returns-in-OrderCancelRequest c = absurd (false≢true (ap administrative (sym c.in-OrderCancelRequest.is) ∙ c.requires))

pub returns-in-TradeCaptureReportRequest : goal.returns-in-TradeCaptureReportRequest
unfolding administrative code35
returns-in-TradeCaptureReportRequest c = absurd (false≢true (ap administrative (sym c.in-TradeCaptureReportRequest.is) ∙ c.requires))

pub returns-in-TradeCaptureReport : goal.returns-in-TradeCaptureReport
unfolding administrative code35
returns-in-TradeCaptureReport c = absurd (false≢true (ap administrative (sym c.in-TradeCaptureReport.is) ∙ c.requires))
