-- The groups of a message: none lies deeper than three levels.
use mathlib.Core.Path.{◌≡◌, refl}
use Rattle.table.specs.Dictionary.{№453, №580, №552, fields, deeper, groups_of}
use Rattle.table.specs.declared.MsgType.{MsgType}
use Rattle.table.specs.declared.MsgType.TheVariants.{Heartbeat, TestRequest, ResendRequest, Reject, SequenceReset, Logout, Logon, OrderCancelRequest, TradeCaptureReportRequest, TradeCaptureReport}

pub closed_down : (m : MsgType) → deeper (fields m) (groups_of m) ≡ groups_of m
unfolding groups_of fields №453 №580 №552
closed_down Heartbeat = refl
closed_down TestRequest = refl
closed_down ResendRequest = refl
closed_down Reject = refl
closed_down SequenceReset = refl
closed_down Logout = refl
closed_down Logon = refl
closed_down OrderCancelRequest = refl
closed_down TradeCaptureReportRequest = refl
closed_down TradeCaptureReport = refl
