-- Three tests that agree, and a test of all messages at one of them.
use native.Mathlib.Omega.{arith}
use mathlib.Core.Path.{◌≡◌, refl, sym}
use mathlib.Core.Bool.{Bool, true, false, false≢true}
use Rattle.octets.specs.Bytes.{all}
use Rattle.octets.proofs.Tests.{all_at}
use Rattle.table.specs.Dictionary.{the_ten}
use Rattle.table.specs.code.Held.{agree}
use Rattle.table.specs.declared.MsgType.{MsgType}
use Rattle.table.specs.declared.MsgType.TheVariants.{Heartbeat, TestRequest, ResendRequest, Reject, SequenceReset, Logout, Logon, OrderCancelRequest, TradeCaptureReportRequest, TradeCaptureReport}

pub agree_true : (a b : Bool) → agree a b ≡ true → a ≡ b
agree_true true b h = sym h
agree_true false true h = absurd (false≢true h)
agree_true false false h = refl

-- a test of all ten messages, at one of them
pub all_ten : (p : MsgType → Bool) → all p the_ten ≡ true → (m : MsgType) → p m ≡ true
all_ten p h Heartbeat = all_at p Heartbeat the_ten h 0 (omega arith)
all_ten p h TestRequest = all_at p Heartbeat the_ten h 1 (omega arith)
all_ten p h ResendRequest = all_at p Heartbeat the_ten h 2 (omega arith)
all_ten p h Reject = all_at p Heartbeat the_ten h 3 (omega arith)
all_ten p h SequenceReset = all_at p Heartbeat the_ten h 4 (omega arith)
all_ten p h Logout = all_at p Heartbeat the_ten h 5 (omega arith)
all_ten p h Logon = all_at p Heartbeat the_ten h 6 (omega arith)
all_ten p h OrderCancelRequest = all_at p Heartbeat the_ten h 7 (omega arith)
all_ten p h TradeCaptureReportRequest = all_at p Heartbeat the_ten h 8 (omega arith)
all_ten p h TradeCaptureReport = all_at p Heartbeat the_ten h 9 (omega arith)
