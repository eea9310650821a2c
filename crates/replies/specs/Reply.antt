-- The replies of a session: which values each of them has. "Replies carry nothing else."
use Rattle.std.specs.Prelude as Lent
use Rattle.std.specs.Prelude.{Some, None}
use Rattle.std.specs.Borrow.{Bor}
use Rattle.std.specs.Prelude.{ℕ, List, [], ◌∷◌, Bool, cond, eqb}
use Rattle.std.proofs.Math.Option.{Option, none, some}
use Rattle.octets.specs.Bytes.{Bytes, fix}
use Rattle.table.specs.declared.MsgType.TheVariants.{Heartbeat, TestRequest, ResendRequest, Reject, SequenceReset, Logout, Logon}
use Rattle.message.specs.Message.{Value, absent, number, bytes, Field, ◌is◌, written, given}

-- bytes that the caller lends, or none
abbrev pub held : Lent.Option (Bor Bytes) → Option Bytes
held (Some v) = some v.now
held None = none

-- bytes that are there, or not
abbrev pub if_any : Option Bytes → Value
if_any none = absent
if_any (some v) = bytes v

abbrev pub optional : Bool → Bytes → Value
optional there v = cond there (bytes v) absent

-- "371 unless 0"
abbrev pub unless_zero : ℕ → Value
unless_zero n = cond (eqb n 0) absent (number n)

-- a message from ours to peers, as number n at a time, with some more values
module _ (ours peers : Bytes) (n : ℕ) (time : Bytes) where
  abbrev pub values : List Field → ℕ → Value
  values fs = given (49 is bytes ours ∷ 56 is bytes peers ∷ 34 is number n ∷ 52 is bytes time ∷ fs)

  -- "Heartbeat with its 112"; the tick's has none
  abbrev pub of_heartbeat : Value → ℕ → Value
  of_heartbeat id = values (112 is id ∷ [])

  -- a Test Request of ours: "1: 112 Y"
  abbrev pub of_test_request : Bytes → ℕ → Value
  of_test_request id = values (112 is bytes id ∷ [])

  -- "our Logon repeats its 98, 108 and 1137" ("98 {0}", "1137 {9}"); "our Logon with 141=Y"
  abbrev pub of_logon : ℕ → Value → ℕ → Value
  of_logon seconds reset = values (98 is bytes (fix "0") ∷ 108 is number seconds ∷ 1137 is bytes (fix "9") ∷ 141 is reset ∷ [])

  -- "Resend Request 7=E, 16=0"
  abbrev pub of_resend_request : ℕ → ℕ → Value
  of_resend_request expected = values (7 is number expected ∷ 16 is number 0 ∷ [])

  -- "Reject writes 45 (N), 371 unless 0, 372 only if the type is one of the nine, 373." (Document 02 adds a tenth.)
  abbrev pub of_reject : ℕ → ℕ → Value → ℕ → ℕ → Value
  of_reject refused tag type reason = values (45 is number refused ∷ 371 is unless_zero tag ∷ 372 is type ∷ 373 is number reason ∷ [])

  -- "one message 4, 34=b, 43=Y, 122 equal to 52, 123=Y, 36 .."
  abbrev pub of_gap_fill : ℕ → ℕ → Value
  of_gap_fill new = values (43 is bytes (fix "Y") ∷ 122 is bytes time ∷ 123 is bytes (fix "Y") ∷ 36 is number new ∷ [])

  -- "Logouts of ours .. carry 1409=101; the answer to a Logout carries 1409=4."
  abbrev pub of_logout : ℕ → ℕ → Value
  of_logout status = values (1409 is number status ∷ [])

  -- the bytes of each
  unfoldable pub heartbeat : Value → Bytes
  heartbeat id = written Heartbeat (of_heartbeat id)

  unfoldable pub test_request : Bytes → Bytes
  test_request id = written TestRequest (of_test_request id)

  unfoldable pub logon : ℕ → Value → Bytes
  logon seconds reset = written Logon (of_logon seconds reset)

  unfoldable pub resend_request : ℕ → Bytes
  resend_request expected = written ResendRequest (of_resend_request expected)

  unfoldable pub reject : ℕ → ℕ → Value → ℕ → Bytes
  reject refused tag type reason = written Reject (of_reject refused tag type reason)

  unfoldable pub gap_fill : ℕ → Bytes
  gap_fill new = written SequenceReset (of_gap_fill new)

  unfoldable pub logout : ℕ → Bytes
  logout status = written Logout (of_logout status)
