-- What can be written: messages that the dictionary takes. Only the code needs these: nothing here states document 01.
use Rattle.std.specs.Prelude.{ℕ, ◌≤◌, ◌≡◌, Bool, false, length}
use Rattle.std.proofs.Math.Option.{Option}
use Rattle.octets.specs.Bytes.{Bytes, fix, has, Byted}
use Rattle.table.specs.declared.MsgType.{MsgType}
use Rattle.message.specs.Message.{Value, absent, number, bytes}
use Rattle.replies.specs.Reply.{optional}
use Rattle.moves.specs.Seen.{repeated, code_of}
use Rattle.moves.specs.Moves.{Letter, Heartbeat, Logon, ResendRequest, Reject, GapFill, Logout, TestRequest}

pub record Numbered (n : ℕ) : Type 0 where
  pub low : 1 ≤ n
  pub high : n ≤ 999_999_999

-- a string of 1 to `most` bytes, none `|`
pub record Text (most : ℕ) (v : Bytes) : Type 0 where
  pub some : 1 ≤ length v
  pub short : length v ≤ most
  pub no_bar : has v 1 ≡ false
  pub of_bytes : Byted v

abbrev pub FitId : Value → Type 0
FitId absent = Unit {0}
FitId (number n) = ⊥
FitId (bytes v) = Text 64 v

pub record FitLogon (method : Value) (seconds : ℕ) (version reset : Value) : Type 0 where
  pub low : 1 ≤ seconds
  pub high : seconds ≤ 60
  pub is98 : method ≡ bytes (fix "0")
  pub is1137 : version ≡ bytes (fix "9")
  pub anew : Bool
  pub is141 : reset ≡ optional anew (fix "Y")

pub record FitReject (refused tag : ℕ) (type : Value) (reason : ℕ) : Type 0 where
  pub refused_fits : Numbered refused
  pub tag_fits : tag ≤ 999_999_999
  pub reason_fits : reason ≤ 999_999_999
  pub named : Option MsgType
  pub is372 : type ≡ repeated (code_of named)

abbrev pub FitLetter : Letter → Type 0
FitLetter (Heartbeat id) = FitId id
FitLetter (Logon method seconds version reset) = FitLogon method seconds version reset
FitLetter (ResendRequest expected) = Numbered expected
FitLetter (Reject refused tag type reason) = FitReject refused tag type reason
FitLetter (GapFill new) = Numbered new
FitLetter (Logout status) = status ≤ 999_999_999
FitLetter (TestRequest id) = Text 64 id
