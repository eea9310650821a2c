-- What is promised of the seven replies: what a session sends is put, and reads back; messages one behind the other are read as just these. All of it is the
-- record `Promise` at the end.
use Rattle.std.specs.Prelude.{ℕ, ◌+◌, ◌≤◌, ◌≡◌, List, Bool, true, false, ◌&&◌, length}
use Rattle.std.proofs.Math.Option.{Option, none, some}
use Rattle.octets.specs.Bytes.{Bytes, byte, fix, has, Byted}
use Rattle.frame.specs.Frame.{fixt}
use Rattle.frame.specs.Stream.{Frames, joined}
use Rattle.kinds.specs.Kind.{time, formed, allowed}
use Rattle.table.specs.declared.MsgType.{MsgType}
use Rattle.table.specs.declared.MsgType.TheVariants.{Heartbeat, TestRequest, ResendRequest, Reject, SequenceReset, Logout, Logon}
use Rattle.message.specs.Message.{Value}
use Rattle.message.specs.ReadsBack.{ReadsBack}
use Rattle.message.specs.Whole.{AllGood}
use Rattle.replies.specs.Reply.{if_any, optional, of_heartbeat, of_test_request, of_logon, of_resend_request, of_reject, of_gap_fill, of_logout}
use Rattle.replies.specs.Replied.{reply_room, nine_digits, sendable, at_most, rejectable}

-- what holds of bytes that may be absent, where they are there
abbrev pub IfThere : (Bytes → Type 0) → Option Bytes → Type 0
IfThere P none = Unit {0}
IfThere P (some v) = P v

-- 1 to l bytes, none `|`
pub record TextOf (l : ℕ) (v : Bytes) : Type 0 where
  pub filled : 1 ≤ length v
  pub short : length v ≤ l
  pub no_bar : has v (byte "|") ≡ false

-- "A reply's 52 has six decimals": 24 bytes that are a time of the dictionary
pub record TimeOf (v : Bytes) : Type 0 where
  pub long : length v ≡ 24
  pub no_bar : has v (byte "|") ≡ false
  pub form : formed time v ≡ true
  pub right : allowed time v ≡ true

-- what a session in its ranges sends: "CompIDs (1 to 11 bytes, no `|`)", "numbers 1 to 999,999,999", a time
pub record Sendable (ours peers : Bytes) (n : ℕ) (stamp : Bytes) : Type 0 where
  pub our_id : TextOf 11 ours
  pub peer_id : TextOf 11 peers
  pub counted : 1 ≤ n
  pub few : n ≤ 999_999_999
  pub timed : TimeOf stamp

module _ (ours peers : Bytes) (n : ℕ) (stamp : Bytes) where
  -- a reply: where there is room its call takes the values (`written` of `Replied`), so that its message is put; and the message reads back
  pub record Sent (own : Bool) (m : MsgType) (vs : ℕ → Value) : Type 0 where
    pub fit : (at len : ℕ) → at + reply_room ≤ len → (sendable ours peers n stamp at len && own) ≡ true
    pub reads_back : ReadsBack m vs

  -- each of the seven, with its own values
  pub record Replies : Type 0 where
    pub heartbeat : (id : Option Bytes) → IfThere (TextOf 64) id → IfThere Byted id → Sent (at_most 64 id) Heartbeat (of_heartbeat ours peers n stamp (if_any id))
    pub test_request : (id : Bytes) → TextOf 64 id → Byted id → Sent (at_most 64 (some id)) TestRequest (of_test_request ours peers n stamp id)
    pub logon : (seconds : ℕ) (reset : Bool) → 1 ≤ seconds → seconds ≤ 60 → Sent (nine_digits seconds) Logon (of_logon ours peers n stamp seconds (optional reset (fix "Y")))
    pub resend_request : (expected : ℕ) → 1 ≤ expected → expected ≤ 999_999_999 → Sent (nine_digits expected) ResendRequest (of_resend_request ours peers n stamp expected)
    pub reject : (refused tag : ℕ) (kind : Option Bytes) (why : ℕ) → 1 ≤ refused → refused ≤ 999_999_999 → tag ≤ 999_999_999 → IfThere (TextOf 2) kind → IfThere Byted kind
        → why ≤ 999_999_999 → Sent (rejectable refused tag kind why) Reject (of_reject ours peers n stamp refused tag (if_any kind) why)
    pub gap_filled : (next : ℕ) → 1 ≤ next → next ≤ 999_999_999 → Sent (nine_digits next) SequenceReset (of_gap_fill ours peers n stamp next)
    pub logout : (status : ℕ) → status ≤ 999_999_999 → Sent (nine_digits status) Logout (of_logout ours peers n stamp status)

-- ALL OF IT. (Where bytes are read back they are below 256, as those of every slice are; a list may hold any number.)
pub record Promise : Type 0 where
  pub replies : (ours peers : Bytes) (n : ℕ) (stamp : Bytes) → Sendable ours peers n stamp → Byted ours → Byted peers → Byted stamp → Replies ours peers n stamp
  -- messages one behind the other are read as just these messages
  pub one_by_one : (ms : List Bytes) → AllGood ms → Frames fixt (joined ms) ms
