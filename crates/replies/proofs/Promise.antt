-- The promise of the replies (specs/Promise.antt).
use Prim.Native.Nat.{ℕ, ◌+◌, ◌≤◌}
use native.Mathlib.Omega.{arith}
use mathlib.Core.Path.{◌≡◌, refl}
use mathlib.Core.Option.{Option, none, some}
use mathlib.Core.Bool.{Bool, true}
use lib.ListN.{length}
use borrow.Author.Tests.{le-leb}
use Rattle.octets.specs.Bytes.{Bytes, Byted}
use Rattle.octets.proofs.Tests.{both_true}
use Rattle.table.specs.declared.MsgType.{MsgType}
use Rattle.message.specs.Message.{Value}
use Rattle.message.specs.ReadsBack.{ReadsBack}
use Rattle.message.proofs.Joined.{joined_frames}
use Rattle.replies.specs.Replied.{reply_room, sendable, at_most, rejectable}
use Rattle.replies.specs.Promise.{IfThere, TextOf, Sendable, Sent, Replies, Promise}
use Rattle.replies.proofs.Replied.{is_sendable}
use Rattle.replies.proofs.ReplyPromises.{heartbeat_promised, test_request_promised, logon_promised, resend_request_promised, reject_promised, gap_fill_promised, logout_promised}

-- a session's values pass the test that every reply makes
pub taken : {ours peers : Bytes} {n : ℕ} {stamp : Bytes} → Sendable ours peers n stamp → (at len : ℕ) → at + reply_room ≤ len → sendable ours peers n stamp at len ≡ true
taken S at len h =
    is_sendable
    (record {
      ranged = record { ours_short = S.our_id.short; peers_short = S.peer_id.short; small = omega (arith, S.few) };
      timed = omega (arith, S.timed.long);
      fits = h;
    })

short : (l : ℕ) (o : Option Bytes) → IfThere (TextOf l) o → at_most l o ≡ true
short l none T = refl
short l (some v) T = le-leb (length v) l T.short

pub is_rejectable : (refused tag : ℕ) (type : Option Bytes) (why : ℕ) → refused ≤ 999_999_999 → tag ≤ 999_999_999 → at_most 2 type ≡ true → why ≤ 999_999_999
    → rejectable refused tag type why ≡ true
is_rejectable refused tag type why a b c d = rw (le-leb refused 999_999_999 a, le-leb tag 999_999_999 b, c, le-leb why 999_999_999 d)

replies : (ours peers : Bytes) (n : ℕ) (stamp : Bytes) → Sendable ours peers n stamp → Byted ours → Byted peers → Byted stamp → Replies ours peers n stamp
replies ours peers n stamp S bo bp bs =
    record {
      heartbeat = λ id T b. sent (short 64 id T) (heartbeat_promised ours peers n stamp S bo bp bs id T b);
      test_request = λ id T b. sent (le-leb (length id) 64 T.short) (test_request_promised ours peers n stamp S bo bp bs id T b);
      logon = λ seconds reset low high. sent (le-leb seconds 999_999_999 (omega (arith, high))) (logon_promised ours peers n stamp S bo bp bs seconds reset low high);
      resend_request = λ expected low high. sent (le-leb expected 999_999_999 high) (resend_request_promised ours peers n stamp S bo bp bs expected low high);
      reject = λ refused tag kind why low high small T b few.
          sent (is_rejectable refused tag kind why high small (short 2 kind T) few) (reject_promised ours peers n stamp S bo bp bs refused tag kind why low high small T b few);
      gap_filled = λ next low high. sent (le-leb next 999_999_999 high) (gap_fill_promised ours peers n stamp S bo bp bs next low high);
      logout = λ status few. sent (le-leb status 999_999_999 few) (logout_promised ours peers n stamp S bo bp bs status few);
    }
  where
    sent : {own : Bool} {m : MsgType} {vs : ℕ → Value} → own ≡ true → ReadsBack m vs → Sent ours peers n stamp own m vs
    sent {own} e R = record { fit = λ at len h. both_true (sendable ours peers n stamp at len) own (taken S at len h) e; reads_back = R }

pub promise : Promise
promise = record { replies = replies; one_by_one = joined_frames }
