-- The calls of the seven replies: which values they take, and what they leave in the buffer. They ask for lengths, for numbers of nine digits and for room,
-- and for nothing else. For values that fit but that no session has (an empty CompID, a CompID with a `|`, number 0, a time that is none) they put the bytes
-- of just these values; that the message is a good frame with a clean verdict is promised for `Sendable` values (specs/Promise.antt), not for those.
use Rattle.std.specs.Prelude as Given
use Rattle.std.specs.Prelude.{ℕ, ◌+◌, ◌≤◌, ◌≡◌, Bool, true, false, ◌&&◌, leb, length, Some, None}
use Rattle.std.proofs.Math.Option.{Option, none, some}
use Rattle.octets.specs.Bytes.{Bytes, fix}
use Rattle.message.specs.Wrote.{Wrote}
use Rattle.replies.specs.Reply.{held}
use Rattle.replies.specs.Reply.{if_any, optional, heartbeat, test_request, logon, resend_request, reject, gap_fill, logout}
use Rattle.replies.specs.declared.Reply.{Reply}
use Rattle.replies.specs.declared.Reply.TheVariants.{Heartbeat, TestRequest, Logon, ResendRequest, Reject, GapFill, Logout}

-- how many bytes every reply asks for behind its place: as many as the longest has. That is a Heartbeat or a Test Request whose CompIDs have 11 bytes each,
-- its number nine digits, its time 24 bytes and its 112 64 (162 bytes of body, 25 around it); each of the others is shorter
abbrev pub reply_room : ℕ
reply_room = 187

-- "Numbers are 1 to 9 digits": at most nine, 0 is let through
abbrev pub nine_digits : ℕ → Bool
nine_digits n = leb n 999_999_999

-- of each reply: CompIDs of at most 11 bytes, a number of at most nine digits, a time of at most 24 bytes, and room behind its place in a buffer of len
-- bytes
unfoldable pub sendable : Bytes → Bytes → ℕ → Bytes → ℕ → ℕ → Bool
sendable ours peers n time at len = leb (length ours) 11 && leb (length peers) 11 && nine_digits n && leb (length time) 24 && leb (at + reply_room) len

-- bytes that are at most so many, where they are there
abbrev pub at_most : ℕ → Option Bytes → Bool
at_most n none = true
at_most n (some v) = leb (length v) n

-- of a Reject besides: its numbers, and a type as short as the ten
abbrev pub rejectable : ℕ → ℕ → Option Bytes → ℕ → Bool
rejectable refused tag type why = nine_digits refused && nine_digits tag && at_most 2 type && nine_digits why

-- what each reply asks of its own values
abbrev pub fits : Reply → Bool
fits (Heartbeat id) = at_most 64 (held id)
fits (TestRequest id) = at_most 64 (some id.now)
fits (Logon seconds reset) = nine_digits seconds
fits (ResendRequest expected) = nine_digits expected
fits (Reject refused tag type why) = rejectable refused tag (held type) why
fits (GapFill next) = nine_digits next
fits (Logout status) = nine_digits status

-- and its bytes
abbrev pub message_of : Bytes → Bytes → ℕ → Bytes → Reply → Bytes
message_of ours peers n time (Heartbeat id) = heartbeat ours peers n time (if_any (held id))
message_of ours peers n time (TestRequest id) = test_request ours peers n time id.now
message_of ours peers n time (Logon seconds reset) = logon ours peers n time seconds (optional reset (fix "Y"))
message_of ours peers n time (ResendRequest expected) = resend_request ours peers n time expected
message_of ours peers n time (Reject refused tag type why) = reject ours peers n time refused tag (if_any (held type)) why
message_of ours peers n time (GapFill next) = gap_fill ours peers n time next
message_of ours peers n time (Logout status) = logout ours peers n time status

-- what a call leaves, `own` being what the reply asks of its own values: where the values fit, the message behind its place, and the next place; else the
-- buffer as it was, and no place
pub record Replied (ours peers : Bytes) (n : ℕ) (time : Bytes) (own : Bool) (before after : Bytes) (at : ℕ) (answer : Given.Option ℕ) (message : Bytes) : Type 0 where
  pub written : (sendable ours peers n time at (length before) && own) ≡ true → (to : ℕ) × (answer ≡ Some to) × Wrote before after at to message × (to ≤ at + reply_room)
  pub refused : (sendable ours peers n time at (length before) && own) ≡ false → (after ≡ before) × (answer ≡ None)
