-- The record of a session and its ranges.
use Rattle.std.specs.Prelude.{ℕ, Bool, not, ◌&&◌, if◌then◌else◌}
use Rattle.octets.specs.Bytes.{Bytes, within}
use Rattle.gap.specs.Gap.{Gap, no_gap, numbered, bounded}
use Rattle.message.specs.Unfit.{comp_id}
use Rattle.moves.specs.Words.{◌=?◌, ◌<?◌, ◌≤?◌}
use Rattle.moves.specs.declared.record.Status.{Status}
use Rattle.moves.specs.declared.record.Status.TheVariants.{Waiting, Active, Closed}

-- "status Waiting, Active or Closed"
abbrev pub code : Status → ℕ
code Waiting = 0
code Active = 1
code Closed = 2

infix 80 ◌equals◌
abbrev pub ◌equals◌ : Status → Status → Bool
◌equals◌ a b = code a =? code b

-- An unfinished replay (document 02, Q-4): the number that goes out next, and the last one asked for; both are 0 where none is running
pub record Replay : Type 0 where
  pub at : ℕ
  pub to : ℕ

abbrev pub no_replay : Replay
no_replay = record { at = 0; to = 0 }

abbrev pub running : Replay → Bool
running p = not (p.at =? 0)

-- "The record holds CompIDs .., status .., expected number E, next number out, heartbeat seconds and time last sent." Document 02: "the place .. is held
-- in the record"; "The session record shall hold whether a gap is open, .."
pub record Session : Type 0 where
  pub ours : Bytes
  pub peers : Bytes
  pub status : Status
  pub E : ℕ
  pub next : ℕ
  pub heartbeat : ℕ
  pub sent : ℕ
  pub replay : Replay
  pub gap : Gap

-- every change of the record is made here, one thing at a time: the CompIDs stay
-- "Closing or a reconnect drops an unfinished replay"
abbrev pub turned : Status → Session → Session
turned st s = record { ours = s.ours; peers = s.peers; status = st; E = s.E; next = s.next; heartbeat = s.heartbeat; sent = s.sent; replay = no_replay; gap = s.gap }

abbrev pub expecting : ℕ → Session → Session
expecting e s = record { ours = s.ours; peers = s.peers; status = s.status; E = e; next = s.next; heartbeat = s.heartbeat; sent = s.sent; replay = s.replay; gap = s.gap }

abbrev pub numbering : ℕ → Session → Session
numbering n s = record { ours = s.ours; peers = s.peers; status = s.status; E = s.E; next = n; heartbeat = s.heartbeat; sent = s.sent; replay = s.replay; gap = s.gap }

abbrev pub beating : ℕ → Session → Session
beating h s = record { ours = s.ours; peers = s.peers; status = s.status; E = s.E; next = s.next; heartbeat = h; sent = s.sent; replay = s.replay; gap = s.gap }

abbrev pub sent_at : ℕ → Session → Session
sent_at t s = record { ours = s.ours; peers = s.peers; status = s.status; E = s.E; next = s.next; heartbeat = s.heartbeat; sent = t; replay = s.replay; gap = s.gap }

abbrev pub replaying : Replay → Session → Session
replaying p s = record { ours = s.ours; peers = s.peers; status = s.status; E = s.E; next = s.next; heartbeat = s.heartbeat; sent = s.sent; replay = p; gap = s.gap }

abbrev pub missing : Gap → Session → Session
missing g s = record { ours = s.ours; peers = s.peers; status = s.status; E = s.E; next = s.next; heartbeat = s.heartbeat; sent = s.sent; replay = s.replay; gap = g }

-- "A new session starts Waiting with both numbers 1, heartbeat 30, last sent 0."
abbrev pub fresh : Bytes → Bytes → Session
fresh us them = record { ours = us; peers = them; status = Waiting; E = 1; next = 1; heartbeat = 30; sent = 0; replay = no_replay; gap = no_gap }

-- Document 02: "the place, within 1 to L, is held in the record under refusal 11": only an Active session replays, up to one below its next number out
abbrev pub placed : Session → Replay → Bool
placed s p = if running p then s.status equals Active && p.at ≤? p.to && p.to <? s.next else p.to =? 0

-- "CompIDs (1 to 11 bytes, no `|`)"; "numbers 1 to 999,999,999, heartbeat 1 to 60"; and the place, and the gap
unfoldable pub in_range : Session → Bool
in_range s = comp_id s.ours && comp_id s.peers && numbered s.E && numbered s.next && within 1 60 s.heartbeat && placed s s.replay && bounded s.gap
