-- How the code holds a session: each CompID in eleven bytes with its length.
use Rattle.std.specs.Prelude.{ℕ, [], cond, leb, take}
use Rattle.octets.specs.Bytes.{Bytes}
use Rattle.gap.specs.Held.{gap_of, held_gap}
use Rattle.moves.specs.Session.{Session, Replay}
use Rattle.moves.specs.declared.record.Record.{Record}
use Rattle.moves.specs.declared.record.Replay as Code

-- the CompID that stands in eleven bytes with a length; a length over 11 stands for none, so that the record breaks its ranges
abbrev pub held : ℕ → Bytes → Bytes
held n c = cond (leb n 11) (take n c) []

-- the place of a replay: the same two numbers
abbrev pub replay_of : Code.Replay → Replay
replay_of p = record { at = p.at; to = p.to }

abbrev pub held_replay : Replay → Code.Replay
held_replay p = record { at = p.at; to = p.to }

-- the session that a record is
abbrev pub session_of : Record → Session
session_of r =
    record { ours = held r.oursLen r.ours; peers = held r.peerLen r.peer; status = r.status; E = r.expected; next = r.next; heartbeat = r.heartbeat; sent = r.sent; replay = replay_of r.replay; gap = gap_of r.gap }

-- a call changes what the record says of the session, and never its CompIDs
abbrev pub with : Record → Session → Record
with r s =
    record { ours = r.ours; oursLen = r.oursLen; peer = r.peer; peerLen = r.peerLen; status = s.status; expected = s.E; next = s.next; heartbeat = s.heartbeat; sent = s.sent; replay = held_replay s.replay; gap = held_gap s.gap }
