-- The moves as the code decides them. Only the code needs these: nothing here states document 01.
use Rattle.std.specs.Prelude.{ℕ, ◌+◌, ◌≤◌, ◌≡◌, List, [], ◌∷◌, ◌++◌, Bool, true, false, cond, not, ◌&&◌, ltb, Option, Some, None, Result, Ok, Err}
use Rattle.std.specs.Result.{result_ok}
use Rattle.octets.specs.Bytes.{Bytes, fix}
use Rattle.fields.specs.Field.{first_field}
use Rattle.dictionary.specs.declared.Unclean.{Unclean}
use Rattle.dictionary.specs.Verdict.{msg_type}
use Rattle.message.specs.Message.{absent}
use Rattle.replies.specs.Reply.{optional}
use Rattle.gap.specs.Gap.{Gap, no_gap, asks, asked_for, seen, unless_past, bounded}
use Rattle.gap.specs.Held.{gap_of, held_gap}
use Rattle.gap.specs.declared.Gap as Code
use Rattle.moves.specs.Words.{◌otherwise◌}
use Rattle.moves.specs.Session.{Session, Replay, no_replay}
use Rattle.moves.specs.Seen.{is_it, repeated, number_in, code_of, reason_of, tag_of}
use Rattle.moves.specs.Moves as Words
use Rattle.moves.specs.Moves.{Deed, Deeds, Write, Start, Count, FillTo, ResetTo, Anew, HeartbeatBecomes, Becomes, GapBecomes, ◌holds◌, b, e, L, requested}
use Rattle.moves.specs.Held.{replay_of, held_replay}
use Rattle.moves.specs.declared.record.Record.{Record}
use Rattle.moves.specs.declared.record.Status.{Status}
use Rattle.moves.specs.declared.record.Status.TheVariants.{Active, Closed}
use Rattle.moves.specs.declared.record.Replay as Held
use Rattle.moves.specs.declared.plan.Plan.{Plan}
use Rattle.moves.specs.declared.plan.Letter.{Letter}
use Rattle.moves.specs.declared.plan.Letter.TheVariants.{Echo, Logon, Ask, Reject, RejectType, Logout, Test}

-- E + 1, or not
abbrev pub raised : Bool → ℕ → ℕ
raised c e = cond c (e + 1) e

-- all changes of a record at once
abbrev pub changed : Session → Status → ℕ → ℕ → ℕ → ℕ → Replay → Gap → Session
changed s st e n h t p g = record { ours = s.ours; peers = s.peers; status = st; E = e; next = n; heartbeat = h; sent = t; replay = p; gap = g }

-- WHAT DEEDS COME TO: whether the frame is delivered, the messages with their numbers, and the record but for its last sent
pub record Sum : Type 0 where
  pub delivered : Bool
  pub letters : List (ℕ × Words.Letter)
  pub status : Status
  pub E : ℕ
  pub next : ℕ
  pub heartbeat : ℕ
  pub replay : Replay
  pub gap : Gap

abbrev pub adding : Sum → Deed → Sum
adding a (Write l) = record { delivered = a.delivered; letters = a.letters ++ ((a.next, l) ∷ []); status = a.status; E = a.E; next = a.next + 1; heartbeat = a.heartbeat; replay = a.replay; gap = a.gap }
adding a (Start p) = record { delivered = a.delivered; letters = a.letters; status = a.status; E = a.E; next = a.next; heartbeat = a.heartbeat; replay = p; gap = a.gap }
adding a Count = record { delivered = a.delivered; letters = a.letters; status = a.status; E = a.E + 1; next = a.next; heartbeat = a.heartbeat; replay = a.replay; gap = a.gap }
adding a (FillTo n) = record { delivered = a.delivered; letters = a.letters; status = a.status; E = n; next = a.next; heartbeat = a.heartbeat; replay = a.replay; gap = a.gap }
adding a (ResetTo n) = record { delivered = a.delivered; letters = a.letters; status = a.status; E = n; next = a.next; heartbeat = a.heartbeat; replay = a.replay; gap = a.gap }
adding a Anew = record { delivered = a.delivered; letters = a.letters; status = a.status; E = 2; next = 1; heartbeat = a.heartbeat; replay = a.replay; gap = a.gap }
adding a (HeartbeatBecomes n) = record { delivered = a.delivered; letters = a.letters; status = a.status; E = a.E; next = a.next; heartbeat = n; replay = a.replay; gap = a.gap }
adding a (Becomes st) = record { delivered = a.delivered; letters = a.letters; status = st; E = a.E; next = a.next; heartbeat = a.heartbeat; replay = no_replay; gap = a.gap }
adding a (GapBecomes g) = record { delivered = a.delivered; letters = a.letters; status = a.status; E = a.E; next = a.next; heartbeat = a.heartbeat; replay = a.replay; gap = g }
adding a Words.Deliver = record { delivered = true; letters = a.letters; status = a.status; E = a.E; next = a.next; heartbeat = a.heartbeat; replay = a.replay; gap = a.gap }

abbrev pub adds : Sum → Deeds → Sum
adds a [] = a
adds a (d ∷ ds) = adds (adding a d) ds

abbrev pub summed : Session → Deeds → Sum
summed s ds = adds (record { delivered = false; letters = []; status = s.status; E = s.E; next = s.next; heartbeat = s.heartbeat; replay = s.replay; gap = s.gap }) ds

-- and behind a step: the gap is closed if E is past it
abbrev pub settled_sum : Sum → Sum
settled_sum a = record { delivered = a.delivered; letters = a.letters; status = a.status; E = a.E; next = a.next; heartbeat = a.heartbeat; replay = a.replay; gap = unless_past a.E a.gap }

-- A PLAN: a message of the code's in the words of the moves, with its number; by the body that came, or by the 112 that a Test Request is to have
abbrev pub letters_of : Bytes → ℕ → Option Letter → List (ℕ × Words.Letter)
letters_of body n None = []
letters_of body n (Some Echo) = (n, Words.Heartbeat (repeated (first_field 112 body))) ∷ []
letters_of body n (Some (Logon anew)) = (cond anew 1 n, Words.Logon (repeated (first_field 98 body)) (number_in 0 999_999_999 (first_field 108 body) otherwise 0) (repeated (first_field 1137 body)) (optional anew (fix "Y"))) ∷ []
letters_of body n (Some (Ask from)) = (n, Words.ResendRequest from) ∷ []
letters_of body n (Some (Reject reason tag)) = (n, Words.Reject (number_in 1 999_999_999 (first_field 34 body) otherwise 0) tag (repeated (code_of (msg_type body))) reason) ∷ []
letters_of body n (Some RejectType) = (n, Words.Reject (number_in 1 999_999_999 (first_field 34 body) otherwise 0) 35 absent 11) ∷ []
letters_of body n (Some (Logout why)) = (n, Words.Logout why) ∷ []
letters_of id n (Some Test) = (n, Words.TestRequest id) ∷ []

-- the next number out behind it
abbrev pub behind : ℕ → Option Letter → ℕ
behind n None = n
behind n (Some Echo) = n + 1
behind n (Some (Logon anew)) = cond anew 2 (n + 1)
behind n (Some (Ask from)) = n + 1
behind n (Some (Reject reason tag)) = n + 1
behind n (Some RejectType) = n + 1
behind n (Some (Logout why)) = n + 1
behind n (Some Test) = n + 1

abbrev pub planned : Bytes → Session → Plan → Sum
planned body s p =
    record { delivered = p.delivered; letters = letters_of body s.next p.first ++ letters_of body (behind s.next p.first) p.second; status = p.status; E = p.expected; next = behind (behind s.next p.first) p.second; heartbeat = p.heartbeat; replay = replay_of p.replay; gap = gap_of p.gap }

-- the plans that the rules make on a session
abbrev pub says : Session → Option Letter → Option Letter → Plan
says s a b = record { delivered = false; first = a; second = b; status = s.status; expected = s.E; heartbeat = s.heartbeat; replay = held_replay s.replay; gap = held_gap s.gap }

abbrev pub counts : Session → Option Letter → Plan
counts s a = record { delivered = false; first = a; second = None; status = s.status; expected = s.E + 1; heartbeat = s.heartbeat; replay = held_replay s.replay; gap = held_gap s.gap }

abbrev pub expects : Session → ℕ → Plan
expects s n = record { delivered = false; first = None; second = None; status = s.status; expected = n; heartbeat = s.heartbeat; replay = held_replay s.replay; gap = held_gap s.gap }

abbrev pub closes : Session → Option Letter → Option Letter → ℕ → Plan
closes s a b n = record { delivered = false; first = a; second = b; status = Closed; expected = n; heartbeat = s.heartbeat; replay = held_replay no_replay; gap = held_gap s.gap }

abbrev pub delivers : Session → Plan
delivers s = record { delivered = true; first = None; second = None; status = s.status; expected = s.E + 1; heartbeat = s.heartbeat; replay = held_replay s.replay; gap = held_gap s.gap }

abbrev pub accepts : Bool → Option Letter → ℕ → ℕ → Code.Gap → Plan
accepts anew b n seconds g = record { delivered = false; first = Some (Logon anew); second = b; status = Active; expected = n; heartbeat = seconds; replay = held_replay no_replay; gap = g }

-- a message or none, E as it is, and another gap
abbrev pub misses : Session → Option Letter → Code.Gap → Plan
misses s a g = record { delivered = false; first = a; second = None; status = s.status; expected = s.E; heartbeat = s.heartbeat; replay = held_replay s.replay; gap = g }

-- no message, and the numbers from n on without a gap
abbrev pub resets : Session → ℕ → Plan
resets s n = record { delivered = false; first = None; second = None; status = s.status; expected = n; heartbeat = s.heartbeat; replay = held_replay s.replay; gap = held_gap no_gap }

-- a message or none, E, the replay that starts, and the gap
abbrev pub serves : Session → Option Letter → ℕ → Held.Replay → Code.Gap → Plan
serves s a n q g = record { delivered = false; first = a; second = None; status = s.status; expected = n; heartbeat = s.heartbeat; replay = q; gap = g }

-- a plan as a step makes it
abbrev pub settled_plan : Plan → Plan
settled_plan p = record { delivered = p.delivered; first = p.first; second = p.second; status = p.status; expected = p.expected; heartbeat = p.heartbeat; replay = p.replay; gap = held_gap (unless_past p.expected (gap_of p.gap)) }

-- what a frame with the number n, above E, makes of a session at the time t
abbrev pub missed_if : Session → ℕ → ℕ → Bool → Plan
missed_if s n t true = misses s (Some (Ask s.E)) (held_gap (asked_for t s.E n s.gap))
missed_if s n t false = misses s None (held_gap (seen n s.gap))

abbrev pub missed_by : Session → ℕ → ℕ → Plan
missed_by s n t = missed_if s n t (asks t s.E s.gap)

module _ (s : Session) (body : Bytes) where
  -- the tag of the CompID that is wrong, if one is
  abbrev pub strange_tag : Option ℕ
  strange_tag = cond (◌holds◌ s body 49 s.peers) (cond (◌holds◌ s body 56 s.ours) None (Some 56)) (Some 49)

  -- the replay that serves a Resend Request, or the tag for which it is rejected
  unfoldable pub served_by : Result Held.Replay ℕ
  served_by = cond (ltb (L s body) (b s body)) (Err 7) (cond (ltb 0 (e s body) && ltb (e s body) (b s body)) (Err 16) (Ok (held_replay (requested s body))))

  -- "An incoming Resend Request, if clean and not rejected below"
  unfoldable pub served_early : Option Held.Replay
  served_early = cond (Words.type s body "2" && Words.clean s body) (result_ok served_by) None

unfoldable pub is_bare_reset : Bytes → Bool
is_bare_reset body = is_it (fix "4") (code_of (msg_type body)) && not (is_it (fix "Y") (first_field 123 body))

abbrev pub rejected_by : Unclean → Letter
rejected_by u = Reject (reason_of (Err u)) (tag_of (Err u))

-- what a record has when it comes to the moves
pub record Ready (r : Record) : Type 0 where
  pub ours : r.oursLen ≤ 11
  pub peer : r.peerLen ≤ 11
  pub low : 1 ≤ r.expected
  pub expected : r.expected ≤ 999_999_990
  pub first : 1 ≤ r.next
  pub next : r.next ≤ 999_999_990
  pub gap : bounded (gap_of r.gap) ≡ true
