-- The numbered refusals of a session's calls, and the number of each answer.
use Rattle.std.specs.Prelude.{ℕ, List, [], ◌∷◌, Ok, Err}
use Rattle.std.proofs.Math.Option.{Option, none, some}
use Rattle.moves.specs.Session.{Session, turned}
use Rattle.moves.specs.declared.record.Status.TheVariants.{Closed}
use Rattle.session.specs.declared.Refusal.{Refusal}
use Rattle.session.specs.declared.Refusal.TheVariants.{SessionClosed, NotLogon, BadLogon, NumbersSpent, BufferShort, TimePast, BadValue, NoRoom, NotOneFrame, BadRecord, ReportTooLong, Replaying, BadStore}
use Rattle.session.specs.declared.Success.TheVariants as Success
use Rattle.session.specs.Answer.{Answer}

-- "Numbered refusals": of each that a session's call can give the number, and the session after; behind it the table's "When"
abbrev unchanged : Session → Session
unchanged s = s

-- "Closed, else unchanged"
abbrev closed : Session → Session
closed s = turned Closed s

abbrev pub row : Refusal → ℕ × (Session → Session)
row SessionClosed = (2, unchanged)  -- "step while Closed"; document 02: "Outside Active a report is refusal 2, session unchanged."
row NotLogon = (3, closed)  -- "see Waiting": not A
row BadLogon = (4, closed)  -- "see Waiting": field 34 unreadable, wrong CompIDs or any verdict
row NumbersSpent = (5, closed)  -- "E or next out above 999,999,990"
row BufferShort = (6, unchanged)  -- "reply buffer under 512 bytes"; document 02: "Refusal 6 now reads 600 bytes."
row TimePast = (7, unchanged)  -- "time at or past 253,402,300,800,000,000"
row BadValue = (8, unchanged)  -- "a value to write that the dictionary would reject", in a message of the venue's own or a report
row NoRoom = (9, unchanged)  -- "writer's buffer shorter than the message"; of a report document 02: "8, 9 and 12 change nothing"
row NotOneFrame = (10, unchanged)  -- "not exactly one good frame"
row BadRecord = (11, unchanged)  -- "record breaks its ranges (CompIDs as above, numbers 1 to 999,999,999, heartbeat 1 to 60)"; document 02: "the place, within 1 to L"
row ReportTooLong = (12, unchanged)  -- document 02: "report longer than 512 bytes"
row Replaying = (13, unchanged)  -- document 02: "report while replaying"; "13 and 14 change nothing"
row BadStore = (14, unchanged)  -- document 02: "store not of 32,768 bytes"; "13 and 14 change nothing"

abbrev pub No : Refusal → ℕ
No k = (row k).0

abbrev pub after : Refusal → Session → Session
after k s = (row k).1 s

-- this paper's number and values for each case of an answer: the refusal, or 1 or 0 for delivered or not; none where nothing is due
abbrev pub numbers : Answer → Option ℕ × List ℕ
numbers (Ok Success.Done) = (none, 0 ∷ [])
numbers (Ok Success.Delivered) = (none, 1 ∷ [])
numbers (Ok Success.NothingDue) = (none, [])
numbers (Err r) = (some (No r), [])
