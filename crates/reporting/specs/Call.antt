-- The report call: "A report from the host takes the next number out and is at most 512 bytes."
use Rattle.std.specs.Prelude.{ℕ, ◌+◌, List, [], ◌∷◌, Bool, not, length}
use Rattle.std.proofs.Math.Option.{Option, none, some}
use Rattle.octets.specs.Bytes.{Bytes}
use Rattle.calendar.specs.Time.{limit}
use Rattle.places.specs.Places.{is_store}
use Rattle.report.specs.Values.{Values, takes}
use Rattle.report.specs.Report.{Report, sent}
use Rattle.store.specs.Store.{keep}
use Rattle.moves.specs.Words.{◌<?◌, ◌≤?◌, ◌when◌, first}
use Rattle.moves.specs.Session.{◌equals◌, Session, running, numbering, sent_at, in_range}
use Rattle.moves.specs.declared.record.Status.TheVariants.{Active}
use Rattle.session.specs.Calls.{Outcome, over, answering, spent}
use Rattle.session.specs.declared.Refusal.TheVariants.{SessionClosed, NumbersSpent, TimePast, BadValue, NoRoom, BadRecord, ReportTooLong, Replaying, BadStore}
use Rattle.session.specs.Answer.{Answer, Done, Refused}

-- "is at most 512 bytes"; "12, report longer than 512 bytes"
abbrev pub longest : ℕ
longest = 512

-- a session s that sends the values v at the time t
module _ (s : Session) (v : Values) (t : ℕ) where
  -- with the next number out, and its bytes
  abbrev pub the_report : Report
  the_report = record { values = v; number = s.next; time = t }

  unfoldable pub message : Bytes
  message = sent s.ours s.peers the_report

  -- "the order for a report is 11, 7, 2, 5, 8, 12, 9"; Q-4: "13, report while replaying, after 11; 14, store not of 32,768 bytes, after 13"
  unfoldable pub refusals : Bool → ℕ → List (Option Answer)
  refusals stored room =
      Refused BadRecord when not (in_range s) ∷
      Refused Replaying when running s.replay ∷
      Refused BadStore when not stored ∷
      Refused TimePast when limit ≤? t ∷
      Refused SessionClosed when not (s.status equals Active) ∷  -- "Outside Active a report is refusal 2, session unchanged."
      Refused NumbersSpent when spent s ∷
      Refused BadValue when not (takes v) ∷
      Refused ReportTooLong when longest <? length message ∷
      Refused NoRoom when room <? length message ∷
      []

  -- "takes the next number out"; "Every message written in a session sets last sent to the call's time."
  abbrev pub sending : Bytes → Outcome
  sending old =
      record { answer = Done; session = sent_at t (numbering (s.next + 1) s); reply = message ∷ []; buffer = over (message ∷ []) old }

  abbrev pub unless : Option Answer → Bytes → Outcome
  unless (some a) old = answering a s old
  unless none old = sending old

  unfoldable pub report : Bytes → Bytes → Outcome
  report buf store = unless (first (refusals (is_store store) (length buf))) buf

  -- THE STORE behind it: "Keep the last 64 reports of Q-1 in a store that the host lends", and "no refusal changes the store"
  abbrev pub kept_unless : Option Answer → Bytes → Bytes
  kept_unless (some a) store = store
  kept_unless none store = keep s.ours s.peers the_report store

  unfoldable pub store_after : Bytes → Bytes → Bytes
  store_after buf store = kept_unless (first (refusals (is_store store) (length buf))) store
