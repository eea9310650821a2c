-- The steps of the code between a record and its report. Only the code needs these: nothing here states document 02.
use Rattle.std.specs.Prelude.{ℕ, ◌+◌, ◌≤◌, ◌≡◌, List, [], ◌∷◌, Bool, true, false, not, length, Option, Some, None, Result, Ok, Err}
use Rattle.std.proofs.Math.Option as Math
use Rattle.octets.specs.Bytes.{Bytes, fix}
use Rattle.calendar.specs.Time.{limit}
use Rattle.message.specs.Message.{number, bytes, Field, ◌is◌, row}
use Rattle.message.specs.Wrote.{Wrote}
use Rattle.report.specs.Values.{Values, takes}
use Rattle.report.specs.Report.{fields_of}
use Rattle.moves.specs.Words.{◌<?◌, ◌≤?◌, ◌when◌}
use Rattle.moves.specs.Session.{◌equals◌, Session, running, numbering, sent_at, in_range}
use Rattle.moves.specs.Held.{session_of, with}
use Rattle.moves.specs.declared.record.Record.{Record}
use Rattle.moves.specs.declared.record.Status.TheVariants.{Active}
use Rattle.session.specs.Calls.{refusing, spent}
use Rattle.session.specs.Held.{answered_by}
use Rattle.session.specs.declared.Answered.{Answered}
use Rattle.session.specs.declared.Refusal.{Refusal}
use Rattle.session.specs.declared.Refusal.TheVariants.{SessionClosed, NumbersSpent, TimePast, BadValue, NoRoom, BadRecord, ReportTooLong, Replaying, BadStore}
use Rattle.session.specs.Answer.{Answer, Done, Refused}
use Rattle.reporting.specs.Call.{message, longest}

-- the refusals that ask nothing of the values, 11, 13, 14, 7, 2, 5, and those that do, 8, 12, 9
unfoldable pub of_session : Session → Bool → ℕ → List (Math.Option Answer)
of_session s stored t =
    Refused BadRecord when not (in_range s) ∷
    Refused Replaying when running s.replay ∷
    Refused BadStore when not stored ∷
    Refused TimePast when limit ≤? t ∷
    Refused SessionClosed when not (s.status equals Active) ∷
    Refused NumbersSpent when spent s ∷
    []

unfoldable pub of_values : Session → Values → ℕ → ℕ → List (Math.Option Answer)
of_values s v t room =
    Refused BadValue when not (takes v) ∷
    Refused ReportTooLong when longest <? length (message s v t) ∷
    Refused NoRoom when room <? length (message s v t) ∷
    []

-- the fields in front of the report's own
abbrev pub head_of : Bytes → Bytes → ℕ → Bytes → List Field
head_of us them n stamp =
    35 is bytes (fix "AE") ∷ 49 is bytes us ∷ 56 is bytes them ∷ 34 is number n ∷ 52 is bytes stamp ∷ []

-- all of them in a body, up to a place; none where a value is unfit
pub record PutBody (s : Session) (v : Values) (t : ℕ) (d d' : Bytes) (end : Option ℕ) : Type 0 where
  pub writes : takes v ≡ true → (to : ℕ) × (end ≡ Some to) × (to ≤ 768) × Wrote d d' 0 to (row (fields_of s.ours s.peers (record { values = v; number = s.next; time = t })))
  pub refuses : takes v ≡ false → end ≡ None

-- what a call answers that its values or its room refuse, or whose report has so many bytes
abbrev pub answered_as : Record → ℕ → Result ℕ Refusal → Answered
answered_as r t (Ok len) = record { answer = Done; after = with r (sent_at t (numbering (r.next + 1) (session_of r))); len = len }
answered_as r t (Err k) = answered_by r (refusing k (session_of r) [])
