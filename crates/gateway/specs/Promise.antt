-- The whole promise on one page: what a host that calls this library may rely on, in the words of documents 01 and 02 and of the three demands.
-- Shown once, by `promise` in proofs/Promise.antt. What each call does is its relation (Border.antt, Calls.antt), which is its whole contract.
use Rattle.std.specs.Prelude.{ℕ, ◌≤◌, ◌≡◌, ◌⊎◌, List, [], ◌∷◌, true, length, take, drop, get_or, if◌then◌else◌}
use Rattle.std.proofs.Math.Option.{Option, none, some}
use Rattle.octets.specs.Bytes.{Bytes, Byted, fix, within}
use Rattle.calendar.specs.Time.{utc}
use Rattle.frame.specs.Frame.{fixt, Good}
use Rattle.frame.specs.Stream.{Frames, joined}
use Rattle.frame.specs.Promise as Frame
use Rattle.frame.specs.Promise.{ExactlyOne}
use Rattle.line.specs.Promise as Line
use Rattle.fields.specs.Field.{first_field}
use Rattle.fields.specs.Promise as Fields
use Rattle.dictionary.specs.Verdict.{verdict}
use Rattle.dictionary.specs.Verdict.{Clean}
use Rattle.dictionary.specs.Promise as Dictionary
use Rattle.replies.specs.Promise as Replies
use Rattle.writer.specs.Promise as Writer
use Rattle.report.specs.Values.{Values}
use Rattle.report.specs.Layout.{values_given}
use Rattle.report.specs.Report.{Report}
use Rattle.report.specs.Promise as Report
use Rattle.kept.specs.Kept as Kept
use Rattle.store.specs.Store.{find}
use Rattle.store.specs.Plan.{Run}
use Rattle.store.specs.Promise as Store
use Rattle.readback.specs.Back.{read_back, words_in}
use Rattle.readback.specs.Back as ReadBack
use Rattle.readback.specs.Promise as Back
use Rattle.moves.specs.Session.{Session, fresh, in_range}
use Rattle.moves.specs.Held.{session_of}
use Rattle.session.specs.Refusals.{numbers}
use Rattle.session.specs.Calls.{Outcome, step, store_after, tick, logout, test_request, reconnect}
use Rattle.session.specs.Promise as Session
use Rattle.session.specs.Promise.{Head}
use Rattle.reporting.specs.Call.{report}
use Rattle.reporting.specs.Call as Reporting
use Rattle.reporting.specs.Promise as ReportCall
use Rattle.replaying.specs.Call.{its_table, replay}
use Rattle.replaying.specs.Promise as Replaying
use Rattle.sequence.specs.Promise as Sequence
use Rattle.requests.specs.Promise as Requests
use Rattle.duplicates.specs.Promise as Duplicates
use Rattle.moves.specs.declared.record.Record.{Record}
use Rattle.gateway.specs.Border.{ReadOut, PutOut, DropOut, BodyOut, FieldOut, FirstOut, VerdictOut, ReportValuesOut}
use Rattle.border.specs.Numbers.{refusal_of}
use Rattle.border.specs.Record.{closed_in, record_in}
use Rattle.border.specs.Values.{values_of}
use Rattle.gateway.specs.Calls.{Left, LeftWithStore, LeftByNew, LeftByReconnect, LeftByWrite, WriteOut, NewOut, ReconnectOut, StepOut, TickOut, LogoutOut, TestRequestOut, ReportOut, ReplayOut}

-- ANSWERS. "Whatever bytes, numbers or session record a call is given, it ends, stays inside its memory and answers." That a call ends and stays inside
-- its memory is proved with its code, of which nothing is asked; its answer, and all that it leaves, is exactly one.
pub record Answers : Type 0 where
  pub read : (bytes : Bytes) → ExactlyOne (λ (o : ℕ × List ℕ). ReadOut bytes o.0 o.1)
  pub body : (frame : Bytes) → ExactlyOne (λ (o : ℕ × List ℕ). BodyOut frame o.0 o.1)
  pub field : (body : Bytes) (at : ℕ) → ExactlyOne (λ (o : ℕ × List ℕ). FieldOut body at o.0 o.1)
  pub first_field_lem : (body : Bytes) (tag : ℕ) → ExactlyOne (λ (o : ℕ × List ℕ). FirstOut body tag o.0 o.1)
  pub verdict : (body : Bytes) → ExactlyOne (λ (o : ℕ × List ℕ). VerdictOut body o.0 o.1)
  pub report_values : (body : Bytes) → ExactlyOne (λ (o : ℕ × (List ℕ × List ℕ)). ReportValuesOut body o.0 o.1.0 o.1.1)
  pub put : (buf : Bytes) (held : ℕ) (piece : Bytes) → ExactlyOne (λ (o : ℕ × Bytes). PutOut buf held piece o.0 o.1)
  pub drop : (buf : Bytes) (held n : ℕ) → ExactlyOne (λ (o : ℕ × Bytes). DropOut buf held n o.0 o.1)
  pub write : (type : Bytes) (values : List ℕ) (text buf : Bytes) → ExactlyOne (λ (o : LeftByWrite). WriteOut type values text buf o.number o.out o.buffer)
  pub new : (ids : Bytes) (words : List ℕ) (us them : Bytes) → ExactlyOne (λ (o : LeftByNew). NewOut ids words us them o.number o.ids o.words)
  pub reconnect : (ids : Bytes) (words : List ℕ) → ExactlyOne (λ (o : LeftByReconnect). ReconnectOut ids words o.number o.words)
  pub step : (ids : Bytes) (words : List ℕ) (frame : Bytes) (time : ℕ) (buf store : Bytes) → ExactlyOne (λ (o : LeftWithStore). StepOut ids words frame time buf store o.left.number o.left.words o.left.out o.left.buffer o.store)
  pub tick : (ids : Bytes) (words : List ℕ) (time : ℕ) (buf : Bytes) → ExactlyOne (λ (o : Left). TickOut ids words time buf o.number o.words o.out o.buffer)
  pub logout : (ids : Bytes) (words : List ℕ) (time : ℕ) (buf : Bytes) → ExactlyOne (λ (o : Left). LogoutOut ids words time buf o.number o.words o.out o.buffer)
  pub test_request : (ids : Bytes) (words : List ℕ) (id : Bytes) (time : ℕ) (buf : Bytes) → ExactlyOne (λ (o : Left). TestRequestOut ids words id time buf o.number o.words o.out o.buffer)
  pub report : (ids : Bytes) (words values : List ℕ) (text : Bytes) (time : ℕ) (buf store : Bytes) → ExactlyOne (λ (o : LeftWithStore). ReportOut ids words values text time buf store o.left.number o.left.words o.left.out o.left.buffer o.store)
  pub replay : (ids : Bytes) (words : List ℕ) (time : ℕ) (buf store : Bytes) → ExactlyOne (λ (o : Left). ReplayOut ids words time buf store o.number o.words o.out o.buffer)

-- WHAT A CALL ON A RECORD LEAVES, whichever of the six that write it is: step, tick, the venue's own Logout and Test Request, the report and the replay
-- a record in its ranges lies in the bytes and words
pub record Ranged (ids : Bytes) (words : List ℕ) : Type 0 where
  pub its_record : Record
  pub lies : record_in ids words ≡ some its_record
  pub ranged : in_range (session_of its_record) ≡ true

-- "A refusal keeps every old byte of the reply buffer and changes the session only where the table says": under 3, 4 and 5 it is Closed, which drops an
-- unfinished replay, and else nothing is changed
pub record Refused (words : List ℕ) (buf : Bytes) (number : ℕ) (words' : List ℕ) (buf' : Bytes) : Type 0 where
  pub buffer : buf' ≡ buf
  pub session : words' ≡ (if within 3 5 number then closed_in words else words)

-- THE RECORD IN MEMORY IS THE SESSION
-- the record of this session lies in the bytes and words
pub record Lies (ids : Bytes) (words : List ℕ) (s : Session) : Type 0 where
  pub its_record : Record
  pub lies : record_in ids words ≡ some its_record
  pub is : session_of its_record ≡ s

-- Of a record r that lies there: the call answers what the session's call answers, and what lies there behind it is the session that this call leaves. So
-- what is promised of a session, and of any run of calls on one, holds of the record that a host keeps.
pub record Carried (ids : Bytes) (r : Record) (by : Session → Outcome) (o : Left) : Type 0 where
  pub number : o.number ≡ refusal_of (numbers (by (session_of r)).answer)
  pub left : Lies ids o.words (by (session_of r)).session
  pub buffer : o.buffer ≡ (by (session_of r)).buffer

-- the same of a reconnect, which writes nothing, and of a new record
pub record Reconnected (ids : Bytes) (words : List ℕ) (o : LeftByReconnect) : Type 0 where
  pub carried : (r : Record) → record_in ids words ≡ some r → Lies ids o.words (reconnect (session_of r)).session
  pub ranged : Ranged ids words → (o.number ≡ 0) × Ranged ids o.words

pub record Begun (us them : Bytes) (o : LeftByNew) : Type 0 where
  pub carried : Lies o.ids o.words (fresh us them)
  pub ranged : Ranged o.ids o.words

-- what holds of the session that lies there; of none, nothing
abbrev pub Of : Option Record → (Session → Type 0) → Type 0
Of none P = ⊥
Of (some r) P = P (session_of r)

-- A REPORT of values v: a good frame of at most 512 bytes with a clean verdict, from us to the peer as the next number out, and fixgw_report_values reads these
-- values back out of its body
pub record WholeReport (v : Values) (t : ℕ) (m : Bytes) (s : Session) : Type 0 where
  pub frame : Good fixt m
  pub short : length m ≤ 512
  pub no_finding : verdict frame.body ≡ Clean
  pub head : Head s.ours s.peers t s.next frame.body
  pub answered : read_back frame.body ≡ ReadBack.Values
  pub reads_back : values_given (words_in frame.body) frame.body ≡ v

-- A MESSAGE OF A REPLAY, at the place of the replay: the report that is kept under that number again, as a possible duplicate, a good frame of at most 600 bytes
-- with a clean verdict, out of whose body fixgw_report_values reads the values that it was written from;
pub record ReportAgain (t : ℕ) (store m : Bytes) (s : Session) : Type 0 where
  pub frame : Good fixt m
  pub short : length m ≤ 600
  pub no_finding : verdict frame.body ≡ Clean
  pub its_report : Report
  pub is_kept : find s.replay.at (its_table s store) ≡ some its_report
  pub head : Head s.ours s.peers t s.replay.at frame.body
  pub possible_duplicate : first_field 43 frame.body ≡ some (fix "Y")
  pub first_52 : first_field 122 frame.body ≡ some (utc its_report.time)
  pub answered : read_back frame.body ≡ ReadBack.Values
  pub reads_back : values_given (words_in frame.body) frame.body ≡ its_report.values

-- or a gap fill over a longest run of numbers from there on of which none is kept
pub record GapFill (t : ℕ) (store m : Bytes) (s : Session) : Type 0 where
  pub whole : Session.Whole m
  pub to : ℕ
  pub run : Run (its_table s store) s.replay.to s.replay.at s.replay.at to
  pub filled : Replaying.Filled s.ours s.peers t s.replay.at to whole.frame.body

pub data Replayed (t : ℕ) (store m : Bytes) (s : Session) : Type 0 where
  again : ReportAgain t store m s → Replayed t store m s
  gap_filled : GapFill t store m s → Replayed t store m s

abbrev pub AllOf : (Bytes → Type 0) → List Bytes → Type 0
AllOf Whole [] = Unit {0}
AllOf Whole (m ∷ ms) = Whole m × AllOf Whole ms

-- the reply: messages one behind the other at the front of the buffer, each "a good frame and reads as the values it was written from", as `Whole` says
-- (Session.Whole, a report's or a replay's); a member who reads its n bytes gets just these messages. "Behind a reply .. the buffer keeps its old bytes."
pub record Replied (Whole : Bytes → Type 0) (buf : Bytes) (n : ℕ) (buf' : Bytes) : Type 0 where
  pub messages : List Bytes
  pub whole : AllOf Whole messages
  pub front : take n buf' ≡ joined messages
  pub read : Frames fixt (take n buf') messages
  pub behind : drop n buf' ≡ drop n buf

-- and one message, which is those n bytes
pub record OneMessage (Whole : Bytes → Type 0) (buf : Bytes) (n : ℕ) (buf' : Bytes) : Type 0 where
  pub whole : Whole (take n buf')
  pub behind : drop n buf' ≡ drop n buf

-- what is left by a call with n bytes of reply
pub record Leaves (by : Session → Outcome) (Whole : Bytes → Type 0) (ids : Bytes) (words : List ℕ) (buf : Bytes) (n : ℕ) (o : Left) : Type 0 where
  pub refused : (o.number ≡ 0 → ⊥) → Refused words buf o.number o.words o.buffer
  pub carried : (r : Record) → record_in ids words ≡ some r → Carried ids r by o
  -- the next call finds a record in its ranges, if this one did
  pub ranged : Ranged ids words → Ranged ids o.words
  pub replied : Byted ids → Replied Whole buf n o.buffer

-- a call that may write to the store: the same, the store is as the session's call leaves it, and "no refusal changes the store"
pub record LeavesStore (by : Session → Outcome) (after : Session → Bytes) (Whole : Bytes → Type 0) (ids : Bytes) (words : List ℕ) (buf store : Bytes) (n : ℕ) (o : LeftWithStore) : Type 0 where
  pub leaves : Leaves by Whole ids words buf n o.left
  pub stored : (r : Record) → record_in ids words ≡ some r → o.store ≡ after (session_of r)
  pub refused : (o.left.number ≡ 0 → ⊥) → o.store ≡ store

-- the reply's length among the out words
abbrev pub out_length : List ℕ → ℕ
out_length [] = 0
out_length (n ∷ []) = n
out_length (d ∷ n ∷ out) = n

pub record Lasts : Type 0 where
  pub step : (ids : Bytes) (words : List ℕ) (frame : Bytes) (time : ℕ) (buf store : Bytes) (o : LeftWithStore) → Byted frame → StepOut ids words frame time buf store o.left.number o.left.words o.left.out o.left.buffer o.store
      → LeavesStore (λ s. step s frame time buf store) (λ s. store_after s frame time buf store) Session.Whole ids words buf store (out_length o.left.out) o
  pub tick : (ids : Bytes) (words : List ℕ) (time : ℕ) (buf : Bytes) (o : Left) → TickOut ids words time buf o.number o.words o.out o.buffer → Leaves (λ s. tick s time buf) Session.Whole ids words buf (out_length o.out) o
  pub logout : (ids : Bytes) (words : List ℕ) (time : ℕ) (buf : Bytes) (o : Left) → LogoutOut ids words time buf o.number o.words o.out o.buffer → Leaves (λ s. logout s time buf) Session.Whole ids words buf (out_length o.out) o
  pub test_request : (ids : Bytes) (words : List ℕ) (id : Bytes) (time : ℕ) (buf : Bytes) (o : Left) → Byted id → TestRequestOut ids words id time buf o.number o.words o.out o.buffer
      → Leaves (λ s. test_request s id time buf) Session.Whole ids words buf (out_length o.out) o
  pub report : (ids : Bytes) (words values : List ℕ) (text : Bytes) (time : ℕ) (buf store : Bytes) (o : LeftWithStore) → Byted text
      → ReportOut ids words values text time buf store o.left.number o.left.words o.left.out o.left.buffer o.store
      → LeavesStore (λ s. report s (values_given values text) time buf store) (λ s. Reporting.store_after s (values_given values text) time buf store)
      (λ m. Of (record_in ids words) (WholeReport (values_given values text) time m)) ids words buf store (out_length o.left.out) o
  -- a report that is not refused is one message
  pub one_report : (ids : Bytes) (words values : List ℕ) (text : Bytes) (time : ℕ) (buf store : Bytes) (o : LeftWithStore) → Byted text
      → ReportOut ids words values text time buf store o.left.number o.left.words o.left.out o.left.buffer o.store → Byted ids → o.left.number ≡ 0
      → OneMessage (λ m. Of (record_in ids words) (WholeReport (values_given values text) time m)) buf (out_length o.left.out) o.left.buffer
  pub replay : (ids : Bytes) (words : List ℕ) (time : ℕ) (buf store : Bytes) (o : Left) → Byted store → ReplayOut ids words time buf store o.number o.words o.out o.buffer
      → Leaves (λ s. replay s time buf store) (λ m. Of (record_in ids words) (Replayed time store m)) ids words buf (out_length o.out) o
  -- so is a replay call's, while a replay is running, which the record's seventh word tells; "With none running nothing is due."
  pub one_replayed : (ids : Bytes) (words : List ℕ) (time : ℕ) (buf store : Bytes) (o : Left) → Byted store → ReplayOut ids words time buf store o.number o.words o.out o.buffer → Byted ids → o.number ≡ 0
      → (get_or words 6 0 ≡ 0 → ⊥) → OneMessage (λ m. Of (record_in ids words) (Replayed time store m)) buf (out_length o.out) o.buffer
  pub none_replayed : (ids : Bytes) (words : List ℕ) (time : ℕ) (buf store : Bytes) (o : Left) → ReplayOut ids words time buf store o.number o.words o.out o.buffer
      → get_or words 6 0 ≡ 0 → out_length o.out ≡ 0
  pub reconnect : (ids : Bytes) (words : List ℕ) (o : LeftByReconnect) → ReconnectOut ids words o.number o.words → Reconnected ids words o
  pub new : (ids : Bytes) (words : List ℕ) (us them : Bytes) (o : LeftByNew) → NewOut ids words us them o.number o.ids o.words → o.number ≡ 0 → Begun us them o

pub record Promise : Type 0 where
  pub answers : Answers
  pub lasts : Lasts
  -- "A written message is a good frame and reads as the values it was written from": what fixgw_write leaves with n bytes
  pub written : (type : Bytes) (values : List ℕ) (text buf : Bytes) (n : ℕ) (buf' : Bytes) → Byted text → WriteOut type values text buf 0 (n ∷ []) buf' → Writer.MessageOf type (values_of values) text buf buf' n
  pub unwritten : (type : Bytes) (values : List ℕ) (text buf : Bytes) (r : ℕ) (out : List ℕ) (buf' : Bytes) → Byted text → WriteOut type values text buf r out buf' → (r ≡ 0 → ⊥) → ((r ≡ 8) ⊎ (r ≡ 9)) × (buf' ≡ buf)
  -- "Any bytes, one good frame, any bytes ..", "However the stream is cut ..", the longest frame, the pending rest
  pub frames : Frame.Promise fixt
  pub sizes : Frame.FixtNumbers
  -- the host's loop over a lent buffer is that reading, it ends, and there is always room
  pub line : Line.Promise fixt
  pub room : Line.FixtNumbers
  -- the parts of a body, its first fields, the reader over it
  pub fields : Fields.Promise
  -- what a clean verdict says of a body, and which findings there are
  pub verdicts : Dictionary.Promise
  -- the writer call, and the replies of a session
  pub writing : Writer.Promise
  pub replies : Replies.Promise
  -- the delivered frame, the four slips, numbers out, what starts, replaces and drops a replay, the store behind a step, ranges over every run of calls, W1 to W12
  pub session : Session.Promise
  -- Trade Capture Reports: the message and what our call writes, the session's report call, and the reading back
  pub report_message : Report.Promise
  pub reports : ReportCall.Promise
  pub read_back_lem : Back.Promise
  -- the replay: what a place of the store holds, what a store keeps and the plan over it, the replay call; and any run of all calls: its numbers out, its
  -- replays, the last 64 reports in its store
  pub kept_place : Kept.Promise
  pub store : Store.Promise
  pub replays : Replaying.Promise
  -- "Nothing delivered twice, nothing stepped over", in any run of all calls between two resets
  pub sequence : Sequence.Promise
  -- "One request for each gap", in any run of all calls, and what the record says of a gap behind each
  pub requests : Requests.Promise
  -- "Original time later than the resend": what a frame that is too low comes to, by its two times
  pub duplicates : Duplicates.Promise
