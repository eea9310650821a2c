-- The C border of writing and of the session's calls: for each call the relation between what it is given and all that it answers and leaves.
use Rattle.std.specs.Prelude.{ℕ, ◌≡◌, List, [], ◌∷◌, Bool, true, false, eqb, length}
use Rattle.std.proofs.Math.Option.{Option, none, some}
use Rattle.octets.specs.Bytes.{Bytes}
use Rattle.frame.specs.Stream.{joined}
use Rattle.writer.specs.Call as Writer
use Rattle.session.specs.Refusals.{No, numbers}
use Rattle.moves.specs.Held.{session_of, with}
use Rattle.session.specs.Held.{record_of}
use Rattle.session.specs.Calls.{Outcome, step, store_after, tick, logout, test_request, new, reconnect}
use Rattle.report.specs.Layout.{values_given}
use Rattle.reporting.specs.Call.{report}
use Rattle.reporting.specs.Call as Reporting
use Rattle.replaying.specs.Call.{replay}
use Rattle.moves.specs.declared.record.Record.{Record}
use Rattle.session.specs.declared.Refusal.TheVariants.{BadRecord}
use Rattle.border.specs.Numbers.{refusal_of, value_of}
use Rattle.border.specs.Record.{comp_ids_of, words_of, saved, record_in}
use Rattle.border.specs.Values.{values_of}

-- THE CALLS ON A RECORD, each with all that it leaves: the number returned, the words, the out words, the buffer.
-- Where no record lies in the bytes and words it is refusal 11, "record breaks its ranges", and all is "unchanged".
pub record Left : Type 0 where
  pub number : ℕ
  pub words : List ℕ
  pub out : List ℕ
  pub buffer : Bytes

abbrev pub unread : List ℕ → List ℕ → Bytes → Left
unread words out buf = record { number = No BadRecord; words = words; out = out; buffer = buf }

abbrev pub left_by : List ℕ → Record → Outcome → List ℕ → Left
left_by words r o out =
    record { number = refusal_of (numbers o.answer); words = saved words (with r o.session); out = out; buffer = o.buffer }

abbrev pub reply_length : Outcome → ℕ
reply_length o = length (joined o.reply)

-- the two calls that may write to the store leave it too (document 02, Q-4)
pub record LeftWithStore : Type 0 where
  pub left : Left
  pub store : Bytes

-- fixgw_step: whether the frame is delivered, 1 or 0, and the reply's length
abbrev pub step_from : List ℕ → Bytes → ℕ → Bytes → Bytes → Option Record → LeftWithStore
step_from words frame time buf store none = record { left = unread words (0 ∷ 0 ∷ []) buf; store = store }
step_from words frame time buf store (some r) =
    let o = step (session_of r) frame time buf store in
    record { left = left_by words r o (value_of (numbers o.answer) ∷ reply_length o ∷ []); store = store_after (session_of r) frame time buf store }

unfoldable pub step_out : Bytes → List ℕ → Bytes → ℕ → Bytes → Bytes → LeftWithStore
step_out ids words frame time buf store = step_from words frame time buf store (record_in ids words)

abbrev pub StepOut : Bytes → List ℕ → Bytes → ℕ → Bytes → Bytes → ℕ → List ℕ → List ℕ → Bytes → Bytes → Type 0
StepOut ids words frame time buf store r words' out buf' store' =
    record { left = record { number = r; words = words'; out = out; buffer = buf' }; store = store' } ≡ step_out ids words frame time buf store

-- fixgw_tick: the reply's length
abbrev pub reply_from : List ℕ → Bytes → (Record → Outcome) → Option Record → Left
reply_from words buf call none = unread words (0 ∷ []) buf
reply_from words buf call (some r) = left_by words r (call r) (reply_length (call r) ∷ [])

unfoldable pub tick_out : Bytes → List ℕ → ℕ → Bytes → Left
tick_out ids words time buf = reply_from words buf (λ r. tick (session_of r) time buf) (record_in ids words)

abbrev pub TickOut : Bytes → List ℕ → ℕ → Bytes → ℕ → List ℕ → List ℕ → Bytes → Type 0
TickOut ids words time buf r words' out buf' = record { number = r; words = words'; out = out; buffer = buf' } ≡ tick_out ids words time buf

-- fixgw_logout and fixgw_test_request, messages of the venue's own: the reply's length
unfoldable pub logout_out : Bytes → List ℕ → ℕ → Bytes → Left
logout_out ids words time buf = reply_from words buf (λ r. logout (session_of r) time buf) (record_in ids words)

abbrev pub LogoutOut : Bytes → List ℕ → ℕ → Bytes → ℕ → List ℕ → List ℕ → Bytes → Type 0
LogoutOut ids words time buf r words' out buf' = record { number = r; words = words'; out = out; buffer = buf' } ≡ logout_out ids words time buf

unfoldable pub test_request_out : Bytes → List ℕ → Bytes → ℕ → Bytes → Left
test_request_out ids words id time buf = reply_from words buf (λ r. test_request (session_of r) id time buf) (record_in ids words)

abbrev pub TestRequestOut : Bytes → List ℕ → Bytes → ℕ → Bytes → ℕ → List ℕ → List ℕ → Bytes → Type 0
TestRequestOut ids words id time buf r words' out buf' = record { number = r; words = words'; out = out; buffer = buf' } ≡ test_request_out ids words id time buf

-- fixgw_report: the report's length; its values lie in 82 words and a text beside them
abbrev pub report_from : List ℕ → List ℕ → Bytes → ℕ → Bytes → Bytes → Option Record → LeftWithStore
report_from words values text time buf store none = record { left = unread words (0 ∷ []) buf; store = store }
report_from words values text time buf store (some r) =
    let o = report (session_of r) (values_given values text) time buf store in
    record { left = left_by words r o (reply_length o ∷ []); store = Reporting.store_after (session_of r) (values_given values text) time buf store }

unfoldable pub report_out : Bytes → List ℕ → List ℕ → Bytes → ℕ → Bytes → Bytes → LeftWithStore
report_out ids words values text time buf store = report_from words values text time buf store (record_in ids words)

abbrev pub ReportOut : Bytes → List ℕ → List ℕ → Bytes → ℕ → Bytes → Bytes → ℕ → List ℕ → List ℕ → Bytes → Bytes → Type 0
ReportOut ids words values text time buf store r words' out buf' store' =
    record { left = record { number = r; words = words'; out = out; buffer = buf' }; store = store' } ≡ report_out ids words values text time buf store

-- fixgw_replay: the message's length; the store is lent to be read
unfoldable pub replay_out : Bytes → List ℕ → ℕ → Bytes → Bytes → Left
replay_out ids words time buf store = reply_from words buf (λ r. replay (session_of r) time buf store) (record_in ids words)

abbrev pub ReplayOut : Bytes → List ℕ → ℕ → Bytes → Bytes → ℕ → List ℕ → List ℕ → Bytes → Type 0
ReplayOut ids words time buf store r words' out buf' = record { number = r; words = words'; out = out; buffer = buf' } ≡ replay_out ids words time buf store

-- fixgw_reconnect
pub record LeftByReconnect : Type 0 where
  pub number : ℕ
  pub words : List ℕ

abbrev pub reconnect_from : List ℕ → Option Record → LeftByReconnect
reconnect_from words none = record { number = No BadRecord; words = words }
reconnect_from words (some r) =
    let o = reconnect (session_of r) in record { number = refusal_of (numbers o.answer); words = saved words (with r o.session) }

unfoldable pub reconnect_out : Bytes → List ℕ → LeftByReconnect
reconnect_out ids words = reconnect_from words (record_in ids words)

abbrev pub ReconnectOut : Bytes → List ℕ → ℕ → List ℕ → Type 0
ReconnectOut ids words r words' = record { number = r; words = words' } ≡ reconnect_out ids words

-- fixgw_new: a record of another length than 24 words is 11, and nothing is written
pub record LeftByNew : Type 0 where
  pub number : ℕ
  pub ids : Bytes
  pub words : List ℕ

abbrev pub new_from : Outcome → LeftByNew
new_from o =
    let r = record_of o.session in record { number = refusal_of (numbers o.answer); ids = comp_ids_of r; words = words_of r }

abbrev pub new_if : Bytes → List ℕ → Bytes → Bytes → Bool → LeftByNew
new_if ids words us them true = new_from (new us them)
new_if ids words us them false = record { number = No BadRecord; ids = ids; words = words }

unfoldable pub new_out : Bytes → List ℕ → Bytes → Bytes → LeftByNew
new_out ids words us them = new_if ids words us them (eqb (length words) 24)

abbrev pub NewOut : Bytes → List ℕ → Bytes → Bytes → ℕ → Bytes → List ℕ → Type 0
NewOut ids words us them r ids' words' = record { number = r; ids = ids'; words = words' } ≡ new_out ids words us them

-- WRITING, from the values that lie in words
pub record LeftByWrite : Type 0 where
  pub number : ℕ
  pub out : List ℕ
  pub buffer : Bytes

-- fixgw_write: the message's length, 0 under a refusal
abbrev pub write_from : Writer.Outcome → LeftByWrite
write_from o =
    record { number = refusal_of (Writer.numbers o.answer); out = value_of (Writer.numbers o.answer) ∷ []; buffer = o.buffer }

unfoldable pub write_out : Bytes → List ℕ → Bytes → Bytes → LeftByWrite
write_out type words text buf = write_from (Writer.write type (values_of words) text buf)

abbrev pub WriteOut : Bytes → List ℕ → Bytes → Bytes → ℕ → List ℕ → Bytes → Type 0
WriteOut type words text buf r out buf' = record { number = r; out = out; buffer = buf' } ≡ write_out type words text buf
