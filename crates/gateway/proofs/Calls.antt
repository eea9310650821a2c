-- What the calls of writing and of the session leave at the border, a law for each way out of them. Assumes nothing.
use Rattle.std.specs.Prelude.{if◌then◌else◌}
use Prim.Native.Nat.{ℕ, ◌+◌, ◌≤◌}
use mathlib.Core.Path.{◌≡◌, refl, sym, ap, ◌∙◌}
use mathlib.Core.List.{List, [], ◌∷◌}
use mathlib.Core.Bool.{Bool, true, false, not, ◌&&◌}
use mathlib.Core.Option.{none, some}
use native.Mathlib.Omega.{arith}
use borrow.Author.Tests.{eq-eqb, ne_eqb}
use lib.ListN.{length}
use Rattle.octets.specs.Bytes.{Bytes, has, within}
use Rattle.octets.proofs.Numerals.{within_is}
use Rattle.octets.proofs.Tests.{both}
use Rattle.std.specs.Prelude.{Err}
use denote.Enum.Declared.{tag_of}
use Rattle.writer.specs.contracts.Unwritten.{the_type}
use Rattle.writer.specs.declared.Unwritten.{Unwritten}
use Rattle.writer.specs.declared.Unwritten.TheVariants.{Unfit, Short}
use Rattle.writer.specs.Call.{Values, Written, write}
use Rattle.session.specs.Refusals.{numbers}
use Rattle.moves.specs.Session.{fresh, turned}
use Rattle.message.specs.Unfit.{comp_id}
use Rattle.moves.specs.Held.{session_of}
use Rattle.session.specs.Held.{answered_by, Leaves, answered_new}
use Rattle.session.specs.Calls.{keeping, step, store_after, tick, logout, test_request, new, reconnect}
use Rattle.report.specs.Layout.{values_given}
use Rattle.reporting.specs.Call.{report}
use Rattle.reporting.specs.Call as Reporting
use Rattle.replaying.specs.Call.{replay}
use Rattle.moves.specs.declared.record.Record.{Record}
use Rattle.session.specs.declared.Answered.{Answered}
use Rattle.moves.specs.declared.record.Status.TheVariants.{Closed}
use Rattle.session.specs.declared.Refusal.TheVariants.{BadRecord}
use Rattle.session.specs.Answer.{Done, Refused}
use Rattle.border.specs.Numbers.{refusal_of, value_of}
use Rattle.border.specs.Record.{comp_ids_of, words_of, saved, record_in}
use Rattle.border.specs.Values.{values_of}
use Rattle.gateway.specs.Calls.{unread, step_from, step_out, reply_from, tick_out, logout_out, test_request_out, report_from, report_out, replay_out, reconnect_from, reconnect_out, new_if, new_out, write_from, write_out}

-- NO RECORD lies in the bytes and words
module _ (ids : Bytes) (words : List ℕ) (none-lies : none ≡ record_in ids words) where
  pub step_unread : (frame : Bytes) (time : ℕ) (buf store : Bytes) → record { left = unread words (0 ∷ 0 ∷ []) buf; store = store } ≡ step_out ids words frame time buf store
  unfolding step_out
  step_unread frame time buf store = ap (step_from words frame time buf store) none-lies

  pub tick_unread : (time : ℕ) (buf : Bytes) → unread words (0 ∷ []) buf ≡ tick_out ids words time buf
  unfolding tick_out
  tick_unread time buf = ap (reply_from words buf (λ r. tick (session_of r) time buf)) none-lies

  pub logout_unread : (time : ℕ) (buf : Bytes) → unread words (0 ∷ []) buf ≡ logout_out ids words time buf
  unfolding logout_out
  logout_unread time buf = ap (reply_from words buf (λ r. logout (session_of r) time buf)) none-lies

  pub test_request_unread : (id : Bytes) (time : ℕ) (buf : Bytes) → unread words (0 ∷ []) buf ≡ test_request_out ids words id time buf
  unfolding test_request_out
  test_request_unread id time buf = ap (reply_from words buf (λ r. test_request (session_of r) id time buf)) none-lies

  pub report_unread : (values : List ℕ) (text : Bytes) (time : ℕ) (buf store : Bytes) → record { left = unread words (0 ∷ []) buf; store = store } ≡ report_out ids words values text time buf store
  unfolding report_out
  report_unread values text time buf store = ap (report_from words values text time buf store) none-lies

  pub replay_unread : (time : ℕ) (buf store : Bytes) → unread words (0 ∷ []) buf ≡ replay_out ids words time buf store
  unfolding replay_out
  replay_unread time buf store = ap (reply_from words buf (λ r. replay (session_of r) time buf store)) none-lies

  pub reconnect_unread : record { number = 11; words = words } ≡ reconnect_out ids words
  unfolding reconnect_out
  reconnect_unread = ap (reconnect_from words) none-lies

-- ONE LIES THERE, and what a call left of it is saved
module _ (ids : Bytes) (words : List ℕ) {r : Record} (one_lies : some r ≡ record_in ids words) where
  module _ {a : Answered} {n : ℕ} {words' : List ℕ} (numbered : n ≡ refusal_of (numbers a.answer)) (saves : words' ≡ saved words a.after) where
    pub step_left : (frame : Bytes) (time : ℕ) (buf store : Bytes) {buf' store' : Bytes} {d : ℕ} → d ≡ value_of (numbers a.answer) → Leaves r (step (session_of r) frame time buf store) a buf' → store' ≡ store_after (session_of r) frame time buf store
        → record { left = record { number = n; words = words'; out = d ∷ a.len ∷ []; buffer = buf' }; store = store' } ≡ step_out ids words frame time buf store
    unfolding step_out
    step_left frame time buf store delivers leaves stored = rw (numbered, saves, delivers, stored, leaves.answered, leaves.buffer) (ap (step_from words frame time buf store) one_lies)

    pub tick_left : (time : ℕ) (buf : Bytes) {buf' : Bytes} → Leaves r (tick (session_of r) time buf) a buf' → record { number = n; words = words'; out = a.len ∷ []; buffer = buf' } ≡ tick_out ids words time buf
    unfolding tick_out
    tick_left time buf leaves = rw (numbered, saves, leaves.answered, leaves.buffer) (ap (reply_from words buf (λ y. tick (session_of y) time buf)) one_lies)

    pub logout_left : (time : ℕ) (buf : Bytes) {buf' : Bytes} → Leaves r (logout (session_of r) time buf) a buf' → record { number = n; words = words'; out = a.len ∷ []; buffer = buf' } ≡ logout_out ids words time buf
    unfolding logout_out
    logout_left time buf leaves = rw (numbered, saves, leaves.answered, leaves.buffer) (ap (reply_from words buf (λ y. logout (session_of y) time buf)) one_lies)

    pub test_request_left : (id : Bytes) (time : ℕ) (buf : Bytes) {buf' : Bytes} → Leaves r (test_request (session_of r) id time buf) a buf' → record { number = n; words = words'; out = a.len ∷ []; buffer = buf' } ≡ test_request_out ids words id time buf
    unfolding test_request_out
    test_request_left id time buf leaves = rw (numbered, saves, leaves.answered, leaves.buffer) (ap (reply_from words buf (λ y. test_request (session_of y) id time buf)) one_lies)

    pub report_left : (values : List ℕ) (text : Bytes) (time : ℕ) (buf store : Bytes) {buf' store' : Bytes} → Leaves r (report (session_of r) (values_given values text) time buf store) a buf'
        → store' ≡ Reporting.store_after (session_of r) (values_given values text) time buf store
        → record { left = record { number = n; words = words'; out = a.len ∷ []; buffer = buf' }; store = store' } ≡ report_out ids words values text time buf store
    unfolding report_out
    report_left values text time buf store leaves stored = rw (numbered, saves, stored, leaves.answered, leaves.buffer) (ap (report_from words values text time buf store) one_lies)

    pub replay_left : (time : ℕ) (buf store : Bytes) {buf' : Bytes} → Leaves r (replay (session_of r) time buf store) a buf' → record { number = n; words = words'; out = a.len ∷ []; buffer = buf' } ≡ replay_out ids words time buf store
    unfolding replay_out
    replay_left time buf store leaves = rw (numbered, saves, leaves.answered, leaves.buffer) (ap (reply_from words buf (λ y. replay (session_of y) time buf store)) one_lies)

    pub reconnect_left : a ≡ answered_by r (reconnect (session_of r)) → record { number = n; words = words' } ≡ reconnect_out ids words
    unfolding reconnect_out
    reconnect_left leaves = rw (numbered, saves, leaves) (ap (reconnect_from words) one_lies)

-- A NEW RECORD
module _ (ids : Bytes) (words : List ℕ) (us them : Bytes) where
  pub new_unwritten : (length words ≡ 24 → ⊥) → record { number = 11; ids = ids; words = words } ≡ new_out ids words us them
  unfolding new_out
  new_unwritten h = ap (new_if ids words us them) (sym (ne_eqb (length words) 24 h))

  pub new_left : length words ≡ 24 → {a : Answered} {i : Bytes} {w : List ℕ} {n : ℕ} → a ≡ answered_new (new us them) → n ≡ refusal_of (numbers a.answer) → i ≡ comp_ids_of a.after → w ≡ words_of a.after → record { number = n; ids = i; words = w } ≡ new_out ids words us them
  unfolding new_out
  new_left e L p b q = rw (p, b, q, L) (ap (new_if ids words us them) (sym (eq-eqb (length words) 24 e)))

-- the CompIDs of a new session are at most eleven bytes, also where it is refused
pub new_short : (us them : Bytes) {a : Answered} → a ≡ answered_new (new us them) → (a.after.oursLen ≤ 11) × (a.after.peerLen ≤ 11)
unfolding new comp_id
new_short us them e = go (comp_id us) (comp_id them) refl refl e
  where
    short : (c : Bytes) → comp_id c ≡ true → length c ≤ 11
    short c k = (within_is 1 11 (length c) (both (within 1 11 (length c)) (not (has c 1)) k).0).1

    go : (x y : Bool) → comp_id us ≡ x → comp_id them ≡ y → {a : Answered} → a ≡ answered_new (if x && y then keeping Done (fresh us them) [] else keeping (Refused BadRecord) (turned Closed (fresh [] [])) []) → (a.after.oursLen ≤ 11) × (a.after.peerLen ≤ 11)
    go true true p q e = rw e (short us p, short them q)
    go true false p q e = rw e (omega arith, omega arith)
    go false true p q e = rw e (omega arith, omega arith)
    go false false p q e = rw e (omega arith, omega arith)

-- WRITING, for each answer of the writer
pub write-left : (type : Bytes) (words : List ℕ) (text buf : Bytes) {vs : Values} {x y : Written} {buf' : Bytes} → vs ≡ values_of words → record { answer = x; buffer = buf' } ≡ write type vs text buf → x ≡ y → write_from (record { answer = y; buffer = buf' }) ≡ write_out type words text buf
unfolding write_out
write-left type words text buf {buf' = buf'} v w e =
    ap (λ (z : Written). write_from (record { answer = z; buffer = buf' })) (sym e) ∙ ap write_from w ∙ ap (λ (z : Values). write_from (write type z text buf)) v

-- a refusal of its, by the number that the code gives it
pub write-refused : (type : Bytes) (words : List ℕ) (text buf : Bytes) {vs : Values} {x : Written} {buf' : Bytes} (e : Unwritten) → vs ≡ values_of words → record { answer = x; buffer = buf' } ≡ write type vs text buf → x ≡ Err e
    → record { number = tag_of the_type e + 8; out = 0 ∷ []; buffer = buf' } ≡ write_out type words text buf
write-refused type words text buf Unfit v w e = write-left type words text buf v w e
write-refused type words text buf Short v w e = write-left type words text buf v w e
