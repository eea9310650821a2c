-- What a call on a record leaves, of every outcome of a session's call, of a report and of a replay call. Assumes nothing.
use Prim.Native.Nat.{ℕ}
use mathlib.Core.Path.{◌≡◌, refl, sym, ap, ap₂, ◌∙◌, subst}
use mathlib.Core.List.{List, [], ◌∷◌, append-nil}
use mathlib.Core.Bool.{true, cond}
use mathlib.Core.Option.{none, some, some-injective, none-ne-some}
use lib.ListN.{length, take, drop}
use lib.Seq.{take-append_seam, drop-append_seam}
use Rattle.octets.specs.Bytes.{Bytes, Byted, within}
use Rattle.frame.specs.Frame.{fixt}
use Rattle.frame.specs.Stream.{Frames, joined}
use Rattle.message.proofs.Joined.{joined_frames}
use Rattle.moves.specs.Session.{Session, in_range}
use Rattle.session.specs.Refusals.{No, numbers}
use Rattle.moves.specs.Held.{session_of, with}
use Rattle.session.specs.Calls.{Outcome, refusing, Call, call}
use Rattle.session.specs.Promise.{Kept, Whole, AllWhole, OfBytes, lent}
use Rattle.report.specs.Layout.{values_given}
use Rattle.reporting.specs.Call.{report}
use Rattle.reporting.proofs.Promise as Reporting
use Rattle.replaying.specs.Call.{replay}
use Rattle.replaying.specs.Run.{OurReplay}
use Rattle.replaying.proofs.Promise as Replaying
use Rattle.moves.specs.declared.record.Record.{Record}
use Rattle.std.specs.Prelude.{Ok, Err}
use Rattle.session.specs.declared.Success.TheVariants as Success
use Rattle.session.specs.Answer.{Answer}
use Rattle.session.specs.declared.Refusal.{Refusal}
use Rattle.session.specs.declared.Refusal.TheVariants.{SessionClosed, NotLogon, BadLogon, NumbersSpent, BufferShort, TimePast, BadValue, NoRoom, NotOneFrame, BadRecord, ReportTooLong, Replaying, BadStore}
use Rattle.session.proofs.Promise as Session
use Rattle.border.specs.Numbers.{refusal_of}
use Rattle.border.specs.Record.{saved, closed_in, record_in}
use Rattle.gateway.specs.Calls.{left_by, unread, reply_length}
use Rattle.gateway.specs.Promise.{Ranged, Refused, Lies, Carried, WholeReport, Replayed, AllOf, Replied, OneMessage, Leaves, out_length}
use Rattle.gateway.proofs.Reports.{report_done, report_whole}
use Rattle.gateway.proofs.Replays.{replay_done, replay_rests, replay_whole}
use Rattle.report.proofs.Supplied.{given_bytes}
use Rattle.border.proofs.Keeping.{loaded_saves, saved_loads, closed_words, held_bytes}

-- a table's row at the border: nothing of the words is changed, or the session is Closed
module _ (ids : Bytes) (words : List ℕ) (r : Record) (lies : record_in ids words ≡ some r) where
  refused_words : (k : Refusal) → saved words (with r (refusing k (session_of r) []).session) ≡ cond (within 3 5 (No k)) (closed_in words) words
  refused_words SessionClosed = loaded_saves ids words r lies
  refused_words NotLogon = closed_words ids words r lies
  refused_words BadLogon = closed_words ids words r lies
  refused_words NumbersSpent = closed_words ids words r lies
  refused_words BufferShort = loaded_saves ids words r lies
  refused_words TimePast = loaded_saves ids words r lies
  refused_words BadValue = loaded_saves ids words r lies
  refused_words NoRoom = loaded_saves ids words r lies
  refused_words NotOneFrame = loaded_saves ids words r lies
  refused_words BadRecord = loaded_saves ids words r lies
  refused_words ReportTooLong = loaded_saves ids words r lies
  refused_words Replaying = loaded_saves ids words r lies
  refused_words BadStore = loaded_saves ids words r lies

  -- a call that leaves the outcome o of the session that lies there
  module _ (buf : Bytes) (o : Outcome) (kept : Kept o (session_of r) buf) where
    left_refused : (out : List ℕ) → let z = left_by words r o out in (z.number ≡ 0 → ⊥) → Refused words buf z.number z.words z.buffer
    left_refused out = go o.answer refl
      where
        go : (a : Answer) → o.answer ≡ a → (refusal_of (numbers o.answer) ≡ 0 → ⊥) → Refused words buf (refusal_of (numbers o.answer)) (saved words (with r o.session)) o.buffer
        go (Ok Success.Done) e h = absurd (h (ap (λ (x : Answer). refusal_of (numbers x)) e))
        go (Ok Success.Delivered) e h = absurd (h (ap (λ (x : Answer). refusal_of (numbers x)) e))
        go (Ok Success.NothingDue) e h = absurd (h (ap (λ (x : Answer). refusal_of (numbers x)) e))
        go (Err k) e h =
            let q = kept.refused k e in
            subst (λ (y : Outcome). Refused words buf (refusal_of (numbers y.answer)) (saved words (with r y.session)) y.buffer) (sym q)
            (record { buffer = refl; session = refused_words k })

    -- its record is the session that the call left
    same_session : session_of (with r o.session) ≡ o.session
    same_session = ap₂ (λ (us them : Bytes). record { ours = us; peers = them; status = o.session.status; E = o.session.E; next = o.session.next; heartbeat = o.session.heartbeat; sent = o.session.sent; replay = o.session.replay; gap = o.session.gap }) (sym kept.ours) (sym kept.peers)

    pub left_lies : Lies ids (saved words (with r o.session)) o.session
    left_lies = record { its_record = with r o.session; lies = saved_loads ids words r o.session lies; is = same_session }

    left_carried : (by : Session → Outcome) → by (session_of r) ≡ o → (out : List ℕ) (q : Record) → record_in ids words ≡ some q → Carried ids q by (left_by words r o out)
    left_carried by e out q l =
        let same : r ≡ q = some-injective r q (sym lies ∙ l) in
        subst (λ (x : Record). Carried ids x by (left_by words r o out)) same
        (record {
          number = ap (λ (y : Outcome). refusal_of (numbers y.answer)) (sym e);
          left = subst (λ (y : Outcome). Lies ids (saved words (with r o.session)) y.session) (sym e) left_lies;
          buffer = ap (λ (y : Outcome). y.buffer) (sym e);
        })

    pub left_ranged : (in_range (session_of r) ≡ true → in_range o.session ≡ true) → Ranged ids words → Ranged ids (saved words (with r o.session))
    left_ranged go R =
        let same : R.its_record ≡ r = some-injective R.its_record r (sym R.lies ∙ lies) in
        record {
          its_record = with r o.session;
          lies = saved_loads ids words r o.session lies;
          ranged = ap in_range same_session ∙ go (sym (ap (λ (x : Record). in_range (session_of x)) same) ∙ R.ranged);
        }

    left_replied : (Whole : Bytes → Type 0) → AllOf Whole o.reply → Frames fixt (joined o.reply) o.reply → Replied Whole buf (reply_length o) o.buffer
    left_replied Whole W F =
        let f : take (length (joined o.reply)) o.buffer ≡ joined o.reply = ap (take (length (joined o.reply))) kept.behind ∙ take-append_seam (joined o.reply) (drop (length (joined o.reply)) buf) in
        record {
          messages = o.reply;
          whole = W;
          front = f;
          read = subst (λ (b : Bytes). Frames fixt b o.reply) (sym f) F;
          behind = ap (drop (length (joined o.reply))) kept.behind ∙ drop-append_seam (joined o.reply) (drop (length (joined o.reply)) buf);
        }

    left_by_lem : (by : Session → Outcome) → by (session_of r) ≡ o → (Whole : Bytes → Type 0) (out : List ℕ) → out_length out ≡ reply_length o → (in_range (session_of r) ≡ true → in_range o.session ≡ true) → (Byted ids → AllOf Whole o.reply × Frames fixt (joined o.reply) o.reply) → Leaves by Whole ids words buf (out_length out) (left_by words r o out)
    left_by_lem by is Whole out e go W =
        record { refused = left_refused out; carried = left_carried by is out; ranged = left_ranged go; replied = λ B. subst (λ (n : ℕ). Replied Whole buf n o.buffer) (sym e) (left_replied Whole (W B).0 (W B).1) }

-- where no record lies there: refusal 11, and all as it was
pub left-unread : (by : Session → Outcome) (Whole : Bytes → Type 0) (ids : Bytes) (words : List ℕ) (buf : Bytes) (out : List ℕ) → record_in ids words ≡ none → out_length out ≡ 0 → Leaves by Whole ids words buf (out_length out) (unread words out buf)
left-unread by Whole ids words buf out e z =
    record {
      refused = λ h. record { buffer = refl; session = refl };
      carried = λ r l. absurd (none-ne-some r (sym e ∙ l));
      ranged = λ R. R;
      replied = λ B. subst (λ (n : ℕ). Replied Whole buf n buf) (sym z) (record { messages = []; whole = tt; front = refl; read = joined_frames [] tt; behind = refl });
    }

-- the messages of a session are whole, each
all_whole : (ms : List Bytes) → AllWhole ms → AllOf Whole ms
all_whole [] h = tt
all_whole (m ∷ ms) h = (h.0, all_whole ms h.1)

module _ (ids : Bytes) (words : List ℕ) (r : Record) (lies : record_in ids words ≡ some r) (c : Call) (B : OfBytes (c ∷ [])) where
  pub call_ranged : in_range (session_of r) ≡ true → in_range (call (session_of r) c).session ≡ true
  call_ranged h = ((Session.promise).ranges (session_of r) (c ∷ []) B h).0.ranged

  pub left_call : (by : Session → Outcome) → by (session_of r) ≡ call (session_of r) c → (out : List ℕ) → out_length out ≡ reply_length (call (session_of r) c)
      → Leaves by Whole ids words (lent c) (out_length out) (left_by words r (call (session_of r) c) out)
  left_call by is out e =
      left_by_lem ids words r lies (lent c) (call (session_of r) c) ((Session.promise).buffers (session_of r) c) by is Whole out e call_ranged
      (λ Bi. let h = held_bytes ids words r lies Bi in let R = (Session.promise).replies (session_of r) c B h.0 h.1 in (all_whole (call (session_of r) c).reply R.whole, R.read))

-- ONE MESSAGE of a call
one_left : (Whole : Bytes → Type 0) (r : Record) (buf : Bytes) (o : Outcome) (m : Bytes) → Kept o (session_of r) buf → o.reply ≡ m ∷ [] → Whole m → OneMessage Whole buf (reply_length o) o.buffer
one_left Whole r buf o m K e w =
    let j : joined o.reply ≡ m = ap joined e ∙ append-nil m in
    let f : take (length (joined o.reply)) o.buffer ≡ joined o.reply = ap (take (length (joined o.reply))) K.behind ∙ take-append_seam (joined o.reply) (drop (length (joined o.reply)) buf) in
    record {
      whole = subst Whole (sym (f ∙ j)) w;
      behind = ap (drop (length (joined o.reply))) K.behind ∙ drop-append_seam (joined o.reply) (drop (length (joined o.reply)) buf);
    }

-- THE REPORT: a refusal, or one message
module _ (ids : Bytes) (words : List ℕ) (r : Record) (lies : record_in ids words ≡ some r) (values : List ℕ) (text : Bytes) (t : ℕ) (buf store : Bytes) (B : Byted text) where
  abbrev told : Outcome
  told = report (session_of r) (values_given values text) t buf store

  abbrev WholeTold : Bytes → Type 0
  WholeTold m = WholeReport (values_given values text) t m (session_of r)

  pub left_report : Leaves (λ s. report s (values_given values text) t buf store) WholeTold ids words buf (reply_length told) (left_by words r told (reply_length told ∷ []))
  left_report =
      let v = values_given values text in
      left_by_lem ids words r lies buf told ((Reporting.promise).kept (session_of r) v t buf store) (λ s. report s v t buf store) refl WholeTold (reply_length told ∷ []) refl (λ h. ((Reporting.promise).ranged (session_of r) v t buf store h).ranged)
      (λ Bi. let h = held_bytes ids words r lies Bi in report_whole (session_of r) v t buf store h.0 h.1 (given_bytes values text B))

  pub report_one : Byted ids → refusal_of (numbers told.answer) ≡ 0 → OneMessage WholeTold buf (reply_length told) told.buffer
  report_one Bi e =
      let v = values_given values text in
      let h = held_bytes ids words r lies Bi in
      let R = ((Reporting.promise).reported (session_of r) v t buf store (report_done (session_of r) v t buf store e)).1 in
      let W = subst (AllOf WholeTold) R.one (report_whole (session_of r) v t buf store h.0 h.1 (given_bytes values text B)).0 in
      one_left WholeTold r buf told _ ((Reporting.promise).kept (session_of r) v t buf store) R.one W.0

-- THE REPLAY CALL: a refusal, nothing due, or one message
module _ (ids : Bytes) (words : List ℕ) (r : Record) (lies : record_in ids words ≡ some r) (t : ℕ) (buf store : Bytes) where
  abbrev played : Outcome
  played = replay (session_of r) t buf store

  pub left_replay : Byted store → Leaves (λ s. replay s t buf store) (λ m. Replayed t store m (session_of r)) ids words buf (reply_length played) (left_by words r played (reply_length played ∷ []))
  left_replay B =
      left_by_lem ids words r lies buf played ((Replaying.promise).kept (session_of r) t buf store) (λ s. replay s t buf store) refl (λ m. Replayed t store m (session_of r)) (reply_length played ∷ []) refl
      (λ h. ((Replaying.promise).ranges (session_of r) (OurReplay t buf store ∷ []) tt h).0.ranged)
      (λ Bi. let h = held_bytes ids words r lies Bi in replay_whole (session_of r) t buf store h.0 h.1 B)

  pub replay_one : Byted store → Byted ids → refusal_of (numbers played.answer) ≡ 0 → (r.replay.at ≡ 0 → ⊥) → OneMessage (λ m. Replayed t store m (session_of r)) buf (reply_length played) played.buffer
  replay_one B Bi e n =
      let h = held_bytes ids words r lies Bi in
      let P = (Replaying.promise).played (session_of r) t buf store h.0 h.1 B (replay_done (session_of r) t buf store e n) in
      let W = subst (AllOf (λ m. Replayed t store m (session_of r))) P.one (replay_whole (session_of r) t buf store h.0 h.1 B).0 in
      one_left (λ m. Replayed t store m (session_of r)) r buf played _ ((Replaying.promise).kept (session_of r) t buf store) P.one W.0

  pub replay_none : r.replay.at ≡ 0 → reply_length played ≡ 0
  replay_none e = ap (λ (ms : List Bytes). length (joined ms)) (replay_rests (session_of r) t buf store e)
