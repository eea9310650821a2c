-- What is promised of the report call, for any session, values, time, buffer and store. What the store holds behind any calls is said in crates/replaying.
use Rattle.std.specs.Prelude.{ℕ, ◌+◌, ◌≤◌, ◌<◌, ◌≡◌, [], ◌∷◌, true, false, length}
use Rattle.std.proofs.Math.Option.{none, some}
use Rattle.octets.specs.Bytes.{Bytes}
use Rattle.calendar.specs.Time.{limit}
use Rattle.places.specs.Places.{is_store}
use Rattle.report.specs.Values.{Values, takes}
use Rattle.store.specs.Store.{find, keep}
use Rattle.store.specs.Store as Store
use Rattle.report.specs.Promise.{Written}
use Rattle.moves.specs.Session.{Session, no_replay, numbering, sent_at, in_range}
use Rattle.moves.specs.declared.record.Status.TheVariants.{Active}
use Rattle.session.specs.Calls.{Outcome, keeping, spent}
use Rattle.session.specs.Promise.{InRange, Kept}
use Rattle.session.specs.declared.Refusal.{Refusal}
use Rattle.session.specs.declared.Refusal.TheVariants.{SessionClosed}
use Rattle.session.specs.Answer.{Done, Refused}
use Rattle.reporting.specs.Call.{the_report, message, longest, report, store_after}

-- A REPORT THAT IS SENT: no refusal stands, "the order for a report is 11, 7, 2, 5, 8, 12, 9", with 13 and 14 behind 11
pub record Sends (s : Session) (v : Values) (t : ℕ) (buf store : Bytes) : Type 0 where
  pub ranged : in_range s ≡ true
  pub none_running : s.replay ≡ no_replay
  pub stored : is_store store ≡ true
  pub timed : t < limit
  pub is_active : s.status ≡ Active
  pub unspent : spent s ≡ false
  pub taken : takes v ≡ true
  pub short : length (message s v t) ≤ longest
  pub fits : length (message s v t) ≤ length buf

pub record Reported (s : Session) (v : Values) (t : ℕ) (o : Outcome) : Type 0 where
  -- one message, ..
  pub one : o.reply ≡ message s v t ∷ []
  -- .. a good frame of "at most 512 bytes" with a clean verdict, from which the reader gets exactly the values, ..
  pub whole : Written s.ours s.peers (the_report s v t)
  -- .. "takes the next number out", and sets last sent; nothing else of the record changes
  pub used : o.session ≡ sent_at t (numbering (s.next + 1) s)

-- THE STORE behind a report
pub record Stored (s : Session) (v : Values) (t : ℕ) (buf store : Bytes) : Type 0 where
  -- a report that went out is kept, ..
  pub kept : (report s v t buf store).answer ≡ Done → store_after s v t buf store ≡ keep s.ours s.peers (the_report s v t) store
  -- .. and found again under its number, whole, if the store that was lent had none of that number; ..
  pub found : (report s v t buf store).answer ≡ Done → find s.next (Store.kept s.ours s.peers store) ≡ none
      → find s.next (Store.kept s.ours s.peers (store_after s v t buf store)) ≡ some (the_report s v t)
  -- .. "no refusal changes the store"
  pub refused : (k : Refusal) → (report s v t buf store).answer ≡ Refused k → store_after s v t buf store ≡ store

pub record Promise : Type 0 where
  -- nothing else goes out, and it always does
  pub reported : (s : Session) (v : Values) (t : ℕ) (buf store : Bytes) → (report s v t buf store).answer ≡ Done → Sends s v t buf store × Reported s v t (report s v t buf store)
  pub reports : (s : Session) (v : Values) (t : ℕ) (buf store : Bytes) → Sends s v t buf store → (report s v t buf store).answer ≡ Done
  -- "Outside Active a report is refusal 2, session unchanged."
  pub outside_active : (s : Session) (v : Values) (t : ℕ) (buf store : Bytes) → in_range s ≡ true → is_store store ≡ true → t < limit → (s.status ≡ Active → ⊥)
      → report s v t buf store ≡ keeping (Refused SessionClosed) s buf
  -- "8, 9 and 12 change nothing"; 5 closes, and the others change nothing either; the buffer keeps its old bytes behind the report and under a refusal
  pub kept : (s : Session) (v : Values) (t : ℕ) (buf store : Bytes) → Kept (report s v t buf store) s buf
  -- two different reports never have the same bytes, whichever sessions send them
  pub told_apart : (s s' : Session) (v v' : Values) (t t' : ℕ) (buf buf' store store' : Bytes) → (report s v t buf store).answer ≡ Done → (report s' v' t' buf' store').answer ≡ Done
      → message s v t ≡ message s' v' t' → the_report s v t ≡ the_report s' v' t'
  -- "record breaks its ranges": it does not that comes from one in its ranges
  pub ranged : (s : Session) (v : Values) (t : ℕ) (buf store : Bytes) → in_range s ≡ true → InRange (report s v t buf store).session
  -- "13, report while replaying": so no report takes a place of the store while one is running, and none of them moves a replay
  pub no_replay_moved : (s : Session) (v : Values) (t : ℕ) (buf store : Bytes) → (report s v t buf store).answer ≡ Done → (s.replay ≡ no_replay) × ((report s v t buf store).session.replay ≡ no_replay)
  -- Q-4: "Keep .. reports of Q-1 in a store that the host lends"
  pub stored : (s : Session) (v : Values) (t : ℕ) (buf store : Bytes) → Stored s v t buf store
