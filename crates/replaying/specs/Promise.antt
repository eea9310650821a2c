-- What is promised of the replay call, and of any run of all calls (Run.antt): document 02's "Demand 2's serving rule now reads this way, and a finished
-- replay's numbers cover the requested range exactly, each once".
use Rattle.std.specs.Prelude.{ℕ, ◌+◌, ◌≤◌, ◌<◌, ◌≡◌, List, [], ◌∷◌, ◌++◌, true, false, length, if◌then◌else◌}
use Rattle.std.proofs.Math.Option.{some}
use Rattle.octets.specs.Bytes.{Bytes, Byted, fix, decimal, has}
use Rattle.frame.specs.Frame.{fixt, Good}
use Rattle.dictionary.specs.Verdict.{Clean}
use Rattle.dictionary.specs.Verdict.{verdict}
use Rattle.fields.specs.Field.{first_field}
use Rattle.message.specs.Whole.{body_in}
use Rattle.calendar.specs.Time.{utc, limit}
use Rattle.report.specs.Report.{sendable}
use Rattle.report.specs.Promise.{Repeated}
use Rattle.places.specs.Places.{is_store, zeroed}
use Rattle.store.specs.Store.{find}
use Rattle.store.specs.Store as Store
use Rattle.store.specs.Promise.{last64}
use Rattle.store.specs.Plan.{Item, Again, Fill, range, plan, Run}
use Rattle.moves.specs.Session.{Session, no_replay, running, sent_at, replaying, in_range}
use Rattle.moves.specs.Moves.{requested}
use Rattle.session.specs.Refusals.{No}
use Rattle.session.specs.Calls.{Outcome, keeping, least_room, step}
use Rattle.session.specs.Replays.{Served}
use Rattle.session.specs.Promise.{Head, Whole, AllInRange, Kept}
use Rattle.session.specs.declared.Refusal.{Refusal}
use Rattle.session.specs.Answer.{Done, NothingDue, Refused}
use Rattle.replaying.specs.Call.{its_table, its_item, message, behind, replay}
use Rattle.replaying.specs.Run.{Turn, run, final, Lent, resent_by, AllUndisturbed, Finished, item_if, sent_items, Lends, Onward, UsedOnce, day}

-- A MESSAGE OF A REPLAY
-- the gap fill over the numbers from b to e: "one message 4, 34=b, 43=Y, 122 equal to 52, 123=Y, 36 one above"
pub record Filled (us them : Bytes) (t b e : ℕ) (body : Bytes) : Type 0 where
  pub type : first_field 35 body ≡ some (fix "4")
  pub head : Head us them t b body
  pub possible_duplicate : first_field 43 body ≡ some (fix "Y")
  pub as_52 : first_field 122 body ≡ some (utc t)
  pub gap_filled : first_field 123 body ≡ some (fix "Y")
  pub new_number : first_field 36 body ≡ some (decimal (e + 1))

-- what goes out at the place of the replay: a kept report, which is as Repeated says, with the old number, 43=Y, the new 52, the first 52 as 122 and the values
-- as they were written; or a gap fill over a longest run of other numbers
abbrev pub Carries : Session → ℕ → Bytes → Item → Type 0
Carries s t store (Again r) =
    (r.number ≡ s.replay.at) × (find r.number (its_table s store) ≡ some r) × (sendable s.ours s.peers r ≡ true) × Repeated s.ours s.peers r t
Carries s t store (Fill b e) =
    (b ≡ s.replay.at)
    × Run (its_table s store) s.replay.to s.replay.at b e
    × Filled s.ours s.peers t b e (body_in (message s t (Fill b e)))
    × Whole (message s t (Fill b e))

-- A CALL THAT IS NOT REFUSED: "A replay call: 11, 14, 7, 6."
pub record Asked (s : Session) (t : ℕ) (buf store : Bytes) : Type 0 where
  pub ranged : in_range s ≡ true
  pub stored : is_store store ≡ true
  pub timed : t < limit
  pub room : least_room ≤ length buf

-- "Each replay call writes one message": what went out, where the call is Done
pub record Played (s : Session) (t : ℕ) (store : Bytes) (o : Outcome) : Type 0 where
  pub one : o.reply ≡ message s t (its_item s store) ∷ []
  pub carries : Carries s t store (its_item s store)
  -- a good frame with a clean verdict, of at most 600 bytes, so that what refusal 6 asks for is enough
  pub frame : Good fixt (message s t (its_item s store))
  pub no_finding : verdict frame.body ≡ Clean
  pub short : length (message s t (its_item s store)) ≤ 600
  -- "sets last sent", and the place moves on: it uses no number, and nothing else of the record changes
  pub moved : o.session ≡ replaying (behind s (its_item s store)) (sent_at t s)

-- THE PLAN AHEAD of a session with this store: what its replay has still to send
abbrev pub ahead : Session → Bytes → List Item
ahead s store = if running s.replay then plan (its_table s store) s.replay.to s.replay.at else []

-- a replay call sends the first item of it and leaves the others
abbrev pub Follows : Session → ℕ → Bytes → Bytes → Type 0
Follows s t buf store =
    item_if (replay s t buf store).answer (its_item s store) ++ ahead (replay s t buf store).session store ≡ ahead s store

pub record Promise : Type 0 where
  pub played : (s : Session) (t : ℕ) (buf store : Bytes) → Byted s.ours → Byted s.peers → Byted store → (replay s t buf store).answer ≡ Done → Played s t store (replay s t buf store)
  -- while one is running each call that is not refused writes a message; "With none running nothing is due.", in every status
  pub plays : (s : Session) (t : ℕ) (buf store : Bytes) → Asked s t buf store → running s.replay ≡ true → (replay s t buf store).answer ≡ Done
  pub rests : (s : Session) (t : ℕ) (buf store : Bytes) → Asked s t buf store → running s.replay ≡ false → replay s t buf store ≡ keeping NothingDue s buf
  -- "11, 14, 7, 6": no other refusal is given, and none changes anything
  pub refuses : (s : Session) (t : ℕ) (buf store : Bytes) (k : Refusal) → (replay s t buf store).answer ≡ Refused k
      → (has (11 ∷ 14 ∷ 7 ∷ 6 ∷ []) (No k) ≡ true) × (replay s t buf store ≡ keeping (Refused k) s buf)
  -- the buffer keeps its old bytes behind the message and under a refusal. The store is only read.
  pub kept : (s : Session) (t : ℕ) (buf store : Bytes) → Kept (replay s t buf store) s buf
  -- one message a call, in the order of the plan; the plan covers the range (store's `planned`); and so over any run that lends its replay calls one store
  pub follows : (s : Session) (t : ℕ) (buf store : Bytes) → Follows s t buf store
  pub plan_out : (s : Session) (store : Bytes) (cs : List Turn) → AllUndisturbed s cs → Lends store cs → sent_items s cs ++ ahead (final s cs) store ≡ ahead s store
  -- "a finished replay's numbers cover the requested range exactly, each once": from any running replay on, and so from the step that starts it
  pub finished : (s : Session) (cs : List Turn) → Finished s cs
  pub requested_covered : (s : Session) (f : Bytes) (t : ℕ) (buf store : Bytes) (cs : List Turn) → Byted f → Served s f t buf store
      → let s' = (step s f t buf store).session in AllUndisturbed s' cs → (final s' cs).replay ≡ no_replay → resent_by s' cs ≡ range (requested s (body_in f)).at (requested s (body_in f)).to
  -- the numbers that go out, in any run in which they do not begin anew
  pub numbers : (s : Session) (cs : List Turn) → Lent cs → Byted s.ours → Byted s.peers → Onward s cs → UsedOnce s cs
  -- "Keep the last 64 reports of Q-1 in a store that the host lends": behind any run with one store, zeroed at its beginning, exactly the last 64 that went
  -- out since the numbers began anew are found, each whole
  pub last : (s : Session) (store : Bytes) (cs : List Turn) → is_store store ≡ true
      → let d = day (record { session = s; store = zeroed store; reports = [] }) cs in (n : ℕ) → find n (Store.kept s.ours s.peers d.store) ≡ find n (last64 d.reports)
  -- "record breaks its ranges": none does that comes from one in its ranges, over any run
  pub ranges : (s : Session) (cs : List Turn) → Lent cs → in_range s ≡ true → AllInRange (run s cs)
