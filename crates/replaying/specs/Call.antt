-- The replay call (document 02, Q-4): "Each replay call writes one message".
use Rattle.std.specs.Prelude.{ℕ, ◌+◌, List, [], ◌∷◌, Bool, not, length, if◌then◌else◌}
use Rattle.std.proofs.Math.Option.{Option, none, some}
use Rattle.octets.specs.Bytes.{Bytes}
use Rattle.calendar.specs.Time.{utc, limit}
use Rattle.places.specs.Places.{is_store}
use Rattle.report.specs.Report.{again}
use Rattle.store.specs.Store.{Table, kept}
use Rattle.store.specs.Plan.{Item, Again, Fill, ends, item}
use Rattle.moves.specs.Words.{◌<?◌, ◌≤?◌, ◌when◌, first}
use Rattle.moves.specs.Session.{Session, Replay, no_replay, running, replaying, sent_at, in_range}
use Rattle.moves.specs.Moves.{GapFill, letter}
use Rattle.session.specs.Calls.{Outcome, over, answering, least_room}
use Rattle.session.specs.declared.Refusal.TheVariants.{BufferShort, TimePast, BadRecord, BadStore}
use Rattle.session.specs.Answer.{Answer, Done, NothingDue, Refused}

-- a session s
module _ (s : Session) where
  -- the reports that are kept between its CompIDs
  abbrev pub its_table : Bytes → Table
  its_table store = kept s.ours s.peers store

  -- what goes out at the place of its replay
  abbrev pub its_item : Bytes → Item
  its_item store = item (its_table store) s.replay.to s.replay.at

  -- the place behind an item; behind the last number asked for none is running
  abbrev pub behind : Item → Replay
  behind i = if ends i <? s.replay.to then record { at = ends i + 1; to = s.replay.to } else no_replay

-- and the time t of the call
module _ (s : Session) (t : ℕ) where
  -- "each kept report goes out again under its old number with 43=Y, a new 52 and its first 52 as 122, and each longest run of other numbers becomes one gap
  -- fill": the gap fill has the run's first number as its 34, one above its last as its 36
  unfoldable pub message : Item → Bytes
  message (Again r) = again s.ours s.peers r t
  message (Fill b e) = letter s.ours s.peers b (utc t) (GapFill (e + 1))

  -- "A replay call: 11, 14, 7, 6."; "With none running nothing is due."
  unfoldable pub refusals : Bool → ℕ → List (Option Answer)
  refusals stored room =
      Refused BadRecord when not (in_range s) ∷
      Refused BadStore when not stored ∷
      Refused TimePast when limit ≤? t ∷
      Refused BufferShort when room <? least_room ∷
      NothingDue when not (running s.replay) ∷
      []

  -- the item goes out, the place moves on; "Every message written in a session sets last sent to the call's time."; "It uses no new
  -- number"
  abbrev pub playing : Item → Bytes → Outcome
  playing i old =
      record { answer = Done; session = replaying (behind s i) (sent_at t s); reply = message i ∷ []; buffer = over (message i ∷ []) old }

  abbrev pub unless : Option Answer → Item → Bytes → Outcome
  unless (some a) i old = answering a s old
  unless none i old = playing i old

  unfoldable pub replay : Bytes → Bytes → Outcome
  replay buf store = unless (first (refusals (is_store store) (length buf))) (its_item s store) buf
