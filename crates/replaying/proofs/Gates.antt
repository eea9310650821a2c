-- The refusals of a replay call: what they leave, and what passes them.
-- Assumes nothing.
use Prim.Native.Nat.{ℕ}
use mathlib.Core.Path.{◌≡◌, sym, ap, ◌∙◌}
use mathlib.Core.Bool.{Bool}
use mathlib.Core.Option.{Option, none, some}
use lib.ListN.{length}
use borrow.Author.Tests.{leb-false, ltb-false, not-false}
use Rattle.octets.specs.Bytes.{Bytes}
use Rattle.calendar.specs.Time.{limit}
use Rattle.places.specs.Places.{is_store}
use Rattle.moves.specs.Words.{first}
use Rattle.moves.specs.Session.{running, in_range}
use Rattle.moves.specs.Held.{session_of}
use Rattle.moves.specs.declared.record.Record.{Record}
use Rattle.moves.proofs.Words.{not_said, all_silent}
use Rattle.session.specs.Calls.{answering}
use Rattle.session.specs.Held.{Leaves}
use Rattle.session.specs.declared.Answered.{Answered}
use Rattle.session.specs.Answer.{Answer, NothingDue, Refused}
use Rattle.session.specs.declared.Refusal.TheVariants.{BufferShort, TimePast, BadRecord, BadStore}
use Rattle.replaying.specs.Call.{its_item, refusals, playing, replay}
use Rattle.replaying.proofs.Ways.{Passed}

-- a record r, a time t, a buffer d and a store
module _ (r : Record) (t : ℕ) (d store : Bytes) {stored : Bool} (l : stored ≡ is_store store) where
  by_store : {a : Option Answer} → a ≡ first (refusals (session_of r) t stored (length d)) → first (refusals (session_of r) t (is_store store) (length d)) ≡ a
  by_store e = ap (λ (b : Bool). first (refusals (session_of r) t b (length d))) (sym l) ∙ sym e

  -- a refusal, or nothing due: the session and the buffer are as the answer says
  pub replay_still : {y : Answer} {x : Answered} → some y ≡ first (refusals (session_of r) t stored (length d)) → Leaves r (answering y (session_of r) d) x d
      → Leaves r (replay (session_of r) t d store) x d
  unfolding replay
  replay_still e v = rw (by_store e) v

  -- the next message
  pub replay_next : none ≡ first (refusals (session_of r) t stored (length d)) → {x : Answered} {d' : Bytes} → Leaves r (playing (session_of r) t (its_item (session_of r) store) d) x d' → Leaves r (replay (session_of r) t d store) x d'
  unfolding replay
  replay_next e w = rw (by_store e) w

  -- and what passes them
  pub passed_by : none ≡ first (refusals (session_of r) t stored (length d)) → Passed (session_of r) t d store
  unfolding refusals
  passed_by e =
      let k = all_silent (refusals (session_of r) t (is_store store) (length d)) (by_store e) in
      record {
        ranged = not-false (in_range (session_of r)) (not_said (Refused BadRecord) _ k.0);
        stored = not-false (is_store store) (not_said (Refused BadStore) _ k.1.0);
        timed = leb-false limit t (not_said (Refused TimePast) _ k.1.1.0);
        roomy = ltb-false (length d) 600 (not_said (Refused BufferShort) _ k.1.1.1.0);
        is_running = not-false (running (session_of r).replay) (not_said NothingDue _ k.1.1.1.1.0);
      }
