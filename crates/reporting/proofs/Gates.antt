-- The refusals of a report that ask nothing of its values, test by test; what they leave, and what a record is like that passes them.
-- Assumes nothing.
use Prim.Native.Nat.{ℕ, ◌<◌}
use mathlib.Core.Path.{◌≡◌, refl, sym, ap, ◌∙◌}
use mathlib.Core.Bool.{Bool, true, false}
use mathlib.Core.List.{◌++◌}
use mathlib.Core.Option.{Option, none, some}
use lib.ListN.{length}
use borrow.Author.Tests.{leb-false, not-false}
use Rattle.octets.specs.Bytes.{Bytes}
use Rattle.calendar.specs.Time.{limit}
use Rattle.places.specs.Places.{is_store}
use Rattle.report.specs.Values.{Values}
use Rattle.moves.specs.Words.{first}
use Rattle.moves.specs.Session.{Session, in_range}
use Rattle.moves.specs.Held.{session_of}
use Rattle.moves.specs.declared.record.Record.{Record}
use Rattle.moves.proofs.Words.{not_said, all_silent, first_some, first_rest}
use Rattle.session.specs.Calls.{refusing, spent}
use Rattle.session.specs.Held.{answered_by, Leaves, LeavesStore}
use Rattle.session.specs.declared.Answered.{Answered}
use Rattle.session.specs.Answer.{Answer, Refused}
use Rattle.session.specs.declared.Refusal.{Refusal}
use Rattle.session.specs.declared.Refusal.TheVariants.{NumbersSpent, TimePast, BadRecord, BadStore}
use Rattle.reporting.specs.Call.{refusals, unless, report, kept_unless, store_after}
use Rattle.reporting.specs.code.Sending.{of_session, of_values}

-- a record r, values v, a time t, a buffer d and a store
module _ (r : Record) (v : Values) (t : ℕ) (d store : Bytes) {stored : Bool} (l : stored ≡ is_store store) where
  -- what the call leaves: its answer, the buffer and the store
  abbrev Left : Answered → Bytes → Bytes → Type 0
  Left a d' store' = LeavesStore r (report (session_of r) v t d store) (store_after (session_of r) v t d store) a d' store'

  -- both lists are the call's refusals
  in_order : refusals (session_of r) v t (is_store store) (length d) ≡ of_session (session_of r) (is_store store) t ++ of_values (session_of r) v t (length d)
  unfolding refusals of_session of_values
  in_order = refl

  by_store : {a : Option Answer} → a ≡ first (of_session (session_of r) stored t) → first (of_session (session_of r) (is_store store) t) ≡ a
  by_store e = ap (λ (b : Bool). first (of_session (session_of r) b t)) (sym l) ∙ sym e

  pub report_shut : {k : Refusal} {a : Answered} → some (Refused k) ≡ first (of_session (session_of r) stored t) → a ≡ answered_by r (refusing k (session_of r) d) → Left a d store
  unfolding report store_after
  report_shut {k = k} e w =
      let x = ap first in_order ∙ first_some (of_session (session_of r) (is_store store) t) (of_values (session_of r) v t (length d)) (Refused k) (by_store e) in
      rw x (record { leaves = record { answered = w; buffer = refl }; stored = refl })

  -- what passes them
  pub report_sent : none ≡ first (of_session (session_of r) stored t) → {x : Answered} {d' store' : Bytes} → Leaves r (unless (session_of r) v t (first (of_values (session_of r) v t (length d))) d) x d'
      → store' ≡ kept_unless (session_of r) v t (first (of_values (session_of r) v t (length d))) store → Left x d' store'
  unfolding report store_after
  report_sent e w k =
      let y = ap first in_order ∙ first_rest (of_session (session_of r) (is_store store) t) (of_values (session_of r) v t (length d)) (by_store e) in
      rw y (record { leaves = w; stored = k })

-- what a report is like that passes them
pub record Open (s : Session) (stored : Bool) (t : ℕ) : Type 0 where
  pub ranged : in_range s ≡ true
  pub lent : stored ≡ true
  pub timed : t < limit
  pub unspent : spent s ≡ false

pub opened : (s : Session) (stored : Bool) (t : ℕ) → none ≡ first (of_session s stored t) → Open s stored t
unfolding of_session
opened s stored t e =
    let k = all_silent (of_session s stored t) (sym e) in
    record {
      ranged = not-false (in_range s) (not_said (Refused BadRecord) _ k.0);
      lent = not-false stored (not_said (Refused BadStore) _ k.1.1.0);
      timed = leb-false limit t (not_said (Refused TimePast) _ k.1.1.1.0);
      unspent = not_said (Refused NumbersSpent) _ k.1.1.1.1.1.0;
    }
