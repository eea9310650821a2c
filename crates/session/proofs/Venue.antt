-- The venue's own messages: their refusals test by test, and what the calls leave.
-- Assumes nothing.
use Prim.Native.Nat.{ℕ, ◌≤◌, ◌<◌}
use native.Mathlib.Omega.{arith}
use mathlib.Core.Path.{◌≡◌, refl, sym}
use mathlib.Core.Bool.{Bool, true, false, not}
use mathlib.Core.List.{List, [], ◌∷◌, ◌++◌}
use mathlib.Core.Option.{Option, none, some}
use borrow.Author.Tests.{leb-false, ltb-false, not-false}
use Rattle.std.specs.Prelude.{Some, None}
use Rattle.octets.specs.Bytes.{Bytes, Byted}
use Rattle.calendar.specs.Time.{limit}
use Rattle.moves.specs.Words.{first, ◌when◌}
use Rattle.moves.specs.Session.{Session, in_range}
use Rattle.message.specs.Unfit.{string_to}
use Rattle.moves.specs.Moves as Words
use Rattle.moves.specs.Moves.{Deeds, Write, Becomes}
use Rattle.session.specs.Calls.{Outcome, outcome, making, refusing, spent, unsendable, test_id}
use Rattle.moves.specs.Held.{session_of}
use Rattle.session.specs.Held.{answered_by, Leaves}
use Rattle.letters.specs.code.Fit.{Text}
use Rattle.session.specs.code.Fit.{AllFit}
use Rattle.moves.specs.code.Plan.{planned, summed, says, closes, Ready}
use Rattle.moves.specs.declared.record.Record.{Record}
use Rattle.session.specs.declared.Answered.{Answered}
use Rattle.session.specs.Answer.{Answer}
use Rattle.session.specs.Answer.{Refused}
use Rattle.session.specs.declared.Refusal.{Refusal}
use Rattle.session.specs.declared.Refusal.TheVariants.{NumbersSpent, BufferShort, TimePast, BadValue, BadRecord}
use Rattle.moves.specs.declared.record.Status.TheVariants.{Closed}
use Rattle.moves.specs.declared.plan.Plan.{Plan}
use Rattle.moves.specs.declared.plan.Letter.TheVariants.{Logout, Test}
use Rattle.moves.proofs.Words.{not_said, Silent, all_silent}
use Rattle.moves.proofs.Ranges.{string_means}
use Rattle.session.proofs.Fitting.{Ample}
use Rattle.session.proofs.Stepping.{ready_by}
use Rattle.session.proofs.Gating.{first_of, first_then, first_last}

-- THE 112 of a Test Request
pub string_test : (c : Bytes) {b : Bool} → b ≡ string_to 64 c → b ≡ test_id c
unfolding test_id
string_test c e = e

-- THE REFUSALS: 11, 7, 6, 2 outside Active, 5; what passes them
pub record OwnPassed (s : Session) (t room : ℕ) : Type 0 where
  pub ranged : in_range s ≡ true
  pub timed : t < limit
  pub roomy : 600 ≤ room
  pub unspent : spent s ≡ false

pub own_passed : (s : Session) (t room : ℕ) → Silent (unsendable s t room) → OwnPassed s t room
unfolding unsendable
own_passed s t room k =
    record {
      ranged = not-false (in_range s) (not_said (Refused BadRecord) _ k.0);
      timed = leb-false limit t (not_said (Refused TimePast) _ k.1.0);
      roomy = ltb-false room 600 (not_said (Refused BufferShort) _ k.1.1.0);
      unspent = not_said (Refused NumbersSpent) _ k.1.1.1.1.0;
    }

pub sends_by : (s : Session) (t room : ℕ) → none ≡ first (unsendable s t room) → OwnPassed s t room
sends_by s t room e = own_passed s t room (all_silent (unsendable s t room) (sym e))

pub ready_to : (r : Record) {t room : ℕ} → OwnPassed (session_of r) t room → Ready r
ready_to r S = ready_by r S.ranged S.unspent

-- WHAT A CALL LEAVES: by its refusals l, or the move
module _ (r : Record) (l : List (Option Answer)) (t : ℕ) (ds : Deeds) (d : Bytes) where
  pub own_shut : {k : Refusal} {a : Answered} → some (Refused k) ≡ first l → a ≡ answered_by r (refusing k (session_of r) d) → Leaves r (outcome (first l) t ds (session_of r) d) a d
  own_shut e w = rw (← e) (record { answered = w; buffer = refl })

  pub own_made : {o : Outcome} {a : Answered} {d' : Bytes} → none ≡ first l → o ≡ making t (session_of r) ds d → Leaves r o a d' → Leaves r (outcome (first l) t ds (session_of r) d) a d'
  own_made e w v = rw (← e, ← w) v

-- OUR LOGOUT
abbrev pub farewell : Deeds
farewell = Write (Words.Logout 101) ∷ Becomes Closed ∷ []

pub farewell-plan : (s : Session) {p : Plan} → p ≡ closes s (Some (Logout 101)) None s.E → planned [] s p ≡ summed s farewell
farewell-plan s e = rw e

pub farewell_fit : (t : ℕ) (s : Session) → Ample s → AllFit t s farewell
farewell_fit t s A = ((A.first, omega (arith, A.next), omega arith), (tt, tt))

-- OUR TEST REQUEST
abbrev pub asked : Bytes → Deeds
asked id = Write (Words.TestRequest id) ∷ []

pub asked-plan : (s : Session) (id : Bytes) {p : Plan} → p ≡ says s (Some Test) None → planned id s p ≡ summed s (asked id)
asked-plan s id e = rw e

test_text : (id : Bytes) → test_id id ≡ true → Byted id → Text 64 id
unfolding test_id
test_text id e B = let k = string_means 64 id e in record { some = k.0; short = k.1.0; no_bar = k.1.1; of_bytes = B }

pub asked_fit : (t : ℕ) (s : Session) (id : Bytes) → Ample s → test_id id ≡ true → Byted id → AllFit t s (asked id)
asked_fit t s id A e B = ((A.first, omega (arith, A.next), test_text id e B), tt)

-- 8 stands behind the refusals of each
abbrev pub eighth : Bytes → List (Option Answer)
eighth id = (Refused BadValue when not (test_id id)) ∷ []

pub ruleset asking = (string_test, first_of, first_then, first_last)

pub asks_by : (s : Session) (id : Bytes) (t room : ℕ) → none ≡ first (unsendable s t room ++ eighth id) → OwnPassed s t room × (test_id id ≡ true)
unfolding unsendable
asks_by s id t room e =
    let k = all_silent (unsendable s t room ++ eighth id) (sym e) in
    (own_passed s t room (k.0, (k.1.0, (k.1.1.0, (k.1.1.1.0, (k.1.1.1.1.0, tt))))), not-false (test_id id) (not_said (Refused BadValue) _ k.1.1.1.1.1.0))
