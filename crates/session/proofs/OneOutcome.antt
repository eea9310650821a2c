-- Every call of a session has one outcome (S1): any two that its contract allows, for the same input, are equal in all that the call answers and leaves.
-- Assumes nothing.
use Prim.Native.Nat.{ℕ}
use mathlib.Core.Path.{◌≡◌, refl, sym, ap, ◌∙◌}
use Rattle.std.specs.Prelude.{Result, Ok, Err}
use Rattle.std.proofs.Math.Option.{Option, none, some}
use Rattle.session.specs.Answer.{Answer}
use Rattle.session.specs.code.Played.{shut, Shuts}
use Rattle.octets.specs.Bytes.{Bytes}
use Rattle.session.specs.Refusals.{No}
use Rattle.session.specs.Calls.{Outcome, step, store_after, tick, logout, test_request, new, reconnect}
use Rattle.moves.specs.Held.{session_of}
use Rattle.session.specs.Held.{answered_by, Leaves, LeavesStore, answered_new}
use Rattle.moves.specs.declared.record.Record.{Record}
use Rattle.session.specs.declared.Answered.{Answered}
use Rattle.session.specs.declared.Refusal.{Refusal}

-- THE CALLS THAT ARE LENT A BUFFER: the answer, the record, the reply's length, and every byte of the buffer
pub leaves_one : (r : Record) (o : Outcome) {a b : Answered} {c d : Bytes} → Leaves r o a c → Leaves r o b d → (a ≡ b) × (c ≡ d)
leaves_one r o v w = (v.answered ∙ sym w.answered, v.buffer ∙ sym w.buffer)

-- and of the store
pub leaves_store_one : (r : Record) (o : Outcome) (kept : Bytes) {a b : Answered} {c d x y : Bytes} → LeavesStore r o kept a c x → LeavesStore r o kept b d y → (a ≡ b) × ((c ≡ d) × (x ≡ y))
leaves_store_one r o kept v w = let k = leaves_one r o v.leaves w.leaves in (k.0, (k.1, v.stored ∙ sym w.stored))

module _ (r : Record) (t : ℕ) (buf : Bytes) {a b : Answered} {c d : Bytes} where
  pub step_one : (f store : Bytes) {x y : Bytes} → LeavesStore r (step (session_of r) f t buf store) (store_after (session_of r) f t buf store) a c x
      → LeavesStore r (step (session_of r) f t buf store) (store_after (session_of r) f t buf store) b d y → (a ≡ b) × ((c ≡ d) × (x ≡ y))
  step_one f store v w = leaves_store_one r (step (session_of r) f t buf store) (store_after (session_of r) f t buf store) v w

  pub tick_one : Leaves r (tick (session_of r) t buf) a c → Leaves r (tick (session_of r) t buf) b d → (a ≡ b) × (c ≡ d)
  tick_one v w = leaves_one r (tick (session_of r) t buf) v w

  pub logout_one : Leaves r (logout (session_of r) t buf) a c → Leaves r (logout (session_of r) t buf) b d → (a ≡ b) × (c ≡ d)
  logout_one v w = leaves_one r (logout (session_of r) t buf) v w

  pub test_request_one : (id : Bytes) → Leaves r (test_request (session_of r) id t buf) a c → Leaves r (test_request (session_of r) id t buf) b d → (a ≡ b) × (c ≡ d)
  test_request_one id v w = leaves_one r (test_request (session_of r) id t buf) v w

-- THE OTHERS, which are equations
pub new_one : (ours peer : Bytes) {a b : Answered} → a ≡ answered_new (new ours peer) → b ≡ answered_new (new ours peer) → a ≡ b
new_one ours peer e f = e ∙ sym f

pub reconnect_one : (r : Record) {a b : Answered} → a ≡ answered_by r (reconnect (session_of r)) → b ≡ answered_by r (reconnect (session_of r)) → a ≡ b
reconnect_one r e f = e ∙ sym f

pub number_one : (k : Refusal) {m n : ℕ} → m ≡ No k → n ≡ No k → m ≡ n
number_one k e f = e ∙ sym f

-- A TEST of a list of refusals
abbrev from_shut : Option Answer → Result (Unit {0}) Refusal
from_shut none = Ok tt
from_shut (some (Ok s)) = Ok tt
from_shut (some (Err k)) = Err k

shut_back : (x : Result (Unit {0}) Refusal) → from_shut (shut x) ≡ x
shut_back (Ok _) = refl
shut_back (Err k) = refl

pub when_one : {x y : Result (Unit {0}) Refusal} {a : Option Answer} → Shuts x a → Shuts y a → x ≡ y
when_one {x} {y} v w = sym (shut_back x) ∙ ap from_shut v ∙ sym (ap from_shut w) ∙ shut_back y
