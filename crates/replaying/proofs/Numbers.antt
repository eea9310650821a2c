-- The numbers out over a run: each message that is no replay's carries the next one, so that each number is used once and none is left out.
-- Assumes nothing.
use Prim.Native.Nat.{ℕ, ◌+◌}
use native.Mathlib.Omega.{arith}
use mathlib.Core.Path.{◌≡◌, refl, sym, ap, ◌∙◌, subst}
use mathlib.Core.Bool.{Bool, false, cond}
use mathlib.Core.List.{List, [], ◌∷◌, ◌++◌}
use mathlib.Core.Option.{Option}
use lib.ListN.{length, length-append}
use Rattle.octets.specs.Bytes.{Bytes, Byted}
use Rattle.report.specs.Values.{Values}
use Rattle.report.proofs.Promise as Report
use Rattle.places.specs.Places.{is_store}
use Rattle.moves.specs.Session.{Session}
use Rattle.session.specs.Calls.{Outcome, call}
use Rattle.session.specs.Promise.{Headed, OfBytes, renews, first_out, time_of}
use Rattle.session.specs.Answer.{Answer}
use Rattle.session.proofs.EachCall.{each_refusal}
use Rattle.session.proofs.Promise as Session
use Rattle.reporting.specs.Call.{the_report, message, unless, report}
use Rattle.reporting.proofs.Promise.{each_report, passed-sendable}
use Rattle.reporting.proofs.Promise as Reporting
use Rattle.replaying.specs.Call.{replay}
use Rattle.replaying.specs.Run.{Turn, Ours, OurReport, OurReplay, turn, Lent, new_messages, all_new, begins_anew, Onward, NumberedFrom, UsedOnce}
use Rattle.replaying.proofs.Ways.{each_replay}

-- MESSAGES one behind the other
headed-numbered : (us them : Bytes) (t n : ℕ) (ms : List Bytes) → Headed us them t n ms → NumberedFrom n ms
headed-numbered us them t n [] h = tt
headed-numbered us them t n (m ∷ ms) h = (h.0.number, headed-numbered us them t (n + 1) ms h.1)

numbered_more : (n m : ℕ) (k l : List Bytes) → m ≡ n + length k → NumberedFrom n k → NumberedFrom m l → NumberedFrom n (k ++ l)
numbered_more n m [] l e a b = subst (λ (x : ℕ). NumberedFrom x l) (omega (arith, e)) b
numbered_more n m (x ∷ k) l e a b = (a.0, numbered_more (n + 1) m k l (omega (arith, e)) a.1 b)

-- ONE TURN
record Next (n : ℕ) (ms : List Bytes) (left : Session) : Type 0 where
  carried : NumberedFrom n ms
  next : left.next ≡ n + length ms

module _ (s : Session) where
  call_next : (c : _) → OfBytes (c ∷ []) → Byted s.ours → Byted s.peers → renews s c ≡ false → Next s.next (call s c).reply (call s c).session
  call_next c B bo bp e =
      let f : first_out s c ≡ s.next = ap (λ (b : Bool). cond b 1 s.next) e in
      record {
        carried = headed-numbered s.ours s.peers (time_of c) s.next (call s c).reply (subst (λ (n : ℕ). Headed s.ours s.peers (time_of c) n (call s c).reply) f ((Session.promise).heads s c B bo bp));
        next = (Session.promise).next_out s c ∙ ap (λ (n : ℕ). n + length (call s c).reply) f;
      }

  report_next : (v : Values) (t : ℕ) (buf store : Bytes) → Next s.next (report s v t buf store).reply (report s v t buf store).session
  unfolding report message
  report_next v t buf store =
      each_report (λ (o : Option Answer). Next s.next (unless s v t o buf).reply (unless s v t o buf).session) s v t (is_store store) (length buf)
      (λ k. record { carried = tt; next = each_refusal (λ (u : Session). u.next ≡ s.next + 0) k s (omega arith) (omega arith) })
      (λ P. record { carried = (((Report.promise).written s.ours s.peers (the_report s v t) (passed-sendable s v t P)).numbered, tt); next = refl })

  replay_next : (t : ℕ) (buf store : Bytes) → (replay s t buf store).session.next ≡ s.next + 0
  replay_next t buf store =
      each_replay (λ (o : Outcome). o.session.next ≡ s.next + 0) s t buf store (λ k e n. let z = ap (λ (u : Session). u.next) e in omega (arith, z)) (λ r h. omega arith) (λ P. omega arith)

  turn_next : (c : Turn) → Lent (c ∷ []) → Byted s.ours → Byted s.peers → begins_anew s c ≡ false → Next s.next (new_messages s c) (turn s c).session
  turn_next (Ours c) B bo bp e = call_next c B.0 bo bp e
  turn_next (OurReport v t buf store) B bo bp e = report_next v t buf store
  turn_next (OurReplay t buf store) B bo bp e = record { carried = tt; next = replay_next t buf store }

-- no turn changes the CompIDs
pub turn_ours : (s : Session) (c : Turn) → ((turn s c).session.ours ≡ s.ours) × ((turn s c).session.peers ≡ s.peers)
turn_ours s (Ours c) = let K = (Session.promise).buffers s c in (K.ours, K.peers)
turn_ours s (OurReport v t buf store) = let K = (Reporting.promise).kept s v t buf store in (K.ours, K.peers)
turn_ours s (OurReplay t buf store) =
    each_replay (λ (o : Outcome). (o.session.ours ≡ s.ours) × (o.session.peers ≡ s.peers)) s t buf store
    (λ k e n. (ap (λ (u : Session). u.ours) e, ap (λ (u : Session). u.peers) e)) (λ r h. (refl, refl)) (λ P. (refl, refl))

lent_split : (c : Turn) (cs : List Turn) → Lent (c ∷ cs) → Lent (c ∷ []) × Lent cs
lent_split (Ours c) cs L = ((L.0, tt), L.1)
lent_split (OurReport v t buf store) cs L = (tt, L)
lent_split (OurReplay t buf store) cs L = (tt, L)

-- A RUN
pub numbers : (s : Session) (cs : List Turn) → Lent cs → Byted s.ours → Byted s.peers → Onward s cs → UsedOnce s cs
numbers s [] L bo bp O = record { carried = tt; next = omega arith }
numbers s (c ∷ cs) L bo bp O =
    let h = lent_split c cs L in
    let N = turn_next s c h.0 bo bp O.0 in
    let i = turn_ours s c in
    let R = numbers (turn s c).session cs h.1 (subst Byted (sym i.0) bo) (subst Byted (sym i.1) bp) O.1 in
    let l = length-append (new_messages s c) (all_new (turn s c).session cs) in
    let a = N.next in
    let b = R.next in
    record { carried = numbered_more s.next (turn s c).session.next (new_messages s c) (all_new (turn s c).session cs) a N.carried R.carried; next = omega (arith, a, b, l) }
