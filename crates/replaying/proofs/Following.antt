-- One message a call: a replay call sends the first item of the plan ahead, and leaves the others; and so over a run.
-- Assumes nothing.
use Prim.Native.Nat.{ℕ, ◌+◌}
use native.Mathlib.Omega.{arith}
use mathlib.Core.Path.{◌≡◌, refl, sym, ap, ap₂, ◌∙◌, subst}
use mathlib.Core.Bool.{Bool, true, false, cond}
use mathlib.Core.List.{List, [], ◌∷◌, ◌++◌, append_assoc}
use lib.Dec.{ltb}
use borrow.Author.Tests.{ltb-false, ne_eqb}
use Rattle.octets.specs.Bytes.{Bytes}
use Rattle.store.specs.Store.{kept}
use Rattle.store.specs.Plan.{Item, ends, plan}
use Rattle.store.proofs.Plan.{plan_next, plan_past}
use Rattle.moves.specs.Session.{Session, Replay, no_replay, running, sent_at, replaying}
use Rattle.session.specs.Calls.{Outcome, call}
use Rattle.session.proofs.Promise as Session
use Rattle.reporting.specs.Call.{report}
use Rattle.reporting.proofs.Promise as Reporting
use Rattle.replaying.specs.Call.{its_table, its_item, behind, replay}
use Rattle.replaying.specs.Run.{Turn, Ours, OurReport, OurReplay, turn, final, item_if, items_of, sent_items, Undisturbed, AllUndisturbed, Lends}
use Rattle.replaying.specs.Promise.{ahead, Follows}
use Rattle.replaying.proofs.Ways.{Placed, placed_running, each_replay}

-- behind an item of a running replay lies what the plan has behind it
module _ (s : Session) (t : ℕ) (store : Bytes) where
  the_others : Placed s → its_item s store ∷ ahead (replaying (behind s (its_item s store)) (sent_at t s)) store ≡ plan (its_table s store) s.replay.to s.replay.at
  the_others P =
      ap (λ (l : List Item). its_item s store ∷ l) (go (ltb (ends (its_item s store)) s.replay.to) refl)
      ∙ sym (plan_next (its_table s store) s.replay.to s.replay.at P.ordered)
    where
      go : (b : Bool) → ltb (ends (its_item s store)) s.replay.to ≡ b
          → ahead (replaying (cond b (record { at = ends (its_item s store) + 1; to = s.replay.to }) no_replay) (sent_at t s)) store
          ≡ plan (its_table s store) s.replay.to (ends (its_item s store) + 1)
      go true e = rw (ne_eqb (ends (its_item s store) + 1) 0 (λ x. omega (arith, x)))
      go false e =
          let x = ltb-false (ends (its_item s store)) s.replay.to e in
          sym (plan_past (its_table s store) s.replay.to (ends (its_item s store) + 1) (omega (arith, x)))

pub follows : (s : Session) (t : ℕ) (buf store : Bytes) → Follows s t buf store
follows s t buf store =
    each_replay (λ (o : Outcome). item_if o.answer (its_item s store) ++ ahead o.session store ≡ ahead s store) s t buf store
    (λ k e n. ap (λ (u : Session). ahead u store) e)
    (λ r h. refl)
    (λ P.
    the_others s t store (placed_running s P.ranged P.is_running)
    ∙ sym (ap (λ (b : Bool). cond b (plan (its_table s store) s.replay.to s.replay.at) []) P.is_running))

-- what is ahead of a session with the same CompIDs and the same replay
same_ahead : (s u : Session) (store : Bytes) → u.ours ≡ s.ours → u.peers ≡ s.peers → u.replay ≡ s.replay → ahead u store ≡ ahead s store
same_ahead s u store a b e = ap₂ (λ (us them : Bytes). ahead_of us them u.replay store) a b ∙ ap (λ (p : Replay). ahead_of s.ours s.peers p store) e
  where
    ahead_of : Bytes → Bytes → Replay → Bytes → List Item
    ahead_of us them p store = cond (running p) (plan (kept us them store) p.to p.at) []

lends_split : (store : Bytes) (c : Turn) (cs : List Turn) → Lends store (c ∷ cs) → Lends store (c ∷ []) × Lends store cs
lends_split store (Ours c) cs L = (tt, L)
lends_split store (OurReport v t buf other) cs L = (tt, L)
lends_split store (OurReplay t buf other) cs L = ((L.0, tt), L.1)

-- OVER A RUN that lends its replay calls one store: the CompIDs stay, so the table does
turn_follows : (s : Session) (store : Bytes) (c : Turn) → Undisturbed s c → Lends store (c ∷ []) → items_of s c ++ ahead (turn s c).session store ≡ ahead s store
turn_follows s store (Ours c) u l = let K = (Session.promise).buffers s c in same_ahead s (call s c).session store K.ours K.peers u
turn_follows s store (OurReport v t buf other) u l = let K = (Reporting.promise).kept s v t buf other in same_ahead s (report s v t buf other).session store K.ours K.peers u
turn_follows s store (OurReplay t buf other) u l =
    subst (λ (x : Bytes). items_of s (OurReplay t buf x) ++ ahead (replay s t buf x).session store ≡ ahead s store) (sym l.0) (follows s t buf store)

pub plan_out : (s : Session) (store : Bytes) (cs : List Turn) → AllUndisturbed s cs → Lends store cs → sent_items s cs ++ ahead (final s cs) store ≡ ahead s store
plan_out s store [] U L = refl
plan_out s store (c ∷ cs) U L =
    let h = lends_split store c cs L in
    append_assoc (items_of s c) (sent_items (turn s c).session cs) (ahead (final (turn s c).session cs) store)
    ∙ ap (λ (l : List Item). items_of s c ++ l) (plan_out (turn s c).session store cs U.1 h.1)
    ∙ turn_follows s store c U.0 h.0
