-- A finished replay's numbers cover the requested range exactly, each once, whatever other calls come between that do not disturb it.
-- Assumes nothing.
use Prim.Native.Nat.{ℕ, ◌+◌, ◌≤◌, ◌<◌}
use native.Mathlib.Omega.{arith}
use mathlib.Core.Path.{◌≡◌, refl, sym, ap, ◌∙◌}
use mathlib.Core.Bool.{Bool, true, false, cond, not}
use mathlib.Core.List.{List, [], ◌∷◌, ◌++◌, map, append-nil, append_assoc}
use lib.Dec.{eqb, ltb}
use borrow.Author.Tests.{ltb-false, ne_eqb, eqb-true, eqb-false}
use Rattle.octets.specs.Bytes.{Bytes, Byted}
use Rattle.frame.specs.Stream.{joined}
use Rattle.message.specs.Whole.{body_in}
use Rattle.store.specs.Plan.{Item, ends, range, covered}
use Rattle.store.proofs.Plan.{range_more, item_fits}
use Rattle.moves.specs.Session.{Session, Replay, no_replay, running, replaying}
use Rattle.moves.specs.Moves.{N, requested}
use Rattle.session.specs.Calls.{Outcome, step}
use Rattle.session.specs.Replays.{Served}
use Rattle.session.proofs.Promise as Session
use Rattle.session.proofs.Replays.{asking_stays}
use Rattle.replaying.specs.Call.{its_table, its_item, behind, replay}
use Rattle.replaying.specs.Run.{Turn, Ours, OurReport, OurReplay, turn, final, item_if, items_of, sent_items, resent_by, Undisturbed, AllUndisturbed, Finished}
use Rattle.replaying.proofs.Ways.{Placed, placed_running, each_replay}

-- the numbers that a replay has still to cover
abbrev owed : Replay → List ℕ
owed p = cond (running p) (range p.at p.to) []

-- A REPLAY CALL covers an item's numbers, and owes those behind it
module _ (s : Session) (t : ℕ) (store : Bytes) where
  item_owes : Placed s → covered (its_item s store) ++ owed (behind s (its_item s store)) ≡ range s.replay.at s.replay.to
  item_owes P =
      let F = item_fits (its_table s store) s.replay.to s.replay.at P.ordered in
      ap (λ (n : ℕ). range n (ends (its_item s store)) ++ owed (behind s (its_item s store))) F.from
      ∙ go (ltb (ends (its_item s store)) s.replay.to) refl F.on F.within
    where
      go : (b : Bool) → ltb (ends (its_item s store)) s.replay.to ≡ b → s.replay.at ≤ ends (its_item s store) → ends (its_item s store) ≤ s.replay.to
          → range s.replay.at (ends (its_item s store)) ++ owed (cond b (record { at = ends (its_item s store) + 1; to = s.replay.to }) no_replay)
          ≡ range s.replay.at s.replay.to
      go true e k l =
          rw (ne_eqb (ends (its_item s store) + 1) 0 (λ x. omega (arith, x)))
          (range_more s.replay.at (ends (its_item s store)) (ends (its_item s store) + 1) s.replay.to (omega (arith, k)) refl (omega (arith, l)))
      go false e k l =
          let x = ltb-false (ends (its_item s store)) s.replay.to e in
          let y : ends (its_item s store) ≡ s.replay.to = omega (arith, x, l) in
          append-nil (range s.replay.at (ends (its_item s store))) ∙ ap (range s.replay.at) y

  replay_owes : (buf : Bytes) → joined (map covered (items_of s (OurReplay t buf store))) ++ owed (replay s t buf store).session.replay ≡ owed s.replay
  replay_owes buf =
      each_replay (λ (o : Outcome). joined (map covered (item_if o.answer (its_item s store))) ++ owed o.session.replay ≡ owed s.replay) s t buf store
      (λ k e n. ap (λ (u : Session). owed u.replay) e)
      (λ r h. refl)
      (λ P.
      ap (λ (l : List ℕ). l ++ owed (behind s (its_item s store))) (append-nil (covered (its_item s store)))
      ∙ item_owes (placed_running s P.ranged P.is_running) ∙ sym (ap (λ (b : Bool). cond b (range s.replay.at s.replay.to) []) P.is_running))

-- A RUN
turn_owes : (s : Session) (c : Turn) → Undisturbed s c → joined (map covered (items_of s c)) ++ owed (turn s c).session.replay ≡ owed s.replay
turn_owes s (Ours c) u = ap owed u
turn_owes s (OurReport v t buf store) u = ap owed u
turn_owes s (OurReplay t buf store) u = replay_owes s t store buf

covered_more : (k l : List Item) → joined (map covered (k ++ l)) ≡ joined (map covered k) ++ joined (map covered l)
covered_more [] l = refl
covered_more (i ∷ k) l = ap (λ (x : List ℕ). covered i ++ x) (covered_more k l) ∙ sym (append_assoc (covered i) (joined (map covered k)) (joined (map covered l)))

run_owes : (s : Session) (cs : List Turn) → AllUndisturbed s cs → resent_by s cs ++ owed (final s cs).replay ≡ owed s.replay
run_owes s [] U = refl
run_owes s (c ∷ cs) U =
    ap (λ (l : List ℕ). l ++ owed (final (turn s c).session cs).replay) (covered_more (items_of s c) (sent_items (turn s c).session cs))
    ∙ append_assoc (joined (map covered (items_of s c))) (resent_by (turn s c).session cs) (owed (final (turn s c).session cs).replay)
    ∙ ap (λ (l : List ℕ). joined (map covered (items_of s c)) ++ l) (run_owes (turn s c).session cs U.1)
    ∙ turn_owes s c U.0

pub finished : (s : Session) (cs : List Turn) → Finished s cs
finished s cs h U f =
    sym (append-nil (resent_by s cs))
    ∙ sym (ap (λ (p : Replay). resent_by s cs ++ owed p) f)
    ∙ run_owes s cs U
    ∙ ap (λ (b : Bool). cond b (range s.replay.at s.replay.to) []) h

-- FROM THE STEP that starts it
module _ (s : Session) (f : Bytes) (t : ℕ) (buf store : Bytes) (S : Served s f t buf store) where
  started : (step s f t buf store).session.replay ≡ requested s (body_in f)
  started = go (eqb (N s (body_in f)) s.E) refl
    where
      go : (b : Bool) → eqb (N s (body_in f)) s.E ≡ b → (step s f t buf store).session.replay ≡ requested s (body_in f)
      go true e = ap (λ (o : Outcome). o.session.replay) (((Session.promise).replays s).starts f t buf store S (eqb-true _ _ e))
      go false e = ap (λ (o : Outcome). o.session.replay) (((Session.promise).replays s).starts_too_high f t buf store S (above (eqb-false _ _ e))) ∙ asking_stays (replaying (requested s (body_in f)) s) s (body_in f) t
        where
          above : (N s (body_in f) ≡ s.E → ⊥) → s.E < N s (body_in f)
          above d = let l = S.not_low in omega (arith, l, d)

  pub requested_covered : Byted f → (cs : List Turn) → let s' = (step s f t buf store).session in AllUndisturbed s' cs → (final s' cs).replay ≡ no_replay
      → resent_by s' cs ≡ range (requested s (body_in f)).at (requested s (body_in f)).to
  requested_covered B cs U e =
      let w = (((Session.promise).replays s).within_L f t buf store B S).0 in
      finished (step s f t buf store).session cs (ap running started ∙ ap not (ne_eqb (requested s (body_in f)).at 0 (λ z. omega (arith, w, z)))) U e
      ∙ ap (λ (p : Replay). range p.at p.to) started
