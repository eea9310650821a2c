-- Each way that a replay call can go: refused, with nothing due, or with the next message; and where a replay stands that is running.
-- Assumes nothing.
use Prim.Native.Nat.{ℕ, ◌≤◌, ◌<◌}
use native.Mathlib.Omega.{arith}
use mathlib.Core.Path.{◌≡◌, refl, ap₂, subst}
use mathlib.Core.Bool.{Bool, true, false, cond, not, ◌&&◌}
use mathlib.Core.List.{[], ◌∷◌}
use mathlib.Core.Option.{Option}
use lib.Dec.{eqb, leb, ltb}
use lib.ListN.{length}
use borrow.Author.Tests.{eqb-true, eqb-false, leb-true, leb-false, ltb-true, ltb-false, not-true, not-false}
use Rattle.octets.specs.Bytes.{Bytes, has}
use Rattle.octets.proofs.Tests.{both}
use Rattle.calendar.specs.Time.{limit}
use Rattle.places.specs.Places.{is_store}
use Rattle.moves.specs.Words.{◌when◌}
use Rattle.moves.specs.Session.{◌equals◌, Session, no_replay, running, in_range}
use Rattle.moves.specs.declared.record.Status.TheVariants.{Active}
use Rattle.moves.proofs.Words.{Said, each_first, then_by, said_when, not_said}
use Rattle.session.specs.Refusals.{No, after}
use Rattle.session.specs.Calls.{Outcome, refusing, keeping, answering}
use Rattle.session.specs.Answer.{Answer, NothingDue, Refused}
use Rattle.session.specs.declared.Refusal.{Refusal}
use Rattle.session.specs.declared.Refusal.TheVariants.{BufferShort, TimePast, BadRecord, BadStore}
use Rattle.session.proofs.Stepping.{ranged_is}
use Rattle.replaying.specs.Call.{its_item, refusals, playing, unless, replay}

-- WHERE A REPLAY STANDS
pub record Placed (s : Session) : Type 0 where
  pub active : (s.status equals Active) ≡ true
  pub low : 1 ≤ s.replay.at
  pub ordered : s.replay.at ≤ s.replay.to
  pub high : s.replay.to < s.next

module _ (s : Session) (r : in_range s ≡ true) where
  pub placed_running : running s.replay ≡ true → Placed s
  placed_running h =
      let a = s.replay.at in
      let z = s.replay.to in
      let p = subst (λ (b : Bool). cond b ((s.status equals Active) && leb a z && ltb z s.next) (eqb z 0) ≡ true) h (ranged_is s r).place in
      let k = both ((s.status equals Active) && leb a z) (ltb z s.next) p in
      let l = both (s.status equals Active) (leb a z) k.0 in
      record { active = l.0; low = positive (eqb-false a 0 (not-true (eqb a 0) h)); ordered = leb-true a z l.1; high = ltb-true z s.next k.1 }
    where
      positive : (s.replay.at ≡ 0 → ⊥) → 1 ≤ s.replay.at
      positive d = omega (arith, d)

  pub none_running : running s.replay ≡ false → s.replay ≡ no_replay
  none_running h =
      let a = s.replay.at in
      let z = s.replay.to in
      let p = subst (λ (b : Bool). cond b ((s.status equals Active) && leb a z && ltb z s.next) (eqb z 0) ≡ true) h (ranged_is s r).place in
      ap₂ (λ (x y : ℕ). record { at = x; to = y }) (eqb-true a 0 (not-false (eqb a 0) h)) (eqb-true z 0 p)

-- a call that sends a message
pub record Passed (s : Session) (t : ℕ) (buf store : Bytes) : Type 0 where
  pub ranged : in_range s ≡ true
  pub stored : is_store store ≡ true
  pub timed : t < limit
  pub roomy : 600 ≤ length buf
  pub is_running : running s.replay ≡ true

-- EACH WAY
module _ (Q : Outcome → Type 0) (s : Session) (t : ℕ) (buf store : Bytes) where
  abbrev Told : Answer → Type 0
  Told a = Q (answering a s buf)

  -- none of the four refusals changes the session
  pub each_replay : ((k : Refusal) → after k s ≡ s → has (11 ∷ 14 ∷ 7 ∷ 6 ∷ []) (No k) ≡ true → Q (refusing k s buf))
      → (in_range s ≡ true → running s.replay ≡ false → Q (keeping NothingDue s buf))
      → (Passed s t buf store → Q (playing s t (its_item s store) buf))
      → Q (replay s t buf store)
  unfolding replay refusals
  each_replay shuts idle sends =
      each_first (λ (o : Option Answer). Q (unless s t o (its_item s store) buf)) (refusals s t (is_store store) (length buf))
      (then_by (shut BadRecord (not (in_range s)) refl refl) (λ n₁₁.
      then_by (shut BadStore (not (is_store store)) refl refl) (λ n₁₄.
      then_by (shut TimePast (leb limit t) refl refl) (λ n₇.
      then_by (shut BufferShort (ltb (length buf) 600) refl refl) (λ n₆.
      then_by (said_when Told NothingDue (not (running s.replay)) (λ e. idle (not-false (in_range s) (not_said (Refused BadRecord) _ n₁₁)) (not-true (running s.replay) e))) (λ n₀.
      sends (record {
        ranged = not-false (in_range s) (not_said (Refused BadRecord) _ n₁₁);
        stored = not-false (is_store store) (not_said (Refused BadStore) _ n₁₄);
        timed = leb-false limit t (not_said (Refused TimePast) _ n₇);
        roomy = ltb-false (length buf) 600 (not_said (Refused BufferShort) _ n₆);
        is_running = not-false (running s.replay) (not_said NothingDue _ n₀);
      })))))))
    where
      shut : (k : Refusal) (b : Bool) → after k s ≡ s → has (11 ∷ 14 ∷ 7 ∷ 6 ∷ []) (No k) ≡ true → Said Told (Refused k when b)
      shut k b e n = said_when Told (Refused k) b (λ w. shuts k e n)
