-- The promise of the report call: each way that it can go, a refusal or the report, and what it leaves.
-- Assumes nothing.
use Prim.Native.Nat.{ℕ, ◌+◌, ◌≤◌, ◌<◌}
use native.Mathlib.Omega.{arith}
use mathlib.Core.Path.{◌≡◌, refl, sym, ap, ap₂, ◌∙◌, subst}
use mathlib.Core.Bool.{Bool, true, false, cond, not, ◌&&◌, false≢true}
use mathlib.Core.Option.{Option, none, some}
use lib.Dec.{eqb, leb, ltb}
use lib.ListN.{length}
use borrow.Author.Tests.{lt-ltb, le-leb, lt-leb, le-ltb, eqb-true, leb-false, ltb-false, not-false}
use Rattle.octets.specs.Bytes.{Bytes, within}
use Rattle.octets.proofs.Tests.{both_true}
use Rattle.octets.proofs.Numerals.{is_within}
use Rattle.calendar.specs.Time.{limit}
use Rattle.message.specs.Unfit.{comp_id}
use Rattle.places.specs.Places.{is_store}
use Rattle.report.specs.Values.{Values, takes}
use Rattle.report.specs.Report.{sent, sendable}
use Rattle.report.proofs.Promise as Report
use Rattle.store.specs.Store as Store
use Rattle.store.specs.Store.{find, keep}
use Rattle.store.proofs.Promise as Promised
use Rattle.moves.specs.Words.{◌when◌, first}
use Rattle.moves.specs.Session.{◌equals◌, Session, Replay, no_replay, running, numbering, sent_at, placed, in_range}
use Rattle.moves.specs.declared.record.Status.{Status}
use Rattle.moves.specs.declared.record.Status.TheVariants.{Waiting, Active, Closed}
use Rattle.moves.proofs.Words.{Said, each_first, then_by, said_when, not_said}
use Rattle.session.specs.Calls.{Outcome, keeping, spent}
use Rattle.session.specs.Promise.{Kept}
use Rattle.session.specs.Answer.{Answer}
use Rattle.session.specs.Answer.{Done, Refused}
use Rattle.session.specs.declared.Refusal.{Refusal}
use Rattle.session.specs.declared.Refusal.TheVariants.{SessionClosed, NumbersSpent, TimePast, BadValue, NoRoom, BadRecord, ReportTooLong, Replaying, BadStore}
use Rattle.session.proofs.Stepping.{Ranged, ranged_is, unspent_is}
use Rattle.session.proofs.Ranged.{is_ranged}
use Rattle.session.proofs.Whole.{kept_refusal}
use Rattle.session.proofs.Promise.{refused_ranged, never_past}
use Rattle.reporting.specs.Call.{the_report, message, refusals, sending, unless, report, kept_unless, store_after}
use Rattle.reporting.specs.Promise.{Sends, Reported, Stored, Promise}

-- what a report is like that no refusal stopped
pub record Passed (s : Session) (v : Values) (t : ℕ) (stored : Bool) (room : ℕ) : Type 0 where
  pub ranged : in_range s ≡ true
  pub still : running s.replay ≡ false
  pub lent : stored ≡ true
  pub timed : t < limit
  pub active : (s.status equals Active) ≡ true
  pub unspent : spent s ≡ false
  pub taken : takes v ≡ true
  pub short : length (message s v t) ≤ 512
  pub fits : length (message s v t) ≤ room

-- EACH WAY that it can go: what holds of each refusal, and of what passed them, holds of the call
pub each_report : (P : Option Answer → Type 0) (s : Session) (v : Values) (t : ℕ) (stored : Bool) (room : ℕ)
    → ((k : Refusal) → P (some (Refused k))) → (Passed s v t stored room → P none) → P (first (refusals s v t stored room))
unfolding refusals
each_report P s v t stored room shuts h =
    each_first P (refusals s v t stored room)
    (then_by (shut BadRecord (not (in_range s))) (λ n₁₁.
    then_by (shut Replaying (running s.replay)) (λ n₁₃.
    then_by (shut BadStore (not stored)) (λ n₁₄.
    then_by (shut TimePast (leb limit t)) (λ n₇.
    then_by (shut SessionClosed (not (s.status equals Active))) (λ n₂.
    then_by (shut NumbersSpent (spent s)) (λ n₅.
    then_by (shut BadValue (not (takes v))) (λ n₈.
    then_by (shut ReportTooLong (ltb 512 (length (message s v t)))) (λ n₁₂.
    then_by (shut NoRoom (ltb room (length (message s v t)))) (λ n₉.
    h (record {
      ranged = not-false (in_range s) (not_said (Refused BadRecord) _ n₁₁);
      still = not_said (Refused Replaying) _ n₁₃;
      lent = not-false stored (not_said (Refused BadStore) _ n₁₄);
      timed = leb-false limit t (not_said (Refused TimePast) _ n₇);
      active = not-false (s.status equals Active) (not_said (Refused SessionClosed) _ n₂);
      unspent = not_said (Refused NumbersSpent) _ n₅;
      taken = not-false (takes v) (not_said (Refused BadValue) _ n₈);
      short = ltb-false 512 (length (message s v t)) (not_said (Refused ReportTooLong) _ n₁₂);
      fits = ltb-false room (length (message s v t)) (not_said (Refused NoRoom) _ n₉);
    })))))))))))
  where
    shut : (k : Refusal) (b : Bool) → Said (λ a. P (some a)) (Refused k when b)
    shut k b = said_when (λ a. P (some a)) (Refused k) b (λ e. shuts k)

-- it is a report that the call can write
pub passed-sendable : (s : Session) (v : Values) (t : ℕ) {stored : Bool} {room : ℕ} → Passed s v t stored room → sendable s.ours s.peers (the_report s v t) ≡ true
unfolding sendable message
passed-sendable s v t P =
    let R = ranged_is s P.ranged in
    let U = unspent_is s P.unspent in
    both_true (comp_id s.ours && comp_id s.peers && within 1 999_999_990 s.next && ltb t limit && takes v) (leb (length (sent s.ours s.peers (the_report s v t))) 512)
    (both_true (comp_id s.ours && comp_id s.peers && within 1 999_999_990 s.next && ltb t limit) (takes v)
    (both_true (comp_id s.ours && comp_id s.peers && within 1 999_999_990 s.next) (ltb t limit)
    (both_true (comp_id s.ours && comp_id s.peers) (within 1 999_999_990 s.next) (both_true (comp_id s.ours) (comp_id s.peers) R.ours R.peers) (is_within 1 999_999_990 s.next R.next.0 U.1))
    (lt-ltb t limit P.timed))
    P.taken)
    (le-leb (length (sent s.ours s.peers (the_report s v t))) 512 P.short)

-- no replay is running
no_place : (s : Session) → placed s s.replay ≡ true → running s.replay ≡ false → s.replay ≡ no_replay
no_place s p e =
    let k = rw e at p in
    ap₂ (λ (a z : ℕ). record { at = a; to = z }) (eqb-true s.replay.at 0 (not-false _ e)) (eqb-true s.replay.to 0 k)

-- a status that is Active, and one that is not: then no replay is running
active_is : (x : Status) → (x equals Active) ≡ true → x ≡ Active
active_is Waiting e = absurd (false≢true e)
active_is Active e = refl
active_is Closed e = absurd (false≢true e)

inactive : (x : Status) → (x ≡ Active → ⊥) → (x equals Active) ≡ false
inactive Waiting n = refl
inactive Active n = absurd (n refl)
inactive Closed n = refl

unplaced : (s : Session) → placed s s.replay ≡ true → (s.status equals Active) ≡ false → running s.replay ≡ false
unplaced s p a = go (running s.replay) p
  where
    go : (b : Bool) → cond b ((s.status equals Active) && leb s.replay.at s.replay.to && ltb s.replay.to s.next) (eqb s.replay.to 0) ≡ true → b ≡ false
    go true e = absurd (false≢true (sym (rw a) ∙ e))
    go false e = refl

pub passed_still : (s : Session) (v : Values) (t : ℕ) {stored : Bool} {room : ℕ} → Passed s v t stored room → s.replay ≡ no_replay
passed_still s v t P = no_place s (ranged_is s P.ranged).place P.still

-- ONE CALL
module _ (s : Session) (v : Values) (t : ℕ) (buf store : Bytes) where
  -- what went out
  pub went_out : (report s v t buf store).answer ≡ Done
      → Passed s v t (is_store store) (length buf) × ((report s v t buf store ≡ sending s v t buf) × (store_after s v t buf store ≡ keep s.ours s.peers (the_report s v t) store))
  unfolding report store_after
  went_out =
      each_report
      (λ (o : Option Answer). (unless s v t o buf).answer ≡ Done
      → Passed s v t (is_store store) (length buf) × ((unless s v t o buf ≡ sending s v t buf) × (kept_unless s v t o store ≡ keep s.ours s.peers (the_report s v t) store)))
      s v t (is_store store) (length buf)
      (λ k e. let z : ◌≡◌ {A = ℕ} 0 1 = cc in absurd (omega arith))
      (λ P e. (P, (refl, refl)))

  -- none of its refusals stands, and then it goes out
  sends : Passed s v t (is_store store) (length buf) → Sends s v t buf store
  sends P = record {
    ranged = P.ranged;
    none_running = passed_still s v t P;
    stored = P.lent;
    timed = P.timed;
    is_active = active_is s.status P.active;
    unspent = P.unspent;
    taken = P.taken;
    short = P.short;
    fits = P.fits;
  }

  reports : Sends s v t buf store → (report s v t buf store).answer ≡ Done
  unfolding report refusals
  reports S =
      rw (S.ranged, ap running S.none_running, S.stored, lt-leb limit t S.timed, ap (λ (x : Status). x equals Active) S.is_active, S.unspent, S.taken, le-ltb 512 (length (message s v t)) S.short, le-ltb (length buf) (length (message s v t)) S.fits)

  outside_active : in_range s ≡ true → is_store store ≡ true → t < limit → (s.status ≡ Active → ⊥) → report s v t buf store ≡ keeping (Refused SessionClosed) s buf
  unfolding report refusals
  outside_active r l h n =
      let a = inactive s.status n in
      rw (r, unplaced s (ranged_is s r).place a, l, lt-leb limit t h, a)

  reported : (report s v t buf store).answer ≡ Done → Sends s v t buf store × Reported s v t (report s v t buf store)
  reported e =
      let w = went_out e in (
        sends w.0,
        record {
          one = ap (λ (o : Outcome). o.reply) w.1.0;
          whole = (Report.promise).written s.ours s.peers (the_report s v t) (passed-sendable s v t w.0);
          used = ap (λ (o : Outcome). o.session) w.1.0;
        },
      )

  kept : Kept (report s v t buf store) s buf
  unfolding report
  kept =
      each_report (λ (o : Option Answer). Kept (unless s v t o buf) s buf) s v t (is_store store) (length buf)
      (kept_refusal s t buf)
      (λ P. record { behind = refl; refused = λ k e. let z : ◌≡◌ {A = ℕ} 0 1 = cc in absurd (omega arith); idle = λ e. let z : ◌≡◌ {A = ℕ} 0 1 = cc in absurd (omega arith); ours = refl; peers = refl })

  -- the ranges
  pub report_ranged : in_range s ≡ true → in_range (report s v t buf store).session ≡ true
  unfolding report
  report_ranged r =
      let R = ranged_is s r in
      is_ranged _
      (each_report (λ (o : Option Answer). Ranged (unless s v t o buf).session) s v t (is_store store) (length buf)
      (λ k. refused_ranged k s R)
      (λ P. record {
        ours = R.ours;
        peers = R.peers;
        E = R.E;
        next = (omega arith, omega (arith, (unspent_is s P.unspent).1));
        heartbeat = R.heartbeat;
        place = subst (λ (p : Replay). placed (sent_at t (numbering (s.next + 1) s)) p ≡ true) (sym (passed_still s v t P)) refl;
        gap = R.gap;
      }))

  no_replay_moved : (report s v t buf store).answer ≡ Done → (s.replay ≡ no_replay) × ((report s v t buf store).session.replay ≡ no_replay)
  no_replay_moved e =
      let w = went_out e in
      let n = passed_still s v t w.0 in
      (n, ap (λ (o : Outcome). o.session.replay) w.1.0 ∙ n)

  -- the store
  stored : Stored s v t buf store
  unfolding report store_after
  stored =
      record {
        kept = λ e. (went_out e).1.1;
        found = λ e n.
            let w = went_out e in
            subst (λ (x : Bytes). find s.next (Store.kept s.ours s.peers x) ≡ some (the_report s v t)) (sym w.1.1)
            ((Promised.promise).keeps s.ours s.peers (the_report s v t) store w.0.lent (passed-sendable s v t w.0) n).new;
        refused = λ k.
            each_report (λ (o : Option Answer). (unless s v t o buf).answer ≡ Refused k → kept_unless s v t o store ≡ store) s v t (is_store store) (length buf)
            (λ j e. refl)
            (λ P e. let z : ◌≡◌ {A = ℕ} 0 1 = cc in absurd (omega arith));
      }

told_apart : (s s' : Session) (v v' : Values) (t t' : ℕ) (buf buf' store store' : Bytes) → (report s v t buf store).answer ≡ Done → (report s' v' t' buf' store').answer ≡ Done
    → message s v t ≡ message s' v' t' → the_report s v t ≡ the_report s' v' t'
unfolding message
told_apart s s' v v' t t' buf buf' store store' e f m =
    (Report.promise).one s.ours s.peers s'.ours s'.peers (the_report s v t) (the_report s' v' t') (passed-sendable s v t (went_out s v t buf store e).0) (passed-sendable s' v' t' (went_out s' v' t' buf' store' f).0) m

pub promise : Promise
promise =
    record {
      reported = reported;
      reports = reports;
      outside_active = outside_active;
      kept = kept;
      told_apart = told_apart;
      ranged = λ s v t buf store r. never_past _ (report_ranged s v t buf store r);
      no_replay_moved = no_replay_moved;
      stored = stored;
    }
