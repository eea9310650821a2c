-- One request for each gap: behind a frame that asked, no frame within 10 seconds asks again, whatever calls come between them, and one after 10 seconds does.
-- Assumes nothing.
use Rattle.std.specs.Prelude.{if◌then◌else◌}
use Prim.Native.Nat.{ℕ}
use mathlib.Core.Path.{◌≡◌, refl, sym, ap, ap₂, ◌∙◌, subst}
use mathlib.Core.Bool.{Bool, true, false}
use mathlib.Core.List.{List, [], ◌∷◌, ◌++◌, append_assoc}
use Rattle.octets.specs.Bytes.{Bytes}
use Rattle.message.specs.Whole.{body_in}
use Rattle.gap.specs.Gap.{Gap, asks, asked_for, seen}
use Rattle.moves.specs.Session.{Session}
use Rattle.moves.specs.Moves.{N}
use Rattle.session.specs.Calls.{Outcome, step, Step, Tick, OurLogout, OurTestRequest, Reconnect}
use Rattle.replaying.specs.Run.{Turn, Ours, OurReport, OurReplay, turn, final}
use Rattle.requests.specs.Requests.{Rests, TooHigh, the_request, answered, all_answered, High, AllHigh, Within, Asked, AskedOnce, OneRequest}
use Rattle.requests.proofs.RuleFour.{rule_4}
use Rattle.requests.proofs.Resting.{tick_rests, logout_rests, test_rests, reconnect_rests, report_rests, replay_rests}
use Rattle.requests.proofs.Asking.{AskedAt, asks_not, asks_again}

-- A FRAME THAT IS TOO HIGH, by whether it asks
module _ (s : Session) (f : Bytes) (t : ℕ) (buf store : Bytes) (T : TooHigh s f t buf store) where
  abbrev result : Outcome
  result = step s f t buf store

  asking_reply : asks t s.E s.gap ≡ true → result.reply ≡ the_request s f t buf store ∷ []
  asking_reply a = (rule_4 s f t buf store T).asks_or_not ∙ ap (λ (b : Bool). if b then the_request s f t buf store ∷ [] else []) a

  silent_reply : asks t s.E s.gap ≡ false → result.reply ≡ []
  silent_reply a = (rule_4 s f t buf store T).asks_or_not ∙ ap (λ (b : Bool). if b then the_request s f t buf store ∷ [] else []) a

  its_gap : (b : Bool) → asks t s.E s.gap ≡ b → result.session.gap ≡ (if b then asked_for t s.E (N s (body_in f)) s.gap else seen (N s (body_in f)) s.gap)
  its_gap b a = (rule_4 s f t buf store T).gap_behind ∙ ap (λ (x : Bool). if x then asked_for t s.E (N s (body_in f)) s.gap else seen (N s (body_in f)) s.gap) a

-- A SESSION WHOSE GAP is open for e, which is its E, and was asked for at the time t
record Waits (t e : ℕ) (u : Session) : Type 0 where
  same_E : u.E ≡ e
  asked : AskedAt t e u.gap

module _ (t e : ℕ) where
  abbrev Quiet : Session → Turn → Type 0
  Quiet u c = (answered u c ≡ []) × Waits t e (turn u c).session

  rests_waits : (u : Session) (o : Outcome) → Waits t e u → Rests u o → Waits t e o.session
  rests_waits u o W R = record { same_E = R.same_E ∙ W.same_E; asked = subst (AskedAt t e) (sym R.same_gap) W.asked }

  -- such a frame within 10 seconds
  high_quiet : (u : Session) (f : Bytes) (t' : ℕ) (buf store : Bytes) → Waits t e u → TooHigh u f t' buf store → Within t t' → Quiet u (Ours (Step f t' buf store))
  high_quiet u f t' buf store W T w =
      let a = subst (λ (n : ℕ). asks t' n u.gap ≡ false) (sym W.same_E) (asks_not t t' e u.gap W.asked w) in
      let A = W.asked in (
        silent_reply u f t' buf store T a,
        record {
          same_E = (rule_4 u f t' buf store T).E_stays ∙ W.same_E;
          asked = subst (AskedAt t e) (sym (its_gap u f t' buf store T false a)) (record { is_open = A.is_open; for_E = A.for_E; at = A.at });
        },
      )

  turn_quiet : (u : Session) (c : Turn) → Waits t e u → High (Within t) u c → Quiet u c
  turn_quiet u (Ours (Step f t' buf store)) W h = high_quiet u f t' buf store W h.0 h.1
  turn_quiet u (Ours (Tick t' buf)) W h = (refl, rests_waits u _ W (tick_rests u t' buf))
  turn_quiet u (Ours (OurLogout t' buf)) W h = (refl, rests_waits u _ W (logout_rests u t' buf))
  turn_quiet u (Ours (OurTestRequest id t' buf)) W h = (refl, rests_waits u _ W (test_rests u id t' buf))
  turn_quiet u (Ours Reconnect) W h = (refl, rests_waits u _ W (reconnect_rests u))
  turn_quiet u (OurReport v t' buf store) W h = (refl, rests_waits u _ W (report_rests u v t' buf store))
  turn_quiet u (OurReplay t' buf store) W h = (refl, rests_waits u _ W (replay_rests u t' buf store))

  run_quiet : (u : Session) (cs : List Turn) → Waits t e u → AllHigh (Within t) u cs → (all_answered u cs ≡ []) × Waits t e (final u cs)
  run_quiet u [] W h = (refl, W)
  run_quiet u (c ∷ cs) W h =
      let q = turn_quiet u c W h.0 in
      let r = run_quiet (turn u c).session cs q.1 h.1 in
      (ap₂ (λ (k l : List Bytes). k ++ l) q.0 r.0, r.1)

-- A RUN and what comes behind it
answered-then : (u : Session) (cs ds : List Turn) → all_answered u (cs ++ ds) ≡ all_answered u cs ++ all_answered (final u cs) ds
answered-then u [] ds = refl
answered-then u (c ∷ cs) ds =
    ap (λ (l : List Bytes). answered u c ++ l) (answered-then (turn u c).session cs ds)
    ∙ sym (append_assoc (answered u c) (all_answered (turn u c).session cs) (all_answered (final u (c ∷ cs)) ds))

-- BEHIND AN ASKING, and after 10 seconds
pub asked_once : (t : ℕ) (s : Session) (cs : List Turn) → Asked t s → AllHigh (Within t) s cs → AskedOnce t s cs
asked_once t s cs A H =
    let q = run_quiet t s.E s cs (record { same_E = refl; asked = record { is_open = A.is_open; for_E = A.for_E; at = A.at } }) H in
    let W = q.1 in
    record {
      none_answered = q.0;
      E_stays = W.same_E;
      still_asked = record { is_open = W.asked.is_open; for_E = W.asked.for_E ∙ sym W.same_E; at = W.asked.at };
      one_more = λ f' t' buf' store' T p.
          asking_reply (final s cs) f' t' buf' store' T (subst (λ (n : ℕ). asks t' n (final s cs).gap ≡ true) (sym W.same_E) (asks_again t t' s.E (final s cs).gap W.asked p));
    }

-- ONE REQUEST
module _ (s : Session) (f : Bytes) (t : ℕ) (buf store : Bytes) (cs : List Turn) (T : TooHigh s f t buf store) (a : asks t s.E s.gap ≡ true)
    (H : AllHigh (Within t) (step s f t buf store).session cs) where
  abbrev behind : Session
  behind = (step s f t buf store).session

  first_asked : Asked t behind
  first_asked =
      let g = its_gap s f t buf store T true a in
      record { is_open = ap (λ (x : Gap). x.is_open) g; for_E = ap (λ (x : Gap). x.for) g ∙ sym (rule_4 s f t buf store T).E_stays; at = ap (λ (x : Gap). x.asked) g }

  once : AskedOnce t behind cs
  once = asked_once t behind cs first_asked H

  pub one_request : OneRequest s f t buf store cs
  one_request = record {
    one = ap₂ (λ (k l : List Bytes). k ++ l) (asking_reply s f t buf store T a) once.none_answered;
    E_stays = once.E_stays ∙ (rule_4 s f t buf store T).E_stays;
    one_more = λ f' t' buf' store' T' p.
        ap₂ (λ (k l : List Bytes). k ++ l) (asking_reply s f t buf store T a)
        (answered-then behind cs (Ours (Step f' t' buf' store') ∷ []) ∙ ap₂ (λ (k l : List Bytes). k ++ (l ++ [])) once.none_answered (once.one_more f' t' buf' store' T' p));
  }
