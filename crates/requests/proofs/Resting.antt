-- The calls that are given no frame leave E and the gap as they are, and so does every refusal.
-- Assumes nothing.
use Prim.Native.Nat.{ℕ}
use mathlib.Core.Path.{◌≡◌, refl, sym, subst}
use mathlib.Core.Option.{Option}
use lib.ListN.{length}
use Rattle.octets.specs.Bytes.{Bytes}
use Rattle.places.specs.Places.{is_store}
use Rattle.report.specs.Values.{Values}
use Rattle.moves.specs.Session.{Session}
use Rattle.session.specs.Calls.{Outcome, refusing, tick, logout, test_request, reconnect, Step, Tick, OurLogout, OurTestRequest, Reconnect}
use Rattle.session.specs.Answer.{Answer}
use Rattle.session.specs.declared.Refusal.{Refusal}
use Rattle.session.proofs.Promise as Session
use Rattle.session.proofs.EachCall.{each_refusal, each_tick, each_logout, each_test, each_reconnect}
use Rattle.reporting.specs.Call.{unless, report}
use Rattle.reporting.proofs.Promise.{each_report}
use Rattle.replaying.specs.Call.{replay}
use Rattle.replaying.specs.Run.{Turn, Ours, OurReport, OurReplay, turn}
use Rattle.replaying.proofs.Ways.{each_replay}
use Rattle.requests.specs.Requests.{Rests, Frameless, RefusalRests}

module _ (s : Session) where
  still : {o : Outcome} → o.session.E ≡ s.E → o.session.gap ≡ s.gap → Rests s o
  still e g = record { same_E = e; same_gap = g }

  pub refusal_rests : (k : Refusal) (buf : Bytes) → Rests s (refusing k s buf)
  refusal_rests k buf = record { same_E = each_refusal (λ (u : Session). u.E ≡ s.E) k s refl refl; same_gap = each_refusal (λ (u : Session). u.gap ≡ s.gap) k s refl refl }

  pub tick_rests : (t : ℕ) (buf : Bytes) → Rests s (tick s t buf)
  tick_rests t buf = each_tick (Rests s) s t buf (record { refused = λ k. refusal_rests k buf; nothing = still refl refl; beat = λ r l u. still refl refl })

  pub logout_rests : (t : ℕ) (buf : Bytes) → Rests s (logout s t buf)
  logout_rests t buf = each_logout (Rests s) s t buf (λ k. refusal_rests k buf) (λ S. still refl refl)

  pub test_rests : (id : Bytes) (t : ℕ) (buf : Bytes) → Rests s (test_request s id t buf)
  test_rests id t buf = each_test (Rests s) s t buf id (λ k. refusal_rests k buf) (λ S e. still refl refl)

  pub reconnect_rests : Rests s (reconnect s)
  reconnect_rests = each_reconnect (Rests s) s (still refl refl) (still refl refl)

  pub report_rests : (v : Values) (t : ℕ) (buf store : Bytes) → Rests s (report s v t buf store)
  unfolding report
  report_rests v t buf store =
      each_report (λ (o : Option Answer). Rests s (unless s v t o buf)) s v t (is_store store) (length buf) (λ k. refusal_rests k buf) (λ P. still refl refl)

  pub replay_rests : (t : ℕ) (buf store : Bytes) → Rests s (replay s t buf store)
  replay_rests t buf store = each_replay (Rests s) s t buf store (λ k e n. refusal_rests k buf) (λ r h. still refl refl) (λ P. still refl refl)

-- EVERY CALL that is given no frame
pub rests : (s : Session) (c : Turn) → Frameless c → Rests s (turn s c)
rests s (Ours (Step f t buf store)) n = absurd n
rests s (Ours (Tick t buf)) n = tick_rests s t buf
rests s (Ours (OurLogout t buf)) n = logout_rests s t buf
rests s (Ours (OurTestRequest id t buf)) n = test_rests s id t buf
rests s (Ours Reconnect) n = reconnect_rests s
rests s (OurReport v t buf store) n = report_rests s v t buf store
rests s (OurReplay t buf store) n = replay_rests s t buf store

-- and a step that is refused
pub refused : (s : Session) (f : Bytes) (t : ℕ) (buf store : Bytes) → RefusalRests s f t buf store
refused s f t buf store k e = subst (Rests s) (sym (((Session.promise).buffers s (Step f t buf store)).refused k e)) (refusal_rests s k buf)
