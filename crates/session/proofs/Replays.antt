-- What starts, replaces and drops a replay, in every call.
-- Assumes nothing.
use Prim.Native.Nat.{ℕ, ◌+◌, ◌≤◌, ◌<◌}
use native.Mathlib.Omega.{arith}
use mathlib.Core.Path.{◌≡◌, refl, sym, ap, ◌∙◌}
use mathlib.Core.Bool.{Bool, true, false, cond, false≢true}
use mathlib.Core.List.{◌∷◌, ◌++◌}
use mathlib.Core.Option.{none, some}
use lib.Dec.{eqb}
use Rattle.octets.specs.Bytes.{Bytes, Byted}
use Rattle.table.specs.declared.MsgType.TheVariants.{ResendRequest}
use Rattle.table.specs.Dictionary.{code35}
use Rattle.dictionary.specs.Verdict.{Clean}
use Rattle.dictionary.specs.Verdict.{verdict, msg_type}
use Rattle.message.specs.Whole.{body_in}
use Rattle.moves.specs.Words.{speaks}
use Rattle.moves.specs.Session.{Session, Replay, no_replay, expecting, replaying, in_range}
use Rattle.moves.specs.Seen.{is_clean}
use Rattle.moves.specs.Moves.{Deeds, Start, OurPeer, N, readable, type, reject, reject_type, counted, logout, unserved, requested, served, logon, waiting, stranger, served_first, asks_or_not, too_high, in_turn, active}
use Rattle.moves.specs.declared.record.Status.TheVariants.{Active, Closed}
use Rattle.session.specs.Calls.{Outcome, making, refusing, keeping, settled, settling, step, tick, reconnect, after_all}
use Rattle.session.specs.Delivery.{Unrefused}
use Rattle.session.specs.Replays.{Served, Moved, kept, dropped, replaced, Disturbs}
use Rattle.session.specs.declared.Refusal.{Refusal}
use Rattle.session.specs.Answer.{Done}
use Rattle.letters.proofs.Carried.{type_is_lem}
use Rattle.moves.proofs.Readings.{is_clean_lem}
use Rattle.moves.proofs.EachRule.{each_logon, each_serving, each_reset, each_asking, each_high, each_low, each_gap, each_turn, each_rule}
use Rattle.session.proofs.Fitting.{fit_served}
use Rattle.session.proofs.Stepping.{ranged_is, none_waiting, ample_by}
use Rattle.session.proofs.EachCall.{each_refusal, each_step, each_tick, each_logout, each_test, active-step, body_bytes}

-- A REFUSAL leaves it, or drops it by closing
refusal-moves : (k : Refusal) (s : Session) (buf : Bytes) {Serves : Type 0} {asked_for : Replay} → Moved s (refusing k s buf).session Serves asked_for
refusal-moves k s buf {Serves} {asked_for} = each_refusal (λ (u : Session). Moved s u Serves asked_for) k s (kept refl (λ e. e)) (dropped refl refl)

-- nor does the look at the gap behind a step
settled-moves : {s u : Session} {Serves : Type 0} {asked_for : Replay} → Moved s u Serves asked_for → Moved s (settled u) Serves asked_for
settled-moves (kept a b) = kept a b
settled-moves (dropped a b) = dropped a b
settled-moves (replaced a b) = replaced a b

-- nor do asking and seeing
pub asking_stays : (u s : Session) (body : Bytes) (t : ℕ) → (after_all t u (asks_or_not s body t)).replay ≡ u.replay
asking_stays u s body t = each_asking (λ (ds : Deeds). (after_all t u ds).replay ≡ u.replay) s body t (λ a. refl) (λ a. refl)

-- EVERY MOVE
module _ (s : Session) (f : Bytes) (t : ℕ) (buf store : Bytes) where
  abbrev body : Bytes
  body = body_in f

  abbrev Goes : Deeds → Type 0
  Goes ds = Moved s (after_all t s ds) (Served s f t buf store) (requested s body)

  logon_moves : s.replay ≡ no_replay → Goes (waiting s body t)
  unfolding logon
  logon_moves idle = each_logon Goes s body t (record { anew = λ y e. kept (sym idle) unclosed; logged_out = dropped refl refl; in_turn = λ y e. kept (sym idle) unclosed; high = λ y l. kept (sym idle) unclosed })
    where
      unclosed : Active ≡ Closed → s.status ≡ Closed
      unclosed e = let z : ◌≡◌ {A = ℕ} 0 1 = cc in absurd (omega arith)

  stranger_moves : (tag : ℕ) → Goes (stranger s body tag)
  unfolding reject
  stranger_moves tag = go (eqb (N s body) s.E)
    where
      go : (b : Bool) → Goes (cond b (counted s body (reject s body 9 tag ++ logout s body 101)) (reject s body 9 tag ++ logout s body 101))
      go true = dropped refl refl
      go false = dropped refl refl

  -- what is served, of a step that is not refused
  module _ (U : Unrefused s f t buf store) where
    serves : speaks (readable s body) ≡ true → OurPeer s body → s.E ≤ N s body → type s body "2" ≡ true → verdict body ≡ Clean → unserved s body ≡ none → Served s f t buf store
    serves r p l y c u = record { unrefused = U; numbered = r; peer = p; not_low = l; request = y; no_verdict = ap is_clean c; not_rejected = u }

    turn_moves : speaks (readable s body) ≡ true → OurPeer s body → N s body ≡ s.E → Goes (in_turn s body)
    unfolding reject reject_type served
    turn_moves r p e = each_turn Goes s body (record {
      report = λ y. kept refl (λ e. e);
      finding = λ c. kept refl (λ e. e);
      test = λ c y. kept refl (λ e. e);
      resend = λ c y. each_serving (λ (ds : Deeds). Goes (counted s body ds)) s body (kept refl (λ e. e)) (kept refl (λ e. e)) (λ u. replaced (serves r p (omega (arith, e)) y c u) refl);
      gap = λ y. each_gap Goes s body (λ l. kept refl (λ e. e)) (λ l. kept refl (λ e. e));
      logout = λ y. dropped refl refl;
      logon = λ y. kept refl (λ e. e);
      application = λ c y. kept refl (λ e. e);
      other = kept refl (λ e. e);
    })

    active_moves : Goes (active s body t)
    unfolding reject served
    active_moves = each_rule Goes s body t (record {
      one = λ r. dropped refl refl;
      two = λ r h tag l. stranger_moves tag;
      three = λ r p b. each_reset Goes s body (λ c. kept refl (λ e. e)) (λ c l. kept refl (λ e. e)) (λ c l. kept refl (λ e. e));
      four = λ r p b h. each_high Goes s body t (record {
        served_asks = λ c y u a. replaced (serves r p (omega (arith, h)) y c u) refl;
        served_seen = λ c y u a. replaced (serves r p (omega (arith, h)) y c u) refl;
        only_asks = λ a. kept refl (λ e. e);
        only_seen = λ a. kept refl (λ e. e);
      });
      five = λ r p b l. each_low Goes s body (dropped refl refl) (λ reason tag i j. kept refl (λ e. e)) (kept refl (λ e. e));
      six = λ r p b e. turn_moves r p e;
    })

  -- A REQUEST THAT IS SERVED: what the step does
  module _ (S : Served s f t buf store) where
    its_type : msg_type body ≡ some ResendRequest
    unfolding code35
    its_type = type_is_lem ResendRequest (msg_type body) S.request

    within_L : Byted f → (1 ≤ (requested s body).at) × ((requested s body).at ≤ (requested s body).to) × ((requested s body).to < s.next)
    unfolding served
    within_L B =
        let U = S.unrefused in
        let h = (fit_served t s body (ample_by s U.ranged U.unspent) (body_bytes f B U.one_frame) U.is_active (is_clean_lem (verdict body) S.no_verdict) S.request S.not_rejected).0 in
        (h.1, h.2, h.3)

    -- of the six rules only those for E and above it can speak
    served_by : (ds : Deeds) → (s.E < N s body → too_high s body t ≡ ds) → (N s body ≡ s.E → in_turn s body ≡ ds) → active s body t ≡ ds
    unfolding code35
    served_by ds high turn = each_rule (λ (x : Deeds). x ≡ ds) s body t (record {
      one = λ k. absurd (false≢true (sym k ∙ S.numbered));
      two = λ k h tag m. absurd (h S.peer);
      three = λ k h b. absurd (false≢true (sym (rw its_type) ∙ b));
      four = λ k h b m. high m;
      five = λ k h b m. let l = S.not_low in absurd (omega (arith, l, m));
      six = λ k h b m. turn m;
    })

    starts : N s body ≡ s.E → step s f t buf store ≡ settling (keeping Done (replaying (requested s body) (expecting (s.E + 1) s)) buf)
    unfolding code35 in_turn served
    starts e =
        let k : in_turn s body ≡ counted s body (served s body) = rw (is_clean_lem (verdict body) S.no_verdict, its_type, S.not_rejected) in
        active-step s f t buf store S.unrefused
        ∙ ap (λ (ds : Deeds). settling (making t s ds buf)) (served_by (counted s body (served s body)) (λ m. absurd (omega (arith, m, e))) (λ m. k))

    starts_too_high : s.E < N s body → step s f t buf store ≡ settling (making t s (Start (requested s body) ∷ asks_or_not s body t) buf)
    unfolding too_high served_first served
    starts_too_high l =
        let k : too_high s body t ≡ served s body ++ asks_or_not s body t = rw (S.request, S.no_verdict, S.not_rejected) in
        active-step s f t buf store S.unrefused
        ∙ ap (λ (ds : Deeds). settling (making t s ds buf)) (served_by (served s body ++ asks_or_not s body t) (λ m. k) (λ m. absurd (omega (arith, l, m))))

-- IN EVERY CALL
module _ (s : Session) where
  by_step : (f : Bytes) (t : ℕ) (buf store : Bytes) → Moved s (step s f t buf store).session (Served s f t buf store) (requested s (body_in f))
  by_step f t buf store = each_step (λ (o : Outcome). Moved s o.session (Served s f t buf store) (requested s (body_in f))) s t buf f store (record {
    refused = λ k. refusal-moves k s buf;
    logon = λ P st y c. settled-moves (logon_moves s f t buf store (none_waiting s (ranged_is s P.ranged) st));
    move = λ P st. settled-moves (active_moves s f t buf store (record { ranged = P.ranged; stored = P.lent; one_frame = P.framed; timed = P.timed; room = P.roomy; is_active = st; unspent = P.unspent }));
  })

  by_tick : (t : ℕ) (buf : Bytes) → Moved s (tick s t buf).session ⊥ no_replay
  by_tick t buf = each_tick (λ (o : Outcome). Moved s o.session ⊥ no_replay) s t buf (record { refused = λ k. refusal-moves k s buf; nothing = kept refl (λ e. e); beat = λ r l u. kept refl (λ e. e) })

  by_reconnect : in_range s ≡ true → (reconnect s).session.replay ≡ no_replay
  unfolding reconnect
  by_reconnect r = rw r

  pub disturbs : Disturbs s
  disturbs = record {
    by_step = by_step;
    starts = λ f t buf store S e. starts s f t buf store S e;
    starts_too_high = λ f t buf store S l. starts_too_high s f t buf store S l;
    within_L = λ f t buf store B S. within_L s f t buf store S B;
    by_tick = by_tick;
    by_logout = λ t buf. each_logout (λ (o : Outcome). Moved s o.session ⊥ no_replay) s t buf (λ k. refusal-moves k s buf) (λ S. dropped refl refl);
    by_test = λ id t buf. each_test (λ (o : Outcome). Moved s o.session ⊥ no_replay) s t buf id (λ k. refusal-moves k s buf) (λ S e. kept refl (λ e. e));
    by_reconnect = by_reconnect;
  }
