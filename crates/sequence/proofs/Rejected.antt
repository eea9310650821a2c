-- What a call rejects: nothing without a frame, no logon, and of our peer's messages only such whose number is passed. So a frame that can still be delivered is
-- not rejected.
-- Assumes nothing.
use Prim.Native.Nat.{ℕ, ◌≤◌, ◌<◌}
use Prim.Native.String.{String}
use native.Mathlib.Omega.{arith}
use mathlib.Core.Path.{◌≡◌, refl, sym, ap, subst}
use mathlib.Core.Bool.{Bool, true, false, cond, not, ◌||◌}
use mathlib.Core.List.{[], ◌∷◌}
use mathlib.Core.Option.{some}
use Rattle.octets.specs.Bytes.{Bytes, fix, decimal}
use Rattle.octets.proofs.Tests.{both}
use Rattle.fields.specs.Field.{first_field}
use Rattle.table.specs.declared.MsgType.{MsgType}
use Rattle.table.specs.declared.MsgType.TheVariants.{OrderCancelRequest, TradeCaptureReportRequest}
use Rattle.table.specs.Dictionary.{code35}
use Rattle.dictionary.specs.Verdict.{Clean}
use Rattle.dictionary.specs.Verdict.{verdict}
use Rattle.message.specs.Message.{Value, row, message, written}
use Rattle.message.specs.Whole.{body_in}
use Rattle.message.proofs.Wholes.{body_back}
use Rattle.replies.specs.Reply as Reply
use Rattle.calendar.specs.Time.{utc}
use Rattle.moves.specs.Words.{speaks}
use Rattle.moves.specs.Session.{Session}
use Rattle.moves.specs.Seen.{is_it, is_clean}
use Rattle.moves.specs.Moves.{OurPeer, Letter, Heartbeat, Logon, ResendRequest, Reject, GapFill, Logout, TestRequest, letter, Deed, Write, Start, Count, FillTo, ResetTo, Anew, HeartbeatBecomes, Becomes, GapBecomes, Deliver, Deeds, N, type, bare, readable, reject, rejection, counted, logout, served, logon, waiting, too_high, filled, in_turn, active}
use Rattle.moves.proofs.EachRule.{each_logon, each_high, each_low, each_gap, each_turn, each_rule}
use Rattle.session.specs.Calls.{Outcome, after_deed, after_all, making, step}
use Rattle.session.specs.Sequence.{is_reject, rejects}
use Rattle.session.proofs.EachCall.{each_step}
use Rattle.sequence.proofs.OneStep.{never, application_not, fill_turn, other_counts}

-- A MESSAGE OF OURS is of the type that it is written with
written_type : (m : MsgType) (vs : ℕ → Value) → is_reject (written m vs) ≡ is_it (fix "3") (first_field 35 (row (message m vs)))
unfolding written
written_type m vs = ap (λ (b : Bytes). is_it (fix "3") (first_field 35 b)) (body_back (row (message m vs)))

-- every letter but the Reject is none
abbrev pub Other : Letter → Type 0
Other (Heartbeat id) = Unit {0}
Other (Logon method seconds version reset) = Unit {0}
Other (ResendRequest e) = Unit {0}
Other (Reject n tag type reason) = ⊥
Other (GapFill n) = Unit {0}
Other (Logout why) = Unit {0}
Other (TestRequest id) = Unit {0}

pub no_reject : (us them : Bytes) (n : ℕ) (time : Bytes) (l : Letter) → Other l → is_reject (letter us them n time l) ≡ false
unfolding Reply.heartbeat Reply.resend_request Reply.gap_fill Reply.logout Reply.test_request first_field decimal code35
no_reject us them n time (Heartbeat id) o = written_type _ _
no_reject us them n time (Logon method seconds version reset) o = written_type _ _
no_reject us them n time (ResendRequest e) o = written_type _ _
no_reject us them n time (Reject m tag type reason) o = absurd o
no_reject us them n time (GapFill m) o = written_type _ _
no_reject us them n time (Logout why) o = written_type _ _
no_reject us them n time (TestRequest id) o = written_type _ _

-- DEEDS that write no Reject
abbrev Tame : Deed → Type 0
Tame (Write l) = Other l
Tame (Start p) = Unit {0}
Tame Count = Unit {0}
Tame (FillTo n) = Unit {0}
Tame (ResetTo n) = Unit {0}
Tame Anew = Unit {0}
Tame (HeartbeatBecomes n) = Unit {0}
Tame (Becomes st) = Unit {0}
Tame (GapBecomes g) = Unit {0}
Tame Deliver = Unit {0}

abbrev pub AllTame : Deeds → Type 0
AllTame [] = Unit {0}
AllTame (d ∷ ds) = Tame d × AllTame ds

pub tame : (t : ℕ) (s : Session) (ds : Deeds) (buf : Bytes) → AllTame ds → rejects (making t s ds buf) ≡ false
tame t s [] buf p = refl
tame t s (Write l ∷ ds) buf p = rw (no_reject s.ours s.peers s.next (utc t) l p.0) (tame t (after_deed t s (Write l)) ds buf p.1)
tame t s (Start q ∷ ds) buf p = tame t (after_deed t s (Start q)) ds buf p.1
tame t s (Count ∷ ds) buf p = tame t (after_deed t s Count) ds buf p.1
tame t s (FillTo n ∷ ds) buf p = tame t (after_deed t s (FillTo n)) ds buf p.1
tame t s (ResetTo n ∷ ds) buf p = tame t (after_deed t s (ResetTo n)) ds buf p.1
tame t s (Anew ∷ ds) buf p = tame t (after_deed t s Anew) ds buf p.1
tame t s (HeartbeatBecomes n ∷ ds) buf p = tame t (after_deed t s (HeartbeatBecomes n)) ds buf p.1
tame t s (Becomes st ∷ ds) buf p = tame t (after_deed t s (Becomes st)) ds buf p.1
tame t s (GapBecomes g ∷ ds) buf p = tame t (after_deed t s (GapBecomes g)) ds buf p.1
tame t s (Deliver ∷ ds) buf p = tame t s ds buf p.1

module _ (s : Session) (body : Bytes) where
  -- the answer to a logon, and to a number that is too high
  logon_tame : (t : ℕ) → AllTame (waiting s body t)
  unfolding logon
  logon_tame t = each_logon AllTame s body t (record {
    anew = λ y n. (tt, (tt, (tt, (tt, (tt, tt)))));
    logged_out = (tt, (tt, tt));
    in_turn = λ y n. (tt, (tt, (tt, (tt, (tt, tt)))));
    high = λ y n. (tt, (tt, (tt, (tt, (tt, (tt, tt))))));
  })

  high_tame : (t : ℕ) → AllTame (too_high s body t)
  unfolding served
  high_tame t = each_high AllTame s body t (record { served_asks = λ c y u a. (tt, (tt, (tt, tt))); served_seen = λ c y u a. (tt, (tt, tt)); only_asks = λ a. (tt, (tt, tt)); only_seen = λ a. (tt, tt) })

  -- THE NUMBER OF WHAT IS REJECTED is passed
  module _ (t : ℕ) (buf : Bytes) where
    turn_passes : N s body ≡ s.E → N s body < (after_all t s (in_turn s body)).E
    unfolding reject
    turn_passes e = go (type s body "4") refl
      where
        fills : (c : Bool) → N s body < (after_all t s (cond c (filled s body) (counted s body (rejection s body)))).E
        fills true = each_gap (λ (ds : Deeds). N s body < (after_all t s ds).E) s body (λ l. omega arith) (λ l. l)
        fills false = omega arith

        go : (h : Bool) → type s body "4" ≡ h → N s body < (after_all t s (in_turn s body)).E
        go true y = subst (λ (ds : Deeds). N s body < (after_all t s ds).E) (sym (fill_turn s body t buf y)) (fills (is_clean (verdict body)))
        go false y = omega (arith, e, other_counts s body t buf y)

    move_passes : OurPeer s body → bare s body ≡ false → rejects (making t s (active s body t) buf) ≡ true → N s body < (after_all t s (active s body t)).E
    unfolding reject
    move_passes p b = each_rule (λ (ds : Deeds). rejects (making t s ds buf) ≡ true → N s body < (after_all t s ds).E) s body t (record {
      one = λ r e. never (tame t s (logout s body 101) buf (tt, (tt, tt))) e;
      two = λ r h tag l. absurd (h p);
      three = λ r q k. never b k;
      four = λ r q k l e. never (tame t s (too_high s body t) buf (high_tame t)) e;
      five = λ r q k l. each_low (λ (ds : Deeds). rejects (making t s ds buf) ≡ true → N s body < (after_all t s ds).E) s body (λ e. omega arith) (λ reason tag i j e. omega arith) (λ e. omega arith);
      six = λ r q k n e. turn_passes n;
    })

pub rejected-passed : (s : Session) (f : Bytes) (t : ℕ) (buf store : Bytes) → OurPeer s (body_in f) → bare s (body_in f) ≡ false → rejects (step s f t buf store) ≡ true → N s (body_in f) < (step s f t buf store).session.E
rejected-passed s f t buf store p b = each_step (λ (o : Outcome). rejects o ≡ true → N s (body_in f) < o.session.E) s t buf f store (record {
  refused = λ k e. never refl e;
  logon = λ P st y c e. never (tame t s (waiting s (body_in f) t) buf (logon_tame s (body_in f) t)) e;
  move = λ P st. move_passes s (body_in f) t buf p b;
})

-- WHAT CAN STILL BE DELIVERED: a frame from our peer with a clean verdict, of type AD or F, whose number has not been passed
pub record Ahead (s : Session) (body : Bytes) : Type 0 where
  pub numbered : speaks (readable s body) ≡ true
  pub not_low : s.E ≤ N s body
  pub peer : OurPeer s body
  pub no_verdict : verdict body ≡ Clean
  pub application : (type s body "AD" || type s body "F") ≡ true

module _ (s : Session) (body : Bytes) (A : Ahead s body) where
  not_type : (x : String) → is_it (fix x) (some (code35 TradeCaptureReportRequest)) ≡ false → is_it (fix x) (some (code35 OrderCancelRequest)) ≡ false → type s body x ≡ false
  not_type x a f = application_not s body (fix x) a f A.application

  turn_tame : AllTame (in_turn s body)
  unfolding code35
  turn_tame = each_turn AllTame s body (record {
    report = λ a. never (not_type "AE" refl refl) a;
    finding = λ c. never c (ap is_clean A.no_verdict);
    test = λ c a. never (not_type "1" refl refl) a;
    resend = λ c a. never (not_type "2" refl refl) a;
    gap = λ a. never (not_type "4" refl refl) a;
    logout = λ a. never (not_type "5" refl refl) a;
    logon = λ a. never (not_type "A" refl refl) a;
    application = λ c a. (tt, (tt, tt));
    other = (tt, tt);
  })

  move_tame : (t : ℕ) → AllTame (active s body t)
  unfolding code35
  move_tame t = each_rule AllTame s body t (record {
    one = λ r. never r A.numbered;
    two = λ r h tag l. absurd (h A.peer);
    three = λ r p b. never (not_type "4" refl refl) (both (type s body "4") (not (is_it (fix "Y") (first_field 123 body))) b).0;
    four = λ r p b l. high_tame s body t;
    five = λ r p b l. let k = A.not_low in absurd (omega arith);
    six = λ r p b e. turn_tame;
  })

pub unrejected : (s : Session) (f : Bytes) (t : ℕ) (buf store : Bytes) → Ahead s (body_in f) → rejects (step s f t buf store) ≡ false
unrejected s f t buf store A = each_step (λ (o : Outcome). rejects o ≡ false) s t buf f store (record {
  refused = λ k. refl;
  logon = λ P st y c. tame t s (waiting s (body_in f) t) buf (logon_tame s (body_in f) t);
  move = λ P st. tame t s (active s (body_in f) t) buf (move_tame s (body_in f) A t);
})
