-- An open gap is around E behind every call: it was asked for at E or before, and its highest number is E or above.
-- Assumes nothing.
use Rattle.std.specs.Prelude.{if◌then◌else◌}
use Prim.Native.Nat.{ℕ, ◌+◌, ◌≤◌}
use native.Mathlib.Omega.{arith}
use mathlib.Core.Path.{◌≡◌, refl, sym, subst}
use mathlib.Core.Bool.{Bool, true, false, cond, ◌&&◌, false≢true}
use mathlib.Core.List.{List, [], ◌∷◌, ◌++◌}
use lib.Dec.{eqb, ltb}
use borrow.Author.Tests.{ltb-false}
use Rattle.octets.specs.Bytes.{Bytes}
use Rattle.fields.specs.Field.{first_field}
use Rattle.message.specs.Whole.{body_in}
use Rattle.message.specs.Unfit.{comp_id}
use Rattle.gap.specs.Gap.{Gap, no_gap, opened, unless_past}
use Rattle.moves.specs.Words.{◌otherwise◌}
use Rattle.moves.specs.Session.{Session, turned, fresh}
use Rattle.moves.specs.Seen.{repeated}
use Rattle.moves.specs.Moves.{Deeds, Heartbeat, Write, Count, Deliver, N, reject, reject_type, rejection, logout, counted, unserved, served, logon, waiting, stranger, in_turn, active}
use Rattle.moves.specs.declared.record.Status.TheVariants.{Closed}
use Rattle.moves.proofs.EachRule.{each_logon, each_serving, each_reset, each_high, each_low, each_gap, each_turn, each_rule}
use Rattle.session.specs.Calls.{Outcome, keeping, settled, after_deed, after_all, step, new, Step, Tick, OurLogout, OurTestRequest, Reconnect}
use Rattle.session.specs.Answer.{Done, Refused}
use Rattle.session.specs.declared.Refusal.TheVariants.{BadRecord}
use Rattle.session.proofs.EachCall.{each_refusal, each_step}
use Rattle.replaying.specs.Run.{Turn, Ours, OurReport, OurReplay, turn, run}
use Rattle.requests.specs.Requests.{Rests, Around, AllAround}
use Rattle.requests.proofs.Resting.{tick_rests, logout_rests, test_rests, reconnect_rests, report_rests, replay_rests}

-- BEHIND THE LOOK AT THE GAP nothing but its first half is to be shown
abbrev Before : ℕ → Gap → Type 0
Before E g = opened g ≡ true → g.for ≤ E

record AroundGap (E : ℕ) (g : Gap) : Type 0 where
  asked_before : Before E g
  not_past : opened g ≡ true → E ≤ g.highest

none_around : (E : ℕ) → AroundGap E no_gap
none_around E = record { asked_before = λ o. absurd (false≢true o); not_past = λ o. absurd (false≢true o) }

looked_at : (E : ℕ) (g : Gap) → Before E g → AroundGap E (unless_past E g)
unfolding unless_past
looked_at E g h = go (ltb g.highest E) refl
  where
    go : (b : Bool) → ltb g.highest E ≡ b → AroundGap E (cond b no_gap g)
    go true e = none_around E
    go false e = record { asked_before = h; not_past = λ o. ltb-false g.highest E e }

settled_around : (u : Session) → Before u.E u.gap → Around (settled u)
settled_around u h = let A = looked_at u.E u.gap h in record { asked_before = A.asked_before; not_past = A.not_past }

-- no gap, whatever E is
none_before : (E : ℕ) → Before E no_gap
none_before E o = absurd (false≢true o)

-- THE MOVES of a session that has it
module _ (t : ℕ) (s : Session) (body : Bytes) (B : Before s.E s.gap) where
  abbrev Leaves : Deeds → Type 0
  Leaves ds = Before (after_all t s ds).E (after_all t s ds).gap

  -- what is done, and then E + 1
  by_count : (ds : Deeds) → Leaves ds → Leaves (ds ++ (Count ∷ []))
  by_count = from s
    where
      from : (u : Session) (ds : Deeds) → Before (after_all t u ds).E (after_all t u ds).gap → Before (after_all t u (ds ++ (Count ∷ []))).E (after_all t u (ds ++ (Count ∷ []))).gap
      from u [] h o = let l = h o in omega (arith, l)
      from u (d ∷ ds) h o = from (after_deed t u d) ds h o

  logon_leaves : Leaves (waiting s body t)
  unfolding logon
  logon_leaves = each_logon Leaves s body t (record { anew = λ y e. none_before 2; logged_out = B; in_turn = λ y e. none_before (s.E + 1); high = λ y l o. omega arith })

  turn_leaves : N s body ≡ s.E → Leaves (in_turn s body)
  unfolding reject reject_type served
  turn_leaves n = each_turn Leaves s body (record {
    report = λ y. by_count (reject_type s body) B;
    finding = λ c. by_count (rejection s body) B;
    test = λ c y. by_count (Write (Heartbeat (repeated (first_field 112 body))) ∷ []) B;
    resend = λ c y. by_count (unserved s body otherwise served s body) (each_serving Leaves s body B B (λ u. B));
    gap = λ y. each_gap Leaves s body (λ l. by_count (reject s body 5 36) B) (λ l o. let h = B o in omega (arith, h, l, n));
    logout = λ y. by_count (logout s body 4) B;
    logon = λ y. by_count (reject s body 99 35) B;
    application = λ c y. by_count (Deliver ∷ []) B;
    other = by_count [] B;
  })

  stranger_leaves : (tag : ℕ) → Leaves (stranger s body tag)
  unfolding reject
  stranger_leaves tag = go (eqb (N s body) s.E)
    where
      go : (b : Bool) → Leaves (cond b (counted s body (reject s body 9 tag ++ logout s body 101)) (reject s body 9 tag ++ logout s body 101))
      go true = by_count (reject s body 9 tag ++ logout s body 101) B
      go false = B

  active_leaves : Leaves (active s body t)
  unfolding reject served
  active_leaves = each_rule Leaves s body t (record {
    one = λ r. B;
    two = λ r h tag l. stranger_leaves tag;
    three = λ r p b. each_reset Leaves s body (λ c. B) (λ c l. B) (λ c l. none_before _);
    four = λ r p b l. each_high Leaves s body t (record { served_asks = λ c y u a o. omega arith; served_seen = λ c y u a. B; only_asks = λ a o. omega arith; only_seen = λ a. B });
    five = λ r p b l. each_low Leaves s body B (λ reason tag i j. B) B;
    six = λ r p b e. turn_leaves e;
  })

-- EVERY CALL
step_around : (s : Session) (f : Bytes) (t : ℕ) (buf store : Bytes) → Around s → Around (step s f t buf store).session
step_around s f t buf store A = each_step (λ (o : Outcome). Around o.session) s t buf f store (record {
  refused = λ k. each_refusal Around k s A (record { asked_before = A.asked_before; not_past = A.not_past });
  logon = λ P st y c. settled_around _ (logon_leaves t s (body_in f) A.asked_before);
  move = λ P st. settled_around _ (active_leaves t s (body_in f) A.asked_before);
})

rests_around : (s : Session) (o : Outcome) → Around s → Rests s o → Around o.session
rests_around s o A R =
    let e = R.same_E in
    let G = subst (AroundGap s.E) (sym R.same_gap) (record { asked_before = A.asked_before; not_past = A.not_past }) in
    let H = subst (λ (n : ℕ). AroundGap n o.session.gap) (sym e) G in
    record { asked_before = H.asked_before; not_past = H.not_past }

turn_around : (s : Session) (c : Turn) → Around s → Around (turn s c).session
turn_around s (Ours (Step f t buf store)) A = step_around s f t buf store A
turn_around s (Ours (Tick t buf)) A = rests_around s _ A (tick_rests s t buf)
turn_around s (Ours (OurLogout t buf)) A = rests_around s _ A (logout_rests s t buf)
turn_around s (Ours (OurTestRequest id t buf)) A = rests_around s _ A (test_rests s id t buf)
turn_around s (Ours Reconnect) A = rests_around s _ A (reconnect_rests s)
turn_around s (OurReport v t buf store) A = rests_around s _ A (report_rests s v t buf store)
turn_around s (OurReplay t buf store) A = rests_around s _ A (replay_rests s t buf store)

pub around : (s : Session) (cs : List Turn) → Around s → AllAround (run s cs)
around s [] A = tt
around s (c ∷ cs) A = let B = turn_around s c A in (B, around (turn s c).session cs B)

-- A NEW SESSION has no gap
pub new_around : (us them : Bytes) → Around (new us them).session
unfolding new
new_around us them = go (comp_id us && comp_id them)
  where
    go : (b : Bool) → Around (if b then keeping Done (fresh us them) [] else keeping (Refused BadRecord) (turned Closed (fresh [] [])) []).session
    go true = record { asked_before = λ o. absurd (false≢true o); not_past = λ o. absurd (false≢true o) }
    go false = record { asked_before = λ o. absurd (false≢true o); not_past = λ o. absurd (false≢true o) }
