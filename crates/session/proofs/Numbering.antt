-- The numbers out: a call's messages carry the next ones, each once. Only a logon with 141=Y that is accepted begins them anew.
-- Assumes nothing.
use Prim.Native.Nat.{ℕ, ◌+◌, ◌<◌}
use native.Mathlib.Omega.{arith}
use mathlib.Core.Path.{◌≡◌, refl, sym, ap, ◌∙◌, subst}
use mathlib.Core.Bool.{Bool, true, false, cond, ◌&&◌, false≢true}
use mathlib.Core.List.{[], ◌∷◌, ◌++◌}
use lib.Dec.{eqb}
use lib.ListN.{length}
use Rattle.octets.specs.Bytes.{Bytes, fix, Byted}
use Rattle.places.specs.Places.{is_store}
use Rattle.fields.specs.Field.{first_field}
use Rattle.calendar.specs.Time.{limit}
use Rattle.message.specs.Message.{absent, bytes}
use Rattle.message.specs.Whole.{good, body_in}
use Rattle.gap.specs.Gap.{no_gap}
use Rattle.moves.specs.Session.{◌equals◌, Session, in_range}
use Rattle.moves.specs.Seen.{is_it}
use Rattle.moves.specs.Moves.{Heartbeat, Deed, Write, Start, Count, FillTo, ResetTo, Anew, HeartbeatBecomes, Becomes, GapBecomes, Deliver, Deeds, N, reject, reject_type, counted, logout, asking, served, logon, waiting, stranger, in_turn, active}
use Rattle.moves.specs.declared.record.Status.{Status}
use Rattle.moves.specs.declared.record.Status.TheVariants.{Waiting, Active, Closed}
use Rattle.moves.proofs.EachRule.{each_logon, each_serving, each_reset, each_high, each_low, each_gap, each_turn, each_rule}
use Rattle.session.specs.Calls.{Outcome, after_deed, after_all, messages, making, refusing, settling, step, renewed, store_by, store_after, Call, Step, Tick, OurLogout, OurTestRequest, Reconnect, call}
use Rattle.session.specs.Replays.{Stored}
use Rattle.session.specs.Promise.{Headed, OfBytes, first_out, time_of}
use Rattle.session.specs.code.Fit.{AllFit}
use Rattle.session.specs.declared.Refusal.{Refusal}
use Rattle.session.specs.declared.Refusal.TheVariants.{BadRecord}
use Rattle.session.proofs.Fitting.{beat_fit}
use Rattle.session.proofs.Stepping.{Passed, ranged_is, ample_by}
use Rattle.session.proofs.EachCall.{each_refusal, each_step, each_tick, each_logout, each_test, each_reconnect, logon_fit, move_fit}
use Rattle.session.proofs.Venue.{farewell, farewell_fit, asked, asked_fit}
use Rattle.session.proofs.Whole.{Sends, next_sent, step_keeps}
use Rattle.session.proofs.Storing.{awake_old, refused_old, refusal_stays, after_as}

-- DEEDS of which none begins the numbers anew
abbrev Plain : Deed → Type 0
Plain (Write l) = Unit {0}
Plain (Start p) = Unit {0}
Plain Count = Unit {0}
Plain (FillTo n) = Unit {0}
Plain (ResetTo n) = Unit {0}
Plain Anew = ⊥
Plain (HeartbeatBecomes n) = Unit {0}
Plain (Becomes st) = Unit {0}
Plain (GapBecomes g) = Unit {0}
Plain Deliver = Unit {0}

abbrev AllPlain : Deeds → Type 0
AllPlain [] = Unit {0}
AllPlain (d ∷ ds) = Plain d × AllPlain ds

plain_next : (t : ℕ) (s : Session) (ds : Deeds) → AllPlain ds → (after_all t s ds).next ≡ s.next + length (messages t s ds)
plain_next t s [] p = omega arith
plain_next t s (Write l ∷ ds) p = let k = plain_next t (after_deed t s (Write l)) ds p.1 in omega (arith, k)
plain_next t s (Start q ∷ ds) p = plain_next t (after_deed t s (Start q)) ds p.1
plain_next t s (Count ∷ ds) p = plain_next t (after_deed t s Count) ds p.1
plain_next t s (FillTo n ∷ ds) p = plain_next t (after_deed t s (FillTo n)) ds p.1
plain_next t s (ResetTo n ∷ ds) p = plain_next t (after_deed t s (ResetTo n)) ds p.1
plain_next t s (Anew ∷ ds) p = absurd p.0
plain_next t s (HeartbeatBecomes n ∷ ds) p = plain_next t (after_deed t s (HeartbeatBecomes n)) ds p.1
plain_next t s (Becomes st ∷ ds) p = plain_next t (after_deed t s (Becomes st)) ds p.1
plain_next t s (GapBecomes g ∷ ds) p = plain_next t (after_deed t s (GapBecomes g)) ds p.1
plain_next t s (Deliver ∷ ds) p = plain_next t s ds p.1

plain-headed : (t : ℕ) (s : Session) (ds : Deeds) → Sends t s.ours s.peers → AllFit t s ds → AllPlain ds → Headed s.ours s.peers t s.next (messages t s ds)
plain-headed t s [] S f p = tt
plain-headed t s (Write l ∷ ds) S f p = ((next_sent t s l S f.0).head, plain-headed t (after_deed t s (Write l)) ds S f.1 p.1)
plain-headed t s (Start q ∷ ds) S f p = plain-headed t (after_deed t s (Start q)) ds S f.1 p.1
plain-headed t s (Count ∷ ds) S f p = plain-headed t (after_deed t s Count) ds S f.1 p.1
plain-headed t s (FillTo n ∷ ds) S f p = plain-headed t (after_deed t s (FillTo n)) ds S f.1 p.1
plain-headed t s (ResetTo n ∷ ds) S f p = plain-headed t (after_deed t s (ResetTo n)) ds S f.1 p.1
plain-headed t s (Anew ∷ ds) S f p = absurd p.0
plain-headed t s (HeartbeatBecomes n ∷ ds) S f p = plain-headed t (after_deed t s (HeartbeatBecomes n)) ds S f.1 p.1
plain-headed t s (Becomes st ∷ ds) S f p = plain-headed t (after_deed t s (Becomes st)) ds S f.1 p.1
plain-headed t s (GapBecomes g ∷ ds) S f p = plain-headed t (after_deed t s (GapBecomes g)) ds S f.1 p.1
plain-headed t s (Deliver ∷ ds) S f p = plain-headed t s ds S f.1 p.1

-- NO MOVE of an Active session does
module _ (s : Session) (body : Bytes) where
  stranger_plain : (tag : ℕ) → AllPlain (stranger s body tag)
  unfolding reject
  stranger_plain tag = go (eqb (N s body) s.E)
    where
      go : (b : Bool) → AllPlain (cond b (counted s body (reject s body 9 tag ++ logout s body 101)) (reject s body 9 tag ++ logout s body 101))
      go true = (tt, (tt, (tt, (tt, tt))))
      go false = (tt, (tt, (tt, tt)))

  turn_plain : AllPlain (in_turn s body)
  unfolding reject reject_type served
  turn_plain = each_turn AllPlain s body (record {
    report = λ y. (tt, (tt, tt));
    finding = λ c. (tt, (tt, tt));
    test = λ c y. (tt, (tt, tt));
    resend = λ c y. each_serving (λ (ds : Deeds). AllPlain (counted s body ds)) s body (tt, (tt, tt)) (tt, (tt, tt)) (λ u. (tt, (tt, tt)));
    gap = λ y. each_gap AllPlain s body (λ l. (tt, (tt, tt))) (λ l. (tt, tt));
    logout = λ y. (tt, (tt, (tt, tt)));
    logon = λ y. (tt, (tt, tt));
    application = λ c y. (tt, (tt, tt));
    other = (tt, tt);
  })

  active_plain : (t : ℕ) → AllPlain (active s body t)
  unfolding reject served
  active_plain t = each_rule AllPlain s body t (record {
    one = λ r. (tt, (tt, tt));
    two = λ r h tag l. stranger_plain tag;
    three = λ r p b. each_reset AllPlain s body (λ c. (tt, tt)) (λ c l. (tt, tt)) (λ c l. (tt, (tt, tt)));
    four = λ r p b h. each_high AllPlain s body t (record { served_asks = λ c y u a. (tt, (tt, (tt, tt))); served_seen = λ c y u a. (tt, (tt, tt)); only_asks = λ a. (tt, (tt, tt)); only_seen = λ a. (tt, tt) });
    five = λ r p b l. each_low AllPlain s body (tt, (tt, tt)) (λ reason tag i j. (tt, tt)) tt;
    six = λ r p b e. turn_plain;
  })

-- A STEP: a refusal, the answer to a logon that begins them anew, or deeds of which none does; and whether it is renewed
record EachNumbering (Q : Bool → Outcome → Type 0) (s : Session) (f : Bytes) (t : ℕ) (buf store : Bytes) : Type 0 where
  refused : (k : Refusal) → Q false (refusing k s buf)
  anew : Passed s (is_store store) (good f) t (length buf) → N s (body_in f) ≡ 1 → (Byted f → AllFit t s (Anew ∷ logon s (body_in f) (bytes (fix "Y")))) → Q true (settling (making t s (Anew ∷ logon s (body_in f) (bytes (fix "Y"))) buf))
  plain : Passed s (is_store store) (good f) t (length buf) → (ds : Deeds) → AllPlain ds → (Byted f → AllFit t s ds) → Q false (settling (making t s ds buf))

module _ (Q : Bool → Outcome → Type 0) (s : Session) (f : Bytes) (t : ℕ) (buf store : Bytes) (R : EachNumbering Q s f t buf store) where
  abbrev body : Bytes
  body = body_in f

  abbrev Told : Outcome → Type 0
  Told o = Q (renewed s body o) o

  told_as : {b : Bool} (o : Outcome) → renewed s body o ≡ b → Q b o → Told o
  told_as o e h = subst (λ (b : Bool). Q b o) (sym e) h

  -- a logon that is answered, by the status behind it and by its 141
  logon_told : Passed s (is_store store) (good f) t (length buf) → s.status ≡ Waiting → (Byted f → AllFit t s (waiting s body t)) → Told (settling (making t s (waiting s body t) buf))
  unfolding logon
  logon_told P st = each_logon (λ (ds : Deeds). (Byted f → AllFit t s ds) → Told (settling (making t s ds buf))) s body t (record {
    anew = λ y e F. told_as (settling (making t s (Anew ∷ logon s body (bytes (fix "Y"))) buf)) (accepted y) (R.anew P e F);
    logged_out = λ F. told_as (settling (making t s (logout s body 101) buf)) closed (R.plain P (logout s body 101) (tt, (tt, tt)) F);
    in_turn = λ y e F. told_as (settling (making t s (counted s body (logon s body absent)) buf)) (accepted y) (R.plain P (counted s body (logon s body absent)) (tt, (tt, (tt, (tt, (tt, tt))))) F);
    high = λ y l F. told_as (settling (making t s (logon s body absent ++ asking s body t no_gap) buf)) (accepted y) (R.plain P (logon s body absent ++ asking s body t no_gap) (tt, (tt, (tt, (tt, (tt, (tt, tt)))))) F);
  })
    where
      accepted : {b : Bool} → is_it (fix "Y") (first_field 141 body) ≡ b → ((s.status equals Waiting) && (Active equals Active) && is_it (fix "Y") (first_field 141 body)) ≡ b
      accepted y = ap (λ (x : Status). (x equals Waiting) && (Active equals Active) && is_it (fix "Y") (first_field 141 body)) st ∙ y

      closed : ((s.status equals Waiting) && (Closed equals Active) && is_it (fix "Y") (first_field 141 body)) ≡ false
      closed = ap (λ (x : Status). (x equals Waiting) && (Closed equals Active) && is_it (fix "Y") (first_field 141 body)) st

  each_numbering : Told (step s f t buf store)
  each_numbering = each_step Told s t buf f store (record {
    refused = λ k. told_as (refusing k s buf) (refused_old k s body buf) (R.refused k);
    logon = λ P st y c. logon_told P st (λ B. logon_fit s f t B P st y c);
    move = λ P st. told_as (settling (making t s (active s body t) buf)) (awake_old s body (settling (making t s (active s body t) buf)) Active refl st) (R.plain P (active s body t) (active_plain s body t) (λ B. move_fit s f t B P st));
  })

-- EACH CALL
-- its messages carry the numbers from the first one out on
module _ (s : Session) (bo : Byted s.ours) (bp : Byted s.peers) where
  sends : {t : ℕ} → t < limit → in_range s ≡ true → Sends t s.ours s.peers
  sends l r = let R = ranged_is s r in record { timed = l; ours_right = R.ours; peers_right = R.peers; our_bytes = bo; peer_bytes = bp }

  step_heads : (f : Bytes) (t : ℕ) (buf store : Bytes) → Byted f → Headed s.ours s.peers t (first_out s (Step f t buf store)) (step s f t buf store).reply
  unfolding logon
  step_heads f t buf store B =
      each_numbering (λ (b : Bool) (o : Outcome). Headed s.ours s.peers t (cond b 1 s.next) o.reply) s f t buf store
      (record {
        refused = λ k. tt;
        anew = λ P e F. plain-headed t (after_deed t s Anew) (logon s (body_in f) (bytes (fix "Y"))) (sends P.timed P.ranged) (F B).1 (tt, (tt, (tt, (tt, tt))));
        plain = λ P ds p F. plain-headed t s ds (sends P.timed P.ranged) (F B) p;
      })

  pub heads : (c : Call) → OfBytes (c ∷ []) → Headed s.ours s.peers (time_of c) (first_out s c) (call s c).reply
  heads (Step f t buf store) B = step_heads f t buf store B.0
  heads (Tick t buf) B = each_tick (λ (o : Outcome). Headed s.ours s.peers t s.next o.reply) s t buf
      (record { refused = λ k. tt; nothing = tt; beat = λ r l u. plain-headed t s (Write (Heartbeat absent) ∷ []) (sends l r) (beat_fit t s (ample_by s r u)) (tt, tt) })
  heads (OurLogout t buf) B = each_logout (λ (o : Outcome). Headed s.ours s.peers t s.next o.reply) s t buf (λ k. tt)
      (λ S. plain-headed t s farewell (sends S.timed S.ranged) (farewell_fit t s (ample_by s S.ranged S.unspent)) (tt, (tt, tt)))
  heads (OurTestRequest id t buf) B = each_test (λ (o : Outcome). Headed s.ours s.peers t s.next o.reply) s t buf id (λ k. tt)
      (λ S e. plain-headed t s (asked id) (sends S.timed S.ranged) (asked_fit t s id (ample_by s S.ranged S.unspent) e B.0) (tt, tt))
  heads Reconnect B = each_reconnect (λ (o : Outcome). Headed s.ours s.peers 0 s.next o.reply) s tt tt

-- and the one behind them is the next out
module _ (s : Session) where
  refused_next : (k : Refusal) (buf : Bytes) → (refusing k s buf).session.next ≡ s.next + 0
  refused_next k buf = each_refusal (λ (u : Session). u.next ≡ s.next + 0) k s (omega arith) (omega arith)

  pub next_out : (c : Call) → (call s c).session.next ≡ first_out s c + length (call s c).reply
  unfolding logon
  next_out (Step f t buf store) =
      each_numbering (λ (b : Bool) (o : Outcome). o.session.next ≡ cond b 1 s.next + length o.reply) s f t buf store
      (record {
        refused = λ k. refused_next k buf;
        anew = λ P e F. refl;
        plain = λ P ds p F. plain_next t s ds p;
      })
  next_out (Tick t buf) = each_tick (λ (o : Outcome). o.session.next ≡ s.next + length o.reply) s t buf
      (record { refused = λ k. refused_next k buf; nothing = omega arith; beat = λ r l u. omega arith })
  next_out (OurLogout t buf) = each_logout (λ (o : Outcome). o.session.next ≡ s.next + length o.reply) s t buf (λ k. refused_next k buf) (λ S. plain_next t s farewell (tt, (tt, tt)))
  next_out (OurTestRequest id t buf) = each_test (λ (o : Outcome). o.session.next ≡ s.next + length o.reply) s t buf id (λ k. refused_next k buf) (λ S e. plain_next t s (asked id) (tt, tt))
  next_out Reconnect = each_reconnect (λ (o : Outcome). o.session.next ≡ s.next + length o.reply) s (refused_next BadRecord []) (omega arith)

-- THE STORE behind a step
module _ (s : Session) (f : Bytes) (t : ℕ) (buf store : Bytes) where
  anew : renewed s (body_in f) (step s f t buf store) ≡ true → (N s (body_in f) ≡ 1) × ((step s f t buf store).session.E ≡ 2) × ((step s f t buf store).session.next ≡ 2)
  unfolding logon
  anew =
      each_numbering (λ (b : Bool) (o : Outcome). b ≡ true → (N s (body_in f) ≡ 1) × (o.session.E ≡ 2) × (o.session.next ≡ 2)) s f t buf store
      (record {
        refused = λ k e. absurd (false≢true e);
        anew = λ P n F e. (n, refl, refl);
        plain = λ P ds p F e. absurd (false≢true e);
      })

  pub stores : Stored s f t buf store
  unfolding store_after store_by
  stores = record {
    zeroes = λ e. rw e;
    anew = anew;
    stays = λ e. rw e;
    refused = λ k e. sym (after_as s f t buf store refl refl (refusal_stays s (body_in f) buf store ((step_keeps s t buf f store).refused k e)));
  }
