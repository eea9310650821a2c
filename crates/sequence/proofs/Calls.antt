-- Each call by itself: a step that is no reset, and the calls that are given no frame.
-- Assumes nothing.
use Rattle.std.specs.Prelude.{if◌then◌else◌}
use Prim.Native.Nat.{ℕ, ◌+◌, ◌<◌}
use native.Mathlib.Omega.{arith}
use mathlib.Core.Path.{◌≡◌, refl, sym, ap, ◌∙◌, subst}
use mathlib.Core.Bool.{Bool, true, false, ◌&&◌, false≢true}
use mathlib.Core.Logic.{inl, inr}
use mathlib.Core.List.{[], ◌∷◌}
use mathlib.Core.Option.{Option, none, some}
use lib.Dec.{eqb}
use lib.ListN.{length}
use borrow.Author.Tests.{ne_eqb}
use Rattle.octets.specs.Bytes.{Bytes, fix, decimal}
use Rattle.fields.specs.Field.{first_field}
use Rattle.places.specs.Places.{is_store}
use Rattle.message.specs.Whole.{good, body_in}
use Rattle.message.specs.Message.{absent, bytes, row}
use Rattle.message.proofs.Wholes.{body_back}
use Rattle.calendar.specs.Time.{utc}
use Rattle.report.specs.Values.{Values}
use Rattle.report.specs.Report.{fields_with, fields_of, sent, again}
use Rattle.store.specs.Plan.{Item, Again, Fill}
use Rattle.moves.specs.Words.{◌when◌, first, ◌otherwise◌}
use Rattle.moves.specs.Session.{Session}
use Rattle.moves.specs.Moves.{OurPeer, Heartbeat, GapFill, Write, #, N, bare, readable}
use Rattle.session.specs.Calls.{Outcome, refusing, Step, Tick, OurLogout, OurTestRequest, Reconnect, step}
use Rattle.session.specs.Delivery.{Deliverable}
use Rattle.session.specs.Sequence.{Made, refuses, delivers, is_reject, rejects, Share, nothing, counts, skips, filled_by, counted_by, share_of, delivered_by, body_of, by_body, resets, reset_by, share, delivered, Passes, Idle, Rejected}
use Rattle.std.specs.Prelude.{Ok, Err}
use Rattle.session.specs.declared.Success.TheVariants as Success
use Rattle.session.specs.Answer.{Answer, Delivered, Refused}
use Rattle.session.specs.declared.Refusal.{Refusal}
use Rattle.session.proofs.EachCall.{each_refusal, each_tick, each_logout, each_test, each_reconnect}
use Rattle.session.proofs.Delivered.{delivery}
use Rattle.session.proofs.Slips.{fails, slips}
use Rattle.session.proofs.Promise as Session
use Rattle.session.proofs.Venue.{farewell, asked}
use Rattle.reporting.specs.Call.{the_report, message, unless, report}
use Rattle.reporting.proofs.Promise.{each_report}
use Rattle.replaying.specs.Call.{its_item, replay}
use Rattle.replaying.specs.Call as Replaying
use Rattle.replaying.specs.Run.{Turn, Ours, OurReport, OurReplay, turn}
use Rattle.replaying.proofs.Ways.{each_replay}
use Rattle.replaying.proofs.Numbers.{turn_ours}
use Rattle.sequence.specs.Run.{given, made}
use Rattle.sequence.proofs.OneStep.{Covers, never, fills_is, Why, why_covers, delivered_share, step_why}
use Rattle.sequence.proofs.Rejected.{no_reject, tame, rejected-passed, Ahead, unrejected}
use Rattle.sequence.proofs.Runs.{Sound, Later, Calls}

some_is : {f g : Bytes} → some f ≡ some g → f ≡ g
some_is e = cc

-- E stays, nothing is delivered, and nothing rejected
record Rests (s : Session) (o : Outcome) : Type 0 where
  stays : o.session.E ≡ s.E
  undelivered : delivers o.answer ≡ false
  unrejecting : rejects o ≡ false

-- WITHOUT A BODY nothing else is to be shown
module _ (m : Made) (e : body_of m.frame ≡ none) (R : Rests m.met m.left) where
  no_share : share m ≡ nothing
  no_share = ap (λ (b : Option Bytes). by_body share_of nothing m.met b m.left) e

  none_delivered : delivered m ≡ []
  none_delivered = ap (λ (b : Option Bytes). by_body delivered_by [] m.met b m.left) e

  idle : Idle m
  idle = record { no_number = no_share; E_stays = R.stays; not_delivered = none_delivered }

  still : Sound m
  still = record {
    passes = record { moved_by = rw no_share (omega (arith, R.stays)); all_passed = λ n k l. absurd (omega (arith, k, l, R.stays)); no_other = λ n. rw no_share (λ b. absurd b) };
    counting = λ n d. let z : ◌≡◌ {A = ℕ} 0 1 = cc none_delivered in absurd (omega arith);
    quiet = record {
      refused = λ k r. idle;
      duplicate = λ D. idle;
      rejected = λ r. never R.unrejecting r;
      no_frame = λ q. (R.undelivered, R.unrejecting);
    };
  }

refused_rests : (s : Session) (k : Refusal) (buf : Bytes) → Rests s (refusing k s buf)
refused_rests s k buf = record { stays = each_refusal (λ (u : Session). u.E ≡ s.E) k s refl refl; undelivered = refl; unrejecting = refl }

still_rests : {s : Session} {o : Outcome} → o.session.E ≡ s.E → delivers o.answer ≡ false → rejects o ≡ false → Rests s o
still_rests e d r = record { stays = e; undelivered = d; unrejecting = r }

-- the calls that are given no frame
report_rests : (s : Session) (v : Values) (t : ℕ) (buf store : Bytes) → Rests s (report s v t buf store)
unfolding report message sent first_field decimal
report_rests s v t buf store =
    each_report (λ (o : Option Answer). Rests s (unless s v t o buf)) s v t (is_store store) (length buf) (λ k. refused_rests s k buf)
    (λ P. still_rests refl refl (rw (body_back (row (fields_of s.ours s.peers (the_report s v t))))))

-- a replay's message is a report again, or a gap fill
item_unrejecting : (s : Session) (t : ℕ) (i : Item) → is_reject (Replaying.message s t i) ≡ false
unfolding Replaying.message again first_field decimal
item_unrejecting s t (Again r) = rw (body_back (row (fields_with s.ours s.peers r.number (bytes (fix "Y")) t (bytes (utc r.time)) r.values)))
item_unrejecting s t (Fill b e) = no_reject s.ours s.peers b (utc t) (GapFill (e + 1)) tt

replay_rests : (s : Session) (t : ℕ) (buf store : Bytes) → Rests s (replay s t buf store)
replay_rests s t buf store = each_replay (Rests s) s t buf store (λ k e n. refused_rests s k buf) (λ r h. still_rests refl refl refl) (λ P. still_rests refl refl (rw (item_unrejecting s t (its_item s store))))

-- A STEP
covers_passes : (m : Made) → Covers m.met.E (share m) m.left.session.E → Passes m
covers_passes m C = go (share m) refl C
  where
    go : (x : Share) → share m ≡ x → Covers m.met.E x m.left.session.E → Passes m
    go nothing e c = record { moved_by = rw e (omega (arith, c)); all_passed = λ n k l. absurd (omega (arith, k, l, c)); no_other = λ n. rw e (λ b. absurd b) }
    go (counts n) e c = record { moved_by = rw e c.1; all_passed = λ i k l. rw e (omega (arith, k, l, c.0, c.1)); no_other = λ i. rw e (λ b. (omega (arith, b, c.0), omega (arith, b, c.0, c.1))) }
    go (skips n z) e c = record { moved_by = rw e (omega (arith, c.0, c.1, c.2)); all_passed = λ i k l. rw e (omega (arith, k, c.0), omega (arith, l, c.2)); no_other = λ i. rw e (λ b. (omega (arith, b.0, c.0), omega (arith, b.1, c.2))) }

delivers_is : (a : Answer) → delivers a ≡ true → a ≡ Delivered
delivers_is (Ok Success.Done) e = absurd (false≢true e)
delivers_is (Ok Success.Delivered) e = refl
delivers_is (Ok Success.NothingDue) e = absurd (false≢true e)
delivers_is (Err k) e = absurd (false≢true e)

module _ (s : Session) (f : Bytes) (t : ℕ) (buf store : Bytes) where
  abbrev body : Bytes
  body = body_in f

  abbrev result : Outcome
  result = step s f t buf store

  abbrev stepped : Made
  stepped = record { met = s; frame = some f; left = result }

  -- bytes that are not exactly one good frame
  bad_sound : good f ≡ false → Sound stepped
  bad_sound g = still stepped (rw g) (subst (Rests s) (sym ((slips s f t buf store).nothing_swallowed g)) (still_rests refl refl refl))

  -- a good frame
  module _ (g : good f ≡ true) where
    body_is : body_of (some f) ≡ some body
    body_is = rw g

    share_is : share stepped ≡ share_of s body result
    share_is = ap (λ (b : Option Bytes). by_body share_of nothing s b result) body_is

    -- it delivers its number, and then as Delivery says
    not_delivered : (result.answer ≡ Delivered → ⊥) → delivered stepped ≡ []
    not_delivered h = ap (λ (b : Option Bytes). by_body delivered_by [] s b result) body_is ∙ ap (λ (d : Bool). if d then N s body ∷ [] else []) (fails (delivers result.answer) (λ d. h (delivers_is _ d)))

    counting : (n : ℕ) → delivered stepped ≡ n ∷ [] → share stepped ≡ counts n
    counting n e = go (delivers result.answer) refl (sym (ap (λ (b : Option Bytes). by_body delivered_by [] s b result) body_is) ∙ e)
      where
        go : (d : Bool) → delivers result.answer ≡ d → (if d then N s body ∷ [] else []) ≡ n ∷ [] → share stepped ≡ counts n
        go true d h =
            let D = (delivery s f t buf store).delivered (delivers_is _ d) in
            let z : N s body ≡ n = cc in
            share_is ∙ delivered_share s body result D.1.application D.1.in_turn (ap (λ (o : Outcome). o.session.E) D.2) ∙ ap counts z
        go false d h = let z : ◌≡◌ {A = ℕ} 0 1 = cc in absurd (omega arith)

    -- no gap fill is accepted, and no frame in turn moved E by one
    no_number : (filled_by s body result ≡ true → ⊥) → counted_by s body result ≡ false → share stepped ≡ nothing
    unfolding share_of
    no_number a b = share_is ∙ rw (fails (filled_by s body result) a, b)

    -- "Refused steps .. contribute nothing"
    refused_idle : (k : Refusal) → result.answer ≡ Refused k → Idle stepped
    unfolding counted_by
    refused_idle k e =
        let o = ((Session.promise).buffers s (Step f t buf store)).refused k e in
        let z : result.session.E ≡ s.E = ap (λ (u : Outcome). u.session.E) o ∙ (refused_rests s k buf).stays in
        record {
          no_number = no_number (λ F. never (fills_is s body result F).unrefused (ap refuses e)) (rw (ne_eqb result.session.E (s.E + 1) (λ q. omega (arith, q, z))) (none_after (eqb (N s body) s.E)));
          E_stays = z;
          not_delivered = not_delivered (λ d. let x : ◌≡◌ {A = ℕ} 0 1 = cc in omega arith);
        }
      where
        none_after : (b : Bool) → (b && false) ≡ false
        none_after true = refl
        none_after false = refl

    -- ".. and duplicates"
    duplicate_idle : Covers s.E (share stepped) result.session.E → N s body < s.E → Idle stepped
    unfolding counted_by
    duplicate_idle C l =
        let x = no_number (λ F. let n = (fills_is s body result F).in_turn in omega arith) (rw (ne_eqb (N s body) s.E (λ e. omega arith))) in
        record {
          no_number = x;
          E_stays = subst (λ (y : Share). Covers s.E y result.session.E) x C;
          not_delivered = not_delivered (λ d. let n = ((delivery s f t buf store).delivered d).1.in_turn in omega arith);
        }

    -- what it rejects is not delivered, is no accepted gap fill, and its number is passed
    is_rejected : Why s body result → rejects result ≡ true → Rejected stepped
    unfolding share_of
    is_rejected W r =
        record {
          not_delivered = not_delivered (λ d. never (ap rejects ((delivery s f t buf store).delivered d).2) r);
          not_skipped = λ n e q. skipped W n e (sym share_is ∙ q);
          passed = λ b i p k. let z : body ≡ b = some_is (sym body_is ∙ i) in
              subst (λ (x : Bytes). N s x < result.session.E) z
              (rejected-passed s f t buf store (subst (OurPeer s) (sym z) p) (subst (λ (x : Bytes). bare s x ≡ false) (sym z) k) r);
        }
      where
        skipped : Why s body result → (n e : ℕ) → share_of s body result ≡ skips n e → ⊥
        skipped (inl F) n e q = never F.unrejected r
        skipped (inr P) n e q = go (counted_by s body result) (sym (ap (λ (x : Bool). first ((skips (N s body) (# s body 36) when x) ∷ (counts (N s body) when counted_by s body result) ∷ []) otherwise nothing) (fails (filled_by s body result) (λ h. P.not_filled (fills_is s body result h)))) ∙ q)
          where
            go : (x : Bool) → (first ((counts (N s body) when x) ∷ []) otherwise nothing) ≡ skips n e → ⊥
            go true h = let z : ◌≡◌ {A = ℕ} 0 1 = cc in omega arith
            go false h = let z : ◌≡◌ {A = ℕ} 0 1 = cc in omega arith

    good_sound : resets stepped ≡ false → Sound stepped
    good_sound R =
        let W = step_why s f t buf store (sym (ap (λ (b : Option Bytes). by_body reset_by false s b result) body_is) ∙ R) in
        let C = subst (λ (y : Share). Covers s.E y result.session.E) (sym share_is) (why_covers s body result W) in
        record {
          passes = covers_passes stepped C;
          counting = counting;
          quiet = record {
            refused = refused_idle;
            duplicate = λ D. duplicate_idle C (subst (λ (b : Option Bytes). Low b) (sym D.is_its ∙ body_is) D.low);
            rejected = is_rejected W;
            no_frame = λ q. let z : ◌≡◌ {A = ℕ} 0 1 = cc body_is in absurd (omega arith);
          };
        }
      where
        Low : Option Bytes → Type 0
        Low none = ⊥
        Low (some b) = N s b < s.E

  step_sound : resets stepped ≡ false → Sound stepped
  step_sound R = go (good f) refl
    where
      go : (g : Bool) → good f ≡ g → Sound stepped
      go true g = good_sound g R
      go false g = bad_sound g

-- EVERY CALL
sound : (s : Session) (c : Turn) → resets (made s c) ≡ false → Sound (made s c)
sound s (Ours (Step f t buf store)) R = step_sound s f t buf store R
sound s (Ours (Tick t buf)) R =
    still (made s (Ours (Tick t buf))) refl (each_tick (Rests s) s t buf (record { refused = λ k. refused_rests s k buf; nothing = still_rests refl refl refl; beat = λ r l u. still_rests refl refl (tame t s (Write (Heartbeat absent) ∷ []) buf (tt, tt)) }))
sound s (Ours (OurLogout t buf)) R = still (made s (Ours (OurLogout t buf))) refl (each_logout (Rests s) s t buf (λ k. refused_rests s k buf) (λ S. still_rests refl refl (tame t s farewell buf (tt, (tt, tt)))))
sound s (Ours (OurTestRequest id t buf)) R = still (made s (Ours (OurTestRequest id t buf))) refl (each_test (Rests s) s t buf id (λ k. refused_rests s k buf) (λ S e. still_rests refl refl (tame t s (asked id) buf (tt, tt))))
sound s (Ours Reconnect) R = still (made s (Ours Reconnect)) refl (each_reconnect (Rests s) s (still_rests refl refl refl) (still_rests refl refl refl))
sound s (OurReport v t buf store) R = still (made s (OurReport v t buf store)) refl (report_rests s v t buf store)
sound s (OurReplay t buf store) R = still (made s (OurReplay t buf store)) refl (replay_rests s t buf store)

leads_on : (s : Session) (c : Turn) → resets (made s c) ≡ false → Later s (turn s c).session
leads_on s c R = let o = turn_ours s c in record { higher = omega (arith, (sound s c R).passes.moved_by); same_ours = o.0; same_peers = o.1 }

-- WHAT IS REJECTED is not delivered later
none_is : {A : Type 0} {f : Bytes} → none ≡ some f → A
none_is e = let z : ◌≡◌ {A = ℕ} 0 1 = cc in absurd (omega arith)

-- what a later step delivers would not have been rejected before
still_ahead : (s s' : Session) (body : Bytes) → Later s s' → Deliverable s' body → Ahead s body
unfolding readable
still_ahead s s' body O D = record { numbered = D.numbered; not_low = omega (arith, O.higher, D.in_turn); peer = record { sender = D.peer.sender ∙ ap some O.same_peers; target = D.peer.target ∙ ap some O.same_ours }; no_verdict = D.no_verdict; application = D.application }

turn_unrejected : (s : Session) (c : Turn) (f : Bytes) → given c ≡ some f → Ahead s (body_in f) → rejects (turn s c) ≡ false
turn_unrejected s (Ours (Step f t buf store)) g e A = unrejected s f t buf store (subst (λ (x : Bytes). Ahead s (body_in x)) (sym (some_is e)) A)
turn_unrejected s (Ours (Tick t buf)) g e A = none_is e
turn_unrejected s (Ours (OurLogout t buf)) g e A = none_is e
turn_unrejected s (Ours (OurTestRequest id t buf)) g e A = none_is e
turn_unrejected s (Ours Reconnect) g e A = none_is e
turn_unrejected s (OurReport v t buf store) g e A = none_is e
turn_unrejected s (OurReplay t buf store) g e A = none_is e

not_later : (s s' : Session) (c c' : Turn) → Later s s' → given c' ≡ given c → rejects (turn s c) ≡ true → delivered (made s' c') ≡ []
not_later s s' c (Ours (Step f t buf store)) O e r = go (good f) refl
  where
    go : (g : Bool) → good f ≡ g → delivered (made s' (Ours (Step f t buf store))) ≡ []
    go true g = not_delivered s' f t buf store g (λ d. false≢true (sym (turn_unrejected s c f (sym e) (still_ahead s s' (body_in f) O ((delivery s' f t buf store).delivered d).1)) ∙ r))
    go false g = rw g
not_later s s' c (Ours (Tick t buf)) O e r = refl
not_later s s' c (Ours (OurLogout t buf)) O e r = refl
not_later s s' c (Ours (OurTestRequest id t buf)) O e r = refl
not_later s s' c (Ours Reconnect) O e r = refl
not_later s s' c (OurReport v t buf store) O e r = refl
not_later s s' c (OurReplay t buf store) O e r = refl

pub calls : Calls given turn
calls = record { sound = sound; leads_on = leads_on; not_later = not_later }
