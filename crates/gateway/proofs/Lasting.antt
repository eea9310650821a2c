-- What a call on a record leaves, of every call of the border, by whether a record lies there.
-- Assumes nothing.
use Rattle.std.specs.Prelude.{if◌then◌else◌}
use Prim.Native.Nat.{ℕ, ◌-◌, ◌≤◌}
use mathlib.Core.Path.{◌≡◌, refl, sym, ap, ap₂, ◌∙◌, subst}
use mathlib.Core.List.{List, [], ◌∷◌}
use mathlib.Core.Bool.{Bool, true, false, cond, not, ◌&&◌}
use mathlib.Core.Option.{Option, none, some, some-injective, none-ne-some}
use native.Mathlib.Omega.{arith}
use borrow.Author.Tests.{le-leb}
use lib.Dec.{eqb}
use lib.ListN.{length, get_or, take, replicate, length-append, length-replicate}
use lib.Seq.{take-append_seam}
use Rattle.octets.specs.Bytes.{Bytes, Byted, has, within}
use Rattle.octets.proofs.Tests.{both}
use Rattle.octets.proofs.Numerals.{within_is}
use Rattle.gap.specs.Gap.{bounded}
use Rattle.moves.specs.Session.{Session, in_range, fresh, turned}
use Rattle.message.specs.Unfit.{comp_id}
use Rattle.session.specs.Refusals.{numbers}
use Rattle.moves.specs.Held.{held, session_of, with}
use Rattle.session.specs.Held.{padded, record_of}
use Rattle.session.specs.Calls.{Outcome, keeping, step, store_after, tick, logout, test_request, new, reconnect, Step, Tick, OurLogout, OurTestRequest, Reconnect}
use Rattle.session.specs.Promise.{Whole}
use Rattle.report.specs.Layout.{values_given}
use Rattle.report.specs.Values.{Values}
use Rattle.reporting.specs.Call.{report}
use Rattle.reporting.specs.Call as Told
use Rattle.replaying.specs.Call.{replay}
use Rattle.reporting.proofs.Promise as Reporting
use Rattle.moves.specs.declared.record.Record.{Record}
use Rattle.std.specs.Prelude.{Ok, Err}
use Rattle.session.specs.declared.Success.TheVariants as Success
use Rattle.session.specs.Answer.{Answer, Done, Refused}
use Rattle.session.specs.declared.Refusal.{Refusal}
use Rattle.session.specs.declared.Refusal.TheVariants.{BadRecord}
use Rattle.moves.specs.declared.record.Status.{Status}
use Rattle.moves.specs.declared.record.Status.TheVariants.{Closed}
use Rattle.session.proofs.Promise as Session
use Rattle.border.specs.Numbers.{refusal_of}
use Rattle.border.specs.Record.{saved, status_in, record_with, record_if, record_in}
use Rattle.gateway.specs.Calls.{Left, LeftWithStore, LeftByNew, left_by, reply_length, reply_from, step_from, step_out, tick_out, logout_out, test_request_out, report_from, report_out, replay_out, reconnect_from, reconnect_out, new_from, new_if, new_out}
use Rattle.gateway.specs.Promise.{Lies, Reconnected, Begun, Of, WholeReport, Replayed, OneMessage, Leaves, LeavesStore, out_length, Lasts}
use Rattle.gateway.proofs.Leaving.{left_lies, left_ranged, left-unread, left_call, left_report, report_one, left_replay, replay_one, replay_none, call_ranged}
use Rattle.border.proofs.Keeping.{new_loads}

-- a number other than 0 is that of a refusal
is_refused : (a : Answer) → (refusal_of (numbers a) ≡ 0 → ⊥) → (k : Refusal) × (a ≡ Refused k)
is_refused (Ok Success.Done) h = absurd (h refl)
is_refused (Ok Success.Delivered) h = absurd (h refl)
is_refused (Ok Success.NothingDue) h = absurd (h refl)
is_refused (Err k) h = (k, refl)

-- a new record
module _ (us them : Bytes) (a : comp_id us ≡ true) (b : comp_id them ≡ true) where
  short : (c : Bytes) → comp_id c ≡ true → length c ≤ 11
  unfolding comp_id
  short c k = (within_is 1 11 (length c) (both (within 1 11 (length c)) (not (has c 1)) k).0).1

  padded_long : (c : Bytes) → length c ≤ 11 → length (padded c) ≡ 11
  padded_long c h = let n = length-append c (replicate (11 - length c) 0) in let z = length-replicate {A = ℕ} (11 - length c) 0 in omega (arith, n, z)

  held_padded : (c : Bytes) → length c ≤ 11 → held (length c) (padded c) ≡ c
  held_padded c h = ap (λ (x : Bool). cond x (take (length c) (padded c)) []) (le-leb (length c) 11 h) ∙ take-append_seam c (replicate (11 - length c) 0)

  fresh_in : in_range (fresh us them) ≡ true
  unfolding in_range bounded
  fresh_in = rw (a, b)

  begun : Begun us them (new_from (keeping Done (fresh us them) []))
  begun =
      let r = record_of (fresh us them) in
      let l = new_loads r (padded_long us (short us a)) (padded_long them (short them b)) in
      let e : session_of r ≡ fresh us them = ap₂ fresh (held_padded us (short us a)) (held_padded them (short them b)) in
      record { carried = record { its_record = r; lies = l; is = e }; ranged = record { its_record = r; lies = l; ranged = ap in_range e ∙ fresh_in } }

new_lasts : (ids : Bytes) (words : List ℕ) (us them : Bytes) → (let o = new_out ids words us them in o.number ≡ 0 → Begun us them o)
unfolding new_out new
new_lasts ids words us them = go (eqb (length words) 24)
  where
    by : (x y : Bool) → comp_id us ≡ x → comp_id them ≡ y → (let o = new_from (if x && y then keeping Done (fresh us them) [] else keeping (Refused BadRecord) (turned Closed (fresh [] [])) []) in o.number ≡ 0 → Begun us them o)
    by true true p q h = begun us them p q
    by true false p q h = absurd (omega (arith, h))
    by false true p q h = absurd (omega (arith, h))
    by false false p q h = absurd (omega (arith, h))

    go : (l : Bool) → (let o = new_if ids words us them l in o.number ≡ 0 → Begun us them o)
    go true h = by (comp_id us) (comp_id them) refl refl h
    go false h = absurd (omega (arith, h))

reconnect_done : (s : Session) → in_range s ≡ true → refusal_of (numbers (reconnect s).answer) ≡ 0
unfolding reconnect
reconnect_done s e = rw e

reconnect_lasts : (ids : Bytes) (words : List ℕ) → Reconnected ids words (reconnect_out ids words)
unfolding reconnect_out
reconnect_lasts ids words = go (record_in ids words) refl
  where
    go : (x : Option Record) → record_in ids words ≡ x → Reconnected ids words (reconnect_from words x)
    go none e = record { carried = λ r l. absurd (none-ne-some r (sym e ∙ l)); ranged = λ R. absurd (none-ne-some R.its_record (sym e ∙ R.lies)) }
    go (some r) e =
        let K = (Session.promise).buffers (session_of r) Reconnect in
        record {
          carried = λ q l.
              subst (λ (x : Record). Lies ids (saved words (with r (reconnect (session_of r)).session)) (reconnect (session_of x)).session) (some-injective r q (sym e ∙ l))
              (left_lies ids words r e [] (reconnect (session_of r)) K);
          ranged = λ R.
              let same : R.its_record ≡ r = some-injective R.its_record r (sym R.lies ∙ e) in
              (reconnect_done (session_of r) (sym (ap (λ (x : Record). in_range (session_of x)) same) ∙ R.ranged), left_ranged ids words r e [] (reconnect (session_of r)) K (call_ranged ids words r e Reconnect tt) R);
        }

-- THE CALLS ON A RECORD, by whether one lies there
module _ (ids : Bytes) (words : List ℕ) where
  stepped : (f : Bytes) (t : ℕ) (buf store : Bytes) → Byted f → (x : Option Record) → record_in ids words ≡ x
      → let z = step_from words f t buf store x in LeavesStore (λ s. step s f t buf store) (λ s. store_after s f t buf store) Whole ids words buf store (out_length z.left.out) z
  stepped f t buf store B none e =
      record { leaves = left-unread _ Whole ids words buf (0 ∷ 0 ∷ []) e refl; stored = λ r l. absurd (none-ne-some r (sym e ∙ l)); refused = λ h. refl }
  stepped f t buf store B (some r) e =
      record {
        leaves = left_call ids words r e (Step f t buf store) (B, tt) (λ s. step s f t buf store) refl _ refl;
        stored = λ q l. ap (λ (x : Record). store_after (session_of x) f t buf store) (some-injective r q (sym e ∙ l));
        refused = λ h. let k = is_refused (step (session_of r) f t buf store).answer h in ((Session.promise).stores (session_of r) f t buf store).refused k.0 k.1;
      }

  module _ (values : List ℕ) (text : Bytes) (t : ℕ) (buf store : Bytes) where
    abbrev v : Values
    v = values_given values text

    reported : Byted text → (x : Option Record) → record_in ids words ≡ x
        → let z = report_from words values text t buf store x in LeavesStore (λ s. report s v t buf store) (λ s. Told.store_after s v t buf store) (λ m. Of x (WholeReport v t m)) ids words buf store (out_length z.left.out) z
    reported B none e =
        record { leaves = left-unread _ (λ m. ⊥) ids words buf (0 ∷ []) e refl; stored = λ r l. absurd (none-ne-some r (sym e ∙ l)); refused = λ h. refl }
    reported B (some r) e =
        record {
          leaves = left_report ids words r e values text t buf store B;
          stored = λ q l. ap (λ (x : Record). Told.store_after (session_of x) v t buf store) (some-injective r q (sym e ∙ l));
          refused = λ h. let k = is_refused (report (session_of r) v t buf store).answer h in ((Reporting.promise).stored (session_of r) v t buf store).refused k.0 k.1;
        }

    one_reported : Byted text → Byted ids → (x : Option Record) → record_in ids words ≡ x
        → let z = report_from words values text t buf store x in z.left.number ≡ 0 → OneMessage (λ m. Of x (WholeReport v t m)) buf (out_length z.left.out) z.left.buffer
    one_reported B Bi none e h = absurd (omega (arith, h))
    one_reported B Bi (some r) e h = report_one ids words r e values text t buf store B Bi h

  module _ (t : ℕ) (buf store : Bytes) where
    abbrev left_by_replay : Option Record → Left
    left_by_replay x = reply_from words buf (λ r. replay (session_of r) t buf store) x

    replayed : Byted store → (x : Option Record) → record_in ids words ≡ x
        → Leaves (λ s. replay s t buf store) (λ m. Of x (Replayed t store m)) ids words buf (out_length (left_by_replay x).out) (left_by_replay x)
    replayed B none e = left-unread _ (λ m. ⊥) ids words buf (0 ∷ []) e refl
    replayed B (some r) e = left_replay ids words r e t buf store B

    -- the seventh word is the place of the replay
    its_place : (r : Record) → record_in ids words ≡ some r → r.replay.at ≡ get_or words 6 0
    its_place r = go (status_in words)
      where
        go : (st : Option Status) → record_if ids words st ≡ some r → r.replay.at ≡ get_or words 6 0
        go none e = absurd (none-ne-some r e)
        go (some st) e = ap (λ (x : Record). x.replay.at) (sym (some-injective (record_with ids words st) r e))

    one_replayed : Byted store → Byted ids → (x : Option Record) → record_in ids words ≡ x → (left_by_replay x).number ≡ 0 → (get_or words 6 0 ≡ 0 → ⊥)
        → OneMessage (λ m. Of x (Replayed t store m)) buf (out_length (left_by_replay x).out) (left_by_replay x).buffer
    one_replayed B Bi none e h n = absurd (omega (arith, h))
    one_replayed B Bi (some r) e h n = replay_one ids words r e t buf store B Bi h (λ z. n (sym (its_place r e) ∙ z))

    none_replayed : (x : Option Record) → record_in ids words ≡ x → get_or words 6 0 ≡ 0 → out_length (left_by_replay x).out ≡ 0
    none_replayed none e n = refl
    none_replayed (some r) e n = replay_none ids words r e t buf store (its_place r e ∙ n)

  replying : (buf : Bytes) (by : Session → Outcome)
      → ((r : Record) → record_in ids words ≡ some r → Leaves by Whole ids words buf (reply_length (by (session_of r))) (left_by words r (by (session_of r)) (reply_length (by (session_of r)) ∷ [])))
      → (x : Option Record) → record_in ids words ≡ x → let z = reply_from words buf (λ r. by (session_of r)) x in Leaves by Whole ids words buf (out_length z.out) z
  replying buf by h none e = left-unread by Whole ids words buf (0 ∷ []) e refl
  replying buf by h (some r) e = h r e

pub lasts : Lasts
unfolding step_out tick_out logout_out test_request_out report_out replay_out
lasts =
    record {
      step = λ ids words f t buf store o B so.
          subst (λ (z : LeftWithStore). LeavesStore (λ s. step s f t buf store) (λ s. store_after s f t buf store) Whole ids words buf store (out_length z.left.out) z) (sym so) (stepped ids words f t buf store B (record_in ids words) refl);
      tick = λ ids words t buf o so.
          subst (λ (z : Left). Leaves (λ s. tick s t buf) Whole ids words buf (out_length z.out) z) (sym so) (replying ids words buf (λ s. tick s t buf) (λ r e. left_call ids words r e (Tick t buf) tt (λ s. tick s t buf) refl _ refl) (record_in ids words) refl);
      logout = λ ids words t buf o so.
          subst (λ (z : Left). Leaves (λ s. logout s t buf) Whole ids words buf (out_length z.out) z) (sym so) (replying ids words buf (λ s. logout s t buf) (λ r e. left_call ids words r e (OurLogout t buf) tt (λ s. logout s t buf) refl _ refl) (record_in ids words) refl);
      test_request = λ ids words id t buf o B so.
          subst (λ (z : Left). Leaves (λ s. test_request s id t buf) Whole ids words buf (out_length z.out) z) (sym so)
          (replying ids words buf (λ s. test_request s id t buf) (λ r e. left_call ids words r e (OurTestRequest id t buf) (B, tt) (λ s. test_request s id t buf) refl _ refl) (record_in ids words) refl);
      report = λ ids words values text t buf store o B so.
          let v = values_given values text in
          subst (λ (z : LeftWithStore). LeavesStore (λ s. report s v t buf store) (λ s. Told.store_after s v t buf store) (λ m. Of (record_in ids words) (WholeReport v t m)) ids words buf store (out_length z.left.out) z) (sym so) (reported ids words values text t buf store B (record_in ids words) refl);
      one_report = λ ids words values text t buf store o B so Bi h.
          let v = values_given values text in
          subst (λ (z : LeftWithStore). z.left.number ≡ 0 → OneMessage (λ m. Of (record_in ids words) (WholeReport v t m)) buf (out_length z.left.out) z.left.buffer) (sym so) (one_reported ids words values text t buf store B Bi (record_in ids words) refl) h;
      replay = λ ids words t buf store o B so.
          subst (λ (z : Left). Leaves (λ s. replay s t buf store) (λ m. Of (record_in ids words) (Replayed t store m)) ids words buf (out_length z.out) z) (sym so) (replayed ids words t buf store B (record_in ids words) refl);
      one_replayed = λ ids words t buf store o B so Bi h n.
          subst (λ (z : Left). z.number ≡ 0 → OneMessage (λ m. Of (record_in ids words) (Replayed t store m)) buf (out_length z.out) z.buffer) (sym so) (λ h. one_replayed ids words t buf store B Bi (record_in ids words) refl h n) h;
      none_replayed = λ ids words t buf store o so n. subst (λ (z : Left). out_length z.out ≡ 0) (sym so) (none_replayed ids words t buf store (record_in ids words) refl n);
      reconnect = λ ids words o so. subst (Reconnected ids words) (sym so) (reconnect_lasts ids words);
      new = λ ids words us them o so. subst (λ (z : LeftByNew). z.number ≡ 0 → Begun us them z) (sym so) (new_lasts ids words us them);
    }
