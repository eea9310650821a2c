-- A report's body, its length and its frame: 8, 12, 9, or the report at the front of the buffer and in the store.
-- Assumes nothing.
use Prim.Native.Nat.{ℕ, ◌+◌, ◌≤◌, ◌<◌}
use native.Mathlib.Nat.{zero-add}
use native.Mathlib.Omega.{arith}
use mathlib.Core.Path.{◌≡◌, refl, sym, ap, ap₂, ◌∙◌, subst}
use mathlib.Core.Bool.{Bool, true, false, false≢true}
use Rattle.std.specs.Prelude.{Option, Some, None, Ok, Err}
use mathlib.Core.List.{[], ◌∷◌, ◌++◌, append-nil}
use lib.ListN.{length, take, drop}
use lib.Seq.{length-sets, length-take-le}
use borrow.Author.Tests.{lt-ltb, le-ltb}
use Rattle.octets.specs.Bytes.{Bytes, decimal}
use Rattle.frame.specs.Stream.{joined}
use Rattle.calendar.specs.Time.{utc}
use Rattle.places.specs.Places.{put_at}
use Rattle.store.specs.Store as Store
use Rattle.store.specs.Store.{kept, keep}
use Rattle.message.specs.Message.{row, framed}
use Rattle.message.specs.Unfit.{comp_id}
use Rattle.message.specs.Wrote.{Wrote}
use Rattle.message.proofs.Writes.{more, front_of, spliced}
use Rattle.message.proofs.Frames.{framed-length}
use Rattle.report.specs.Values.{Values, own, takes}
use Rattle.report.specs.Report.{fields_of, sent}
use Rattle.report.specs.code.Puts.{PutOwn}
use Rattle.moves.specs.Words.{first}
use Rattle.moves.specs.Session.{Session, numbering, sent_at, in_range}
use Rattle.moves.specs.Held.{session_of, with}
use Rattle.moves.specs.code.Plan.{Ready}
use Rattle.moves.proofs.Ranges.{held_is}
use Rattle.moves.specs.declared.record.Record.{Record}
use Rattle.session.specs.Calls.{over}
use Rattle.session.specs.Held.{Leaves}
use Rattle.session.specs.declared.Answered.{Answered}
use Rattle.session.specs.Answer.{Done}
use Rattle.session.proofs.Stepping.{ranged_is}
use Rattle.session.specs.declared.Refusal.TheVariants.{BadValue, NoRoom, ReportTooLong}
use Rattle.reporting.specs.Call.{message, unless, kept_unless}
use Rattle.reporting.specs.code.Sending.{of_values, head_of, PutBody, answered_as}

-- a header is not empty
pub head_some : (us them : Bytes) (n : ℕ) (stamp : Bytes) → 1 ≤ length (row (head_of us them n stamp))
unfolding decimal
head_some us them n stamp = omega arith

-- THE BODY: the fields in front of the report's own, and those behind them
pub body_put : (s : Session) (v : Values) (t : ℕ) {d d₁ d₂ : Bytes} {at : ℕ} {us them stamp : Bytes} → us ≡ s.ours → them ≡ s.peers → stamp ≡ utc t → 1 ≤ at
    → Wrote d d₁ 0 at (row (head_of us them s.next stamp)) → (end : Option ℕ) → PutOwn v d₁ d₂ at end → PutBody s v t d d₂ end
body_put s v t a b c l h None P = record { writes = λ k. absurd (false≢true (sym P ∙ k)); refuses = λ k. refl }
body_put s v t {us = us} {them = them} {stamp = stamp} a b c l h (Some to) P =
    record {
      writes = λ k. (to, refl, P.2, rw (← a, ← b, ← c) (more (head_of us them s.next stamp) (own v) h P.1));
      refuses = λ k. absurd (false≢true (sym k ∙ P.0));
    }

-- what was put: the values are fit, and the body ends there
pub record Put (s : Session) (v : Values) (t k : ℕ) (d d' : Bytes) : Type 0 where
  pub taken : takes v ≡ true
  pub room : k ≤ 768
  pub wrote : Wrote d d' 0 k (row (fields_of s.ours s.peers (record { values = v; number = s.next; time = t })))

pub put_is : {s : Session} {v : Values} {t k : ℕ} {d d' : Bytes} → PutBody s v t d d' (Some k) → Put s v t k d d'
put_is {s = s} {v = v} {t = t} {k = k} {d = d} {d' = d'} P = go (takes v) refl
  where
    go : (b : Bool) → takes v ≡ b → Put s v t k d d'
    go true e =
        let w = P.writes e in
        let q : w.0 ≡ k = cc w.1 in
        subst (λ (n : ℕ). Put s v t n d d') q (record { taken = e; room = w.2; wrote = w.3 })
    go false e = let z : ◌≡◌ {A = Option ℕ} (Some k) None = P.refuses e in absurd (cc)

-- the frame around the first k bytes of a body has its room
pub frame-room : {k len n room : ℕ} → n ≡ k → k ≤ 768 → len ≡ k + length (decimal k) + 21 → len ≤ room → (n ≤ 2048) × (0 + n + length (decimal n) + 21 ≤ room)
frame-room e l f h = rw e (omega arith, omega arith)

-- and what stands there is as long as was asked for: it goes into a place
pub record Framed (len to : ℕ) (new : Bytes) : Type 0 where
  pub end : to ≡ len
  pub within : to ≤ length new
  pub long : length (take to new) ≡ to

pub frame_end : {k len to : ℕ} {old new : Bytes} (body : Bytes) → length body ≡ k → len ≡ k + length (decimal k) + 21 → len ≤ length old → Wrote old new 0 to (framed body) → Framed len to new
frame_end {to = to} {old = old} {new = new} body e f h w =
    let x = w.next in
    let y = framed-length body in
    let z = f ∙ ap (λ (j : ℕ). j + length (decimal j) + 21) (sym e) in
    let l = ap length w.bytes ∙ length-sets old 0 (framed body) in
    let within : to ≤ length new = omega (arith, x, y, z, l, h) in
    record { end = omega (arith, x, y, z); within = within; long = length-take-le to new within }

-- THE PLACE IN THE STORE: the CompIDs of a record in its ranges, and the store with a report in the place that a new one takes
pub our_ids : (r : Record) → Ready r → in_range (session_of r) ≡ true → (comp_id (take r.oursLen r.ours) ≡ true) × (comp_id (take r.peerLen r.peer) ≡ true)
our_ids r P e =
    let R = ranged_is (session_of r) e in (
      subst (λ (c : Bytes). comp_id c ≡ true) (held_is r.oursLen r.ours P.ours) R.ours,
      subst (λ (c : Bytes). comp_id c ≡ true) (held_is r.peerLen r.peer P.peer) R.peers,
    )

pub kept_at : (r : Record) → Ready r → (m store : Bytes) {i : ℕ} {store' : Bytes} → i ≡ Store.takes (kept (take r.oursLen r.ours) (take r.peerLen r.peer) store) → store' ≡ put_at i m store
    → store' ≡ put_at (Store.takes (kept (session_of r).ours (session_of r).peers store)) m store
kept_at r P m store e w =
    w
    ∙ ap (λ (j : ℕ). put_at j m store)
    (e ∙ ap₂ (λ (us them : Bytes). Store.takes (kept us them store)) (sym (held_is r.oursLen r.ours P.ours)) (sym (held_is r.peerLen r.peer P.peer)))

-- WHAT THE VALUES COME TO
module _ (r : Record) (v : Values) (t : ℕ) (old store : Bytes) where
  abbrev s : Session
  s = session_of r

  abbrev m : Bytes
  m = message s v t

  -- what is left: the answer, the buffer and the store
  abbrev Left : Answered → Bytes → Bytes → Type 0
  Left a new store' = Leaves r (unless s v t (first (of_values s v t (length old))) old) a new × (store' ≡ kept_unless s v t (first (of_values s v t (length old))) store)

  -- 8
  pub send_8 : {d d' : Bytes} → PutBody s v t d d' None → Left (answered_as r t (Err BadValue)) old store
  unfolding of_values
  send_8 P = go (takes v) refl
    where
      go : (b : Bool) → takes v ≡ b → Left (answered_as r t (Err BadValue)) old store
      go true e = let w = P.writes e in let z : ◌≡◌ {A = Option ℕ} None (Some w.0) = w.1 in absurd (cc)
      go false e = rw e (record { answered = refl; buffer = refl }, refl)

  -- the body that was put, and the length of its frame
  module _ {k : ℕ} {d d' : Bytes} (P : Put s v t k d d') (long : length d ≡ 768) where
    body : take k d' ≡ row (fields_of s.ours s.peers (record { values = v; number = s.next; time = t }))
    body = front_of P.wrote (omega (arith, P.room))

    message_is : framed (take k d') ≡ m
    unfolding message sent
    message_is = ap framed body

    long_as : length (take k d') ≡ k
    long_as = ap length body ∙ omega (arith, P.wrote.next)

    framed_as : k + length (decimal k) + 21 ≡ length m
    framed_as = ap (λ (j : ℕ). j + length (decimal j) + 21) (sym long_as) ∙ sym (framed-length (take k d')) ∙ ap length message_is

    -- 12
    module _ {len : ℕ} (f : len ≡ k + length (decimal k) + 21) where
      same : len ≡ length m
      same = f ∙ framed_as

      pub send_12 : 512 < len → Left (answered_as r t (Err ReportTooLong)) old store
      unfolding of_values
      send_12 h = rw (P.taken, lt-ltb 512 (length m) (omega (arith, same, h))) (record { answered = refl; buffer = refl }, refl)

      -- 9
      module _ (short : len ≤ 512) where
        pub send_9 : length old < len → Left (answered_as r t (Err NoRoom)) old store
        unfolding of_values
        send_9 h = rw (P.taken, le-ltb 512 (length m) (omega (arith, same, short)), lt-ltb (length old) (length m) (omega (arith, same, h))) (record { answered = refl; buffer = refl }, refl)

        -- the report
        alone : joined (m ∷ []) ≡ m
        alone = append-nil m

        pub send_done : {to : ℕ} {new store' : Bytes} → len ≤ length old → Wrote old new 0 to (framed (take k d'))
            → store' ≡ put_at (Store.takes (kept s.ours s.peers store)) (take to new) store
            → Left (answered_as r t (Ok to)) new store'
        unfolding of_values keep message
        send_done {to} {new} h w p =
            let u : Wrote old new 0 to m = subst (Wrote old new 0 to) message_is w in
            let room : length m ≤ length old = omega (arith, same, h) in
            let e : to ≡ length (joined (m ∷ [])) = omega (arith, u.next, ap length alone) in
            let b : new ≡ over (m ∷ []) old = spliced u (omega (arith, room)) ∙ ap (λ (i : ℕ). m ++ drop i old) (zero-add (length m)) ∙ ap (λ (x : Bytes). x ++ drop (length x) old) (sym alone) in
            rw (P.taken, le-ltb 512 (length m) (omega (arith, same, short)), le-ltb (length old) (length m) room) (
              record { answered = ap (λ (i : ℕ). record { answer = Done; after = with r (sent_at t (numbering (r.next + 1) s)); len = i }) e; buffer = b },
              p ∙ ap (λ (x : Bytes). put_at (Store.takes (kept s.ours s.peers store)) x store) (front_of u (omega (arith, u.next, room))),
            )
