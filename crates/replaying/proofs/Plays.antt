-- What the code of a running replay leaves: a kept report again or a gap fill, at the front of the buffer, and the place behind it.
-- Assumes nothing.
use Prim.Native.Nat.{ℕ, ◌+◌, ◌≤◌, ◌<◌}
use native.Mathlib.Nat.{zero-add}
use native.Mathlib.Omega.{arith}
use native.Mathlib.Decide.{dec_le}
use mathlib.Core.Path.{◌≡◌, refl, sym, ap, ap₂, ◌∙◌, subst}
use mathlib.Core.Bool.{Bool, true, false, cond, false≢true}
use mathlib.Core.List.{[], ◌∷◌, ◌++◌, append-nil}
use mathlib.Core.Option.{none}
use lib.ListN.{length, get_or, take, drop}
use lib.Dec.{ltb}
use borrow.Author.Tests.{ltb-true, ltb-false, le-leb}
use Rattle.octets.specs.Bytes.{Bytes}
use Rattle.frame.specs.Stream.{joined}
use Rattle.message.specs.Unfit.{comp_id}
use Rattle.message.specs.Wrote.{Wrote}
use Rattle.message.proofs.Writes.{spliced}
use Rattle.calendar.specs.Time.{utc}
use Rattle.calendar.proofs.Times.{utc_length}
use Rattle.replies.specs.Reply.{gap_fill}
use Rattle.replies.specs.Replied.{reply_room, nine_digits, Replied}
use Rattle.report.specs.Report.{again}
use Rattle.places.specs.Places.{places}
use Rattle.places.proofs.Cuts.{place_at}
use Rattle.kept.specs.Kept.{held, number_of}
use Rattle.possdup.specs.code.Again.{again_of}
use Rattle.std.specs.Prelude as Std
use Rattle.std.specs.Prelude.{Some, None}
use Rattle.store.specs.Store as Store
use Rattle.store.specs.Store.{Table, numbers, find, place_of, kept}
use Rattle.store.specs.Plan.{Item, Again, Fill, ends, run_to, or_fill, item}
use Rattle.store.proofs.Counting.{Stands}
use Rattle.store.proofs.Plan.{item_fits}
use Rattle.store.proofs.Standing.{kept_length, found_at, found_none}
use Rattle.moves.specs.Session.{running, sent_at, replaying, in_range}
use Rattle.moves.specs.Held.{session_of, with}
use Rattle.moves.specs.Held as Held
use Rattle.moves.specs.declared.record.Record.{Record}
use Rattle.moves.proofs.Ranges.{string_means, held-long, held_is}
use Rattle.letters.specs.code.Put.{Sending}
use Rattle.letters.proofs.Replying.{was_put, put_at}
use Rattle.session.specs.Held.{Leaves}
use Rattle.session.specs.declared.Answered.{Answered}
use Rattle.session.specs.Answer.{Done}
use Rattle.session.proofs.Stepping.{ranged_is}
use Rattle.replaying.specs.Call.{its_item, message, behind, playing}
use Rattle.replaying.proofs.Ways.{placed_running}

-- THE PLACE BEHIND a message that covers the numbers up to e
abbrev moved_on : Record → ℕ → ℕ → ℕ → Answered
moved_on r t e len = record { answer = Done; after = with r (replaying (behind (session_of r) (Fill r.replay.at e)) (sent_at t (session_of r))); len = len }

-- THE COMPIDS as the code takes them from the record
pub record Id (n : ℕ) (c : Bytes) : Type 0 where
  pub short : n ≤ 11
  pub is : Held.held n c ≡ take n c
  pub right : comp_id (take n c) ≡ true
  pub long : length (take n c) ≤ 11

id_held : (n : ℕ) (c : Bytes) → comp_id (Held.held n c) ≡ true → Id n c
unfolding comp_id
id_held n c h = go (dec_le n 11)
  where
    go : Dec (n ≤ 11) → Id n c
    go (yes l) = let k = subst (λ (x : Bytes). comp_id x ≡ true) (held_is n c l) h in record { short = l; is = held_is n c l; right = k; long = (string_means 11 (take n c) k).1.0 }
    go (no l) = absurd (false≢true (held-long n c (omega (arith, l)) ∙ h))

pub record Plays (r : Record) : Type 0 where
  pub ours : Id r.oursLen r.ours
  pub peer : Id r.peerLen r.peer
  pub low : 1 ≤ r.replay.at
  pub ordered : r.replay.at ≤ r.replay.to
  pub high : r.replay.to + 1 ≤ 999_999_999

pub plays : (r : Record) → in_range (session_of r) ≡ true → running (session_of r).replay ≡ true → Plays r
plays r i h =
    let R = ranged_is (session_of r) i in
    let P = placed_running (session_of r) i h in
    record { ours = id_held r.oursLen r.ours R.ours; peer = id_held r.peerLen r.peer R.peers; low = P.low; ordered = P.ordered; high = omega (arith, P.high, R.next.1) }

-- A GAP FILL goes no further than to the last number asked for
pub fill_within : (table : Table) (end n : ℕ) → n ≤ end → find n table ≡ none → run_to n end (numbers table) ≤ end
unfolding item
fill_within table end n l f = subst (λ (i : Item). ends i ≤ end) (ap (or_fill table end n) f) (item_fits table end n l).within

-- WHAT IS KEPT UNDER THE NUMBER n, by the place that the code looks up
module _ (us them store : Bytes) (n : ℕ) where
  stood : {i : ℕ} → Some i ≡ Store.stands n (kept us them store) → (i ≡ place_of n (kept us them store)) × (place_of n (kept us them store) < 64)
  stood {i} e = go (ltb (place_of n (kept us them store)) (length (kept us them store))) refl e
    where
      go : (b : Bool) → ltb (place_of n (kept us them store)) (length (kept us them store)) ≡ b → Some i ≡ cond b (Some (place_of n (kept us them store))) None
          → (i ≡ place_of n (kept us them store)) × (place_of n (kept us them store) < 64)
      go true h k = (cc, omega (arith, ltb-true _ _ h, kept_length us them store))
      go false h k = let z : ◌≡◌ {A = Std.Option ℕ} (Some i) None = k in absurd (cc)

  pub found : {i : ℕ} {place : Bytes} → Some i ≡ Store.stands n (kept us them store) → place ≡ get_or (places store) i [] → Stands us them n (find n (kept us them store)) place
  found e p =
      let k = stood e in
      subst (Stands us them n (find n (kept us them store))) (sym p)
      (subst (λ (j : ℕ). Stands us them n (find n (kept us them store)) (get_or (places store) j [])) (sym k.0)
      (subst (Stands us them n (find n (kept us them store))) (sym (place_at store _ k.1)) (found_at us them store n k.1)))

  pub place_within : {i : ℕ} → Some i ≡ Store.stands n (kept us them store) → i < 64
  place_within e = let k = stood e in omega (arith, k.0, k.1)

  pub place_number : {i : ℕ} {place : Bytes} → Some i ≡ Store.stands n (kept us them store) → place ≡ get_or (places store) i [] → Some n ≡ number_of (held us them place)
  place_number e p = let S = found e p in sym (ap number_of S.holds ∙ ap (λ (k : ℕ). Some k) S.numbered)

  absent : None ≡ Store.stands n (kept us them store) → find n (kept us them store) ≡ none
  absent e = go (ltb (place_of n (kept us them store)) (length (kept us them store))) refl e
    where
      go : (b : Bool) → ltb (place_of n (kept us them store)) (length (kept us them store)) ≡ b → None ≡ cond b (Some (place_of n (kept us them store))) None → find n (kept us them store) ≡ none
      go true h k = let z : ◌≡◌ {A = Std.Option ℕ} None (Some (place_of n (kept us them store))) = k in absurd (cc)
      go false h k = found_none us them store n (omega (arith, ltb-false _ _ h, kept_length us them store))

  pub run_within : (end : ℕ) → n ≤ end → None ≡ Store.stands n (kept us them store) → run_to n end (numbers (kept us them store)) ≤ end
  run_within end l e = fill_within (kept us them store) end n l (absent e)

-- A MESSAGE at the front of the buffer
module _ (r : Record) (t : ℕ) (old : Bytes) where
  sent_item : (i : Item) {a : Answered} {len : ℕ} {new : Bytes} → Wrote old new 0 len (message (session_of r) t i) → len ≤ length old → a ≡ moved_on r t (ends i) len
      → Leaves r (playing (session_of r) t i old) a new
  sent_item i {len = len} w h q =
      let m = message (session_of r) t i in
      let alone : joined (m ∷ []) ≡ m = append-nil m in
      let e : len ≡ length (joined (m ∷ [])) = omega (arith, w.next, ap length alone) in
      record {
        answered = q ∙ ap (moved_on r t (ends i)) e;
        buffer = spliced w (omega (arith, w.next, h)) ∙ ap (λ (k : ℕ). m ++ drop k old) (zero-add (length m)) ∙ ap (λ (x : Bytes). x ++ drop (length x) old) (sym alone);
      }

  module _ (P : Plays r) (store : Bytes) where
    abbrev us : Bytes
    us = take r.oursLen r.ours

    abbrev them : Bytes
    them = take r.peerLen r.peer

    by_ids : its_item (session_of r) store ≡ item (kept us them store) r.replay.to r.replay.at
    by_ids = ap₂ (λ (x y : Bytes). item (kept x y store) r.replay.to r.replay.at) P.ours.is P.peer.is

    -- the gap fill fits
    pub fill_there : {new : Bytes} → None ≡ Store.stands r.replay.at (kept us them store) → {z : ℕ} {stamp : Bytes} → z ≡ run_to r.replay.at r.replay.to (numbers (kept us them store)) → stamp ≡ utc t
        → {end : Std.Option ℕ} → Replied us them r.replay.at stamp (nine_digits (z + 1)) old new 0 end (gap_fill us them r.replay.at stamp (z + 1)) → 600 ≤ length old
        → (to : ℕ) × (end ≡ Some to) × Wrote old new 0 to (gap_fill us them r.replay.at stamp (z + 1)) × (to ≤ 0 + reply_room)
    fill_there h {z} {stamp} f v R l =
        let b = run_within us them store r.replay.at r.replay.to P.ordered h in
        let S : Sending us them r.replay.at 0 stamp old =
        record { ours_short = P.ours.long; peers_short = P.peer.long; number = omega (arith, P.ordered, P.high); stamped = omega (arith, ap length v, utc_length t); room = omega (arith, l) } in
        was_put S r.replay.at R (le-leb (z + 1) 999_999_999 (omega (arith, f, b, P.high))) S.number S.room

    module _ {a : Answered} {len : ℕ} {new : Bytes} where
      pub play_again : {i : ℕ} {place : Bytes} → Some i ≡ Store.stands r.replay.at (kept us them store) → place ≡ get_or (places store) i [] → Wrote old new 0 len (again_of us them t (held us them place)) → len ≤ length old
          → a ≡ moved_on r t r.replay.at len → Leaves r (playing (session_of r) t (its_item (session_of r) store) old) a new
      unfolding item message
      play_again {place = place} e p w l q =
          let S = found us them store r.replay.at e p in
          let k = S.report in
          let x : its_item (session_of r) store ≡ Again k = by_ids ∙ ap (or_fill (kept us them store) r.replay.to r.replay.at) S.is in
          let y : again_of us them t (held us them place) ≡ again (session_of r).ours (session_of r).peers k t =
          ap (again_of us them t) S.holds ∙ ap₂ (λ (u v : Bytes). again u v k t) (sym P.ours.is) (sym P.peer.is) in
          subst (λ (j : Item). Leaves r (playing (session_of r) t j old) a new) (sym x)
          (sent_item (Again k) (subst (Wrote old new 0 len) y w) l (q ∙ ap (λ (n : ℕ). moved_on r t n len) (sym S.numbered)))

      pub play_fill : None ≡ Store.stands r.replay.at (kept us them store) → {z : ℕ} {stamp : Bytes} → z ≡ run_to r.replay.at r.replay.to (numbers (kept us them store)) → stamp ≡ utc t
          → {end : Std.Option ℕ} → Replied us them r.replay.at stamp (nine_digits (z + 1)) old new 0 end (gap_fill us them r.replay.at stamp (z + 1)) → end ≡ Some len → 600 ≤ length old
          → a ≡ moved_on r t z len → Leaves r (playing (session_of r) t (its_item (session_of r) store) old) a new
      unfolding item message
      play_fill h {z} {stamp} f v R o l q =
          let x : its_item (session_of r) store ≡ Fill r.replay.at z =
          by_ids ∙ ap (or_fill (kept us them store) r.replay.to r.replay.at) (absent us them store r.replay.at h) ∙ ap (Fill r.replay.at) (sym f) in
          let w = put_at (fill_there h f v R l) o in
          let y : gap_fill us them r.replay.at stamp (z + 1) ≡ gap_fill (session_of r).ours (session_of r).peers r.replay.at (utc t) (z + 1) =
          ap (λ (s : Bytes). gap_fill us them r.replay.at s (z + 1)) v ∙ ap₂ (λ (u k : Bytes). gap_fill u k r.replay.at (utc t) (z + 1)) (sym P.ours.is) (sym P.peer.is) in
          subst (λ (j : Item). Leaves r (playing (session_of r) t j old) a new) (sym x)
          (sent_item (Fill r.replay.at z) (subst (Wrote old new 0 len) y w.0) (omega (arith, w.1, l)) q)
