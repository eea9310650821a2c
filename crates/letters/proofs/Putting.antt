-- A plan's messages, put one behind the other, are the bytes of its letters.
-- Assumes nothing.
use Prim.Native.Nat.{ℕ, ◌+◌, ◌≤◌}
use native.Mathlib.Omega.{arith}
use mathlib.Core.Path.{◌≡◌, refl, sym, ap, ◌∙◌, subst}
use mathlib.Core.Bool.{true, false≢true}
use mathlib.Core.List.{List, [], ◌∷◌, ◌++◌, append_assoc}
use lib.ListN.{length, take}
use lib.Seq.{length-take-le}
use Rattle.octets.specs.Bytes.{Bytes}
use Rattle.frame.specs.Stream.{joined}
use Rattle.calendar.specs.Time.{utc}
use Rattle.calendar.proofs.Times.{utc_length}
use Rattle.message.specs.Message.{absent}
use Rattle.replies.specs.Reply as Reply
use Rattle.message.specs.Wrote.{Wrote}
use Rattle.message.proofs.Writes.{chain}
use Rattle.replies.specs.Replied.{reply_room, Replied}
use Rattle.moves.specs.Moves as Words
use Rattle.moves.specs.Moves.{letter}
use Rattle.moves.specs.code.Plan.{letters_of, behind, Ready}
use Rattle.letters.specs.code.Put.{bytes_of, AllPut, Sending}
use Rattle.moves.specs.declared.record.Record.{Record}
use Rattle.moves.specs.declared.plan.Letter.{Letter}
use Rattle.letters.proofs.Replying.{was_put}
use Rattle.std.specs.Prelude as Given
use Rattle.std.specs.Prelude.{Some, None, is_none}

pub nothing_is : (l : Given.Option Letter) → is_none l ≡ true → l ≡ None
nothing_is None e = refl
nothing_is (Some l) e = absurd (false≢true e)

-- LISTS OF MESSAGES
pub bytes-append : (ours peers stamp : Bytes) (xs ys : List (ℕ × Words.Letter)) → bytes_of ours peers stamp (xs ++ ys) ≡ bytes_of ours peers stamp xs ++ bytes_of ours peers stamp ys
bytes-append ours peers stamp [] ys = refl
bytes-append ours peers stamp (x ∷ xs) ys = ap (λ (l : List Bytes). letter ours peers x.0 stamp x.1 ∷ l) (bytes-append ours peers stamp xs ys)

joined-append : (xs ys : List Bytes) → joined (xs ++ ys) ≡ joined xs ++ joined ys
joined-append [] ys = refl
joined-append (x ∷ xs) ys = ap (λ (l : Bytes). x ++ l) (joined-append xs ys) ∙ sym (append_assoc x (joined xs) (joined ys))

pub put_split : (xs ys : List (ℕ × Words.Letter)) → AllPut (xs ++ ys) → AllPut xs × AllPut ys
put_split [] ys h = (tt, h)
put_split (x ∷ xs) ys h = let k = put_split xs ys h.2 in ((h.0, h.1, k.0), k.1)

pub put_more : (xs ys : List (ℕ × Words.Letter)) → AllPut xs → AllPut ys → AllPut (xs ++ ys)
put_more [] ys h k = k
put_more (x ∷ xs) ys h k = (h.0, h.1, put_more xs ys h.2 k)

pub both_put : (ours peers stamp : Bytes) {d d₁ d₂ : Bytes} {a to : ℕ} (xs ys : List (ℕ × Words.Letter)) → Wrote d d₁ 0 a (joined (bytes_of ours peers stamp xs)) → Wrote d₁ d₂ a to (joined (bytes_of ours peers stamp ys))
    → Wrote d d₂ 0 to (joined (bytes_of ours peers stamp (xs ++ ys)))
both_put ours peers stamp {d = d} {d₂ = d₂} {to = to} xs ys v w =
    subst (Wrote d d₂ 0 to) (sym (ap (λ (l : List Bytes). joined l) (bytes-append ours peers stamp xs ys) ∙ joined-append (bytes_of ours peers stamp xs) (bytes_of ours peers stamp ys))) (chain v w)

pub both_letters : (ours peers stamp body : Bytes) (n : ℕ) (f g : Given.Option Letter) {d d₁ d₂ : Bytes} {a to m : ℕ} → m ≡ behind n f → Wrote d d₁ 0 a (joined (bytes_of ours peers stamp (letters_of body n f)))
    → Wrote d₁ d₂ a to (joined (bytes_of ours peers stamp (letters_of body m g))) → Wrote d d₂ 0 to (joined (bytes_of ours peers stamp (letters_of body n f ++ letters_of body (behind n f) g)))
both_letters ours peers stamp body n f g {d₁ = d₁} {d₂ = d₂} {a = a} {to = to} e v w =
    both_put ours peers stamp (letters_of body n f) (letters_of body (behind n f) g) v (subst (λ (k : ℕ). Wrote d₁ d₂ a to (joined (bytes_of ours peers stamp (letters_of body k g)))) e w)

pub sending_at : {ours peers stamp d d' : Bytes} {n from : ℕ} (k at : ℕ) → Sending ours peers n from stamp d → k ≤ 999_999_999 → at + reply_room ≤ length d' → Sending ours peers k at stamp d'
sending_at k at S h room = record { ours_short = S.ours_short; peers_short = S.peers_short; number = h; stamped = S.stamped; room = room }

-- FROM THE RECORD, at a time
pub sending : (r : Record) → Ready r → length r.ours ≡ 11 → length r.peer ≡ 11 → (stamp buf : Bytes) → length stamp ≡ 24 → 512 ≤ length buf
    → Sending (take r.oursLen r.ours) (take r.peerLen r.peer) r.next reply_room stamp buf
sending r R e f stamp buf l b =
    let x = length-take-le r.oursLen r.ours (omega (arith, R.ours)) in
    let y = length-take-le r.peerLen r.peer (omega (arith, R.peer)) in
    record { ours_short = omega (arith, R.ours); peers_short = omega (arith, R.peer); number = omega (arith, R.next); stamped = omega arith; room = omega arith }

pub at_time : (ours peers : Bytes) (ls : List (ℕ × Words.Letter)) (t : ℕ) {d d' stamp : Bytes} {len : ℕ} → stamp ≡ utc t
    → Wrote d d' 0 len (joined (bytes_of ours peers stamp ls)) → Wrote d d' 0 len (joined (bytes_of ours peers (utc t) ls))
at_time ours peers ls t {d = d} {d' = d'} {len = len} e w = subst (λ (x : Bytes). Wrote d d' 0 len (joined (bytes_of ours peers x ls))) e w

-- the Heartbeat of a tick
pub beat_put : (r : Record) → Ready r → length r.ours ≡ 11 → length r.peer ≡ 11 → (t : ℕ) {ours peers stamp d d' : Bytes} {n : ℕ} {answer : Given.Option ℕ} → ours ≡ take r.oursLen r.ours → peers ≡ take r.peerLen r.peer
    → n ≡ r.next → stamp ≡ utc t → 512 ≤ length d → Replied ours peers n stamp true d d' 0 answer (Reply.heartbeat ours peers n stamp absent)
    → (to : ℕ) × (answer ≡ Some to) × Wrote d d' 0 to (Reply.heartbeat (take r.oursLen r.ours) (take r.peerLen r.peer) r.next (utc t) absent) × (to ≤ reply_room)
beat_put r R e f t {d = d} {d' = d'} {answer = answer} o p m q b P =
    let S : Sending (take r.oursLen r.ours) (take r.peerLen r.peer) r.next 0 (utc t) d = sending_at r.next 0 (sending r R e f (utc t) d (utc_length t) b) (omega (arith, R.next)) (omega arith) in
    was_put S r.next (rw (o, p, m, q) at P) refl S.number S.room
