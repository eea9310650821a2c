-- The calls of the seven replies: what their tests say in numbers, and what a call leaves behind them.
use Prim.Native.Nat.{ℕ, ◌+◌, ◌-◌, ◌≤◌}
use native.Mathlib.Omega.{arith}
use mathlib.Core.Path.{◌≡◌, refl, sym, ap, ◌∙◌}
use mathlib.Core.List.{List, [], ◌∷◌, ◌++◌}
use mathlib.Core.Bool.{Bool, true, false, cond, not, ◌&&◌, false≢true}
use lib.Dec.{eqb, leb}
use lib.ListN.{length, take}
use borrow.Author.Tests.{leb-true, leb-false, le-leb, lt-leb}
use Rattle.octets.specs.Bytes.{Bytes, fix, decimal}
use Rattle.octets.proofs.Tests.{both, both_true}
use Rattle.message.specs.Message.{absent, number, Field, shown, row, framed}
use Rattle.message.specs.Wrote.{Wrote}
use Rattle.message.proofs.Writes.{reword, few_digits, front_of, more}
use Rattle.message.proofs.Frames.{framed-length}
use lib.Seq.{length-take-le}
use Rattle.std.specs.Prelude as Given
use Rattle.std.specs.Prelude.{Some, None}
use Rattle.std.specs.Bool.{then_some}
use Rattle.std.specs.Borrow.{Bor}
use Rattle.message.specs.code.Given.{given_text}
use Rattle.replies.specs.Reply.{held}
use Rattle.table.specs.Dictionary.{fields, code35}
use Rattle.message.specs.Message.{written, order, own}
use Rattle.replies.specs.Reply.{if_any, optional, unless_zero, heartbeat, test_request, logon, resend_request, reject, gap_fill, logout}
use Rattle.replies.specs.Replied.{reply_room, sendable, message_of, Replied}
use Rattle.replies.specs.code.Ranges.{Ranged, code_byte, is_duplicate, headed, own_of}
use Rattle.replies.specs.declared.Reply.{Reply}
use Rattle.replies.specs.declared.Reply.TheVariants.{Heartbeat, TestRequest, Logon, ResendRequest, Reject, GapFill, Logout}

-- WHAT THE TESTS SAY
pub record Passed (ours peers : Bytes) (n : ℕ) (time : Bytes) (at len : ℕ) : Type 0 where
  pub ranged : Ranged ours peers n
  pub timed : length time ≤ 24
  pub fits : at + reply_room ≤ len

module _ {ours peers : Bytes} {n : ℕ} {time : Bytes} {at len : ℕ} where
  pub is_sendable : Passed ours peers n time at len → sendable ours peers n time at len ≡ true
  unfolding sendable
  is_sendable P =
      rw
      (le-leb (length ours) 11 P.ranged.ours_short, le-leb (length peers) 11 P.ranged.peers_short, le-leb n 999_999_999 (omega (arith, P.ranged.small)), le-leb (length time) 24 P.timed, le-leb (at + reply_room) len P.fits)

  pub passed : sendable ours peers n time at len ≡ true → Passed ours peers n time at len
  unfolding sendable
  passed e =
      let w = both _ (leb (at + reply_room) len) e in
      let x = both _ (leb (length time) 24) w.0 in
      let y = both _ (leb n 999_999_999) x.0 in
      let z = both (leb (length ours) 11) (leb (length peers) 11) y.0 in
      record {
        ranged = record { ours_short = leb-true _ _ z.0; peers_short = leb-true _ _ z.1; small = omega (arith, leb-true n 999_999_999 y.1) };
        timed = leb-true _ _ x.1;
        fits = leb-true _ _ w.1;
      }

-- the room behind a place, by a difference
pub room_behind : (at room len : ℕ) → room ≤ len → leb at (len - room) ≡ leb (at + room) len
room_behind at room len h = go (leb at (len - room)) refl
  where
    go : (b : Bool) → leb at (len - room) ≡ b → b ≡ leb (at + room) len
    go true e = sym (le-leb (at + room) len (omega (arith, leb-true at (len - room) e)))
    go false e = sym (lt-leb (at + room) len (omega (arith, leb-false at (len - room) e)))

-- WHAT A CALL LEAVES that tests what every reply asks, and then its own
module _ {ours peers : Bytes} {n : ℕ} {time : Bytes} {own : Bool} {at : ℕ} {d : Bytes} {xs : Bytes} where
  pub not_put : (sendable ours peers n time at (length d) && own) ≡ false → Replied ours peers n time own d d at None xs
  not_put e = record { written = λ t. absurd (false≢true (sym e ∙ t)); refused = λ f. (refl, refl) }

  pub put : {d' : Bytes} {to : ℕ} → sendable ours peers n time at (length d) ≡ true → own ≡ true → Wrote d d' at to xs → to ≤ at + reply_room → Replied ours peers n time own d d' at (Some to) xs
  put {to = to} s e w l = record { written = λ t. (to, refl, w, l); refused = λ f. absurd (false≢true (sym f ∙ both_true (sendable ours peers n time at (length d)) own s e)) }

-- how long the frame is around the first k bytes of an array
pub framed_room : (k : ℕ) (l : Bytes) → k ≤ 162 → length l ≡ 162
    → (length (take k l) ≡ k) × (1 ≤ length (decimal (length (take k l)))) × (length (decimal (length (take k l))) ≤ 4) × (length (framed (take k l)) ≡ k + length (decimal (length (take k l))) + 21)
framed_room k l h e =
    let n : length (take k l) ≡ k = length-take-le k l (omega arith) in
    let d = few_digits 3 (length (take k l)) (omega arith) in
    (n, d.0, d.1, omega (arith, framed-length (take k l)))

-- THE FRAME around the fields that were put into an array, those of the head and behind them the own ones
pub framed_put : {z x y d d' : Bytes} {a k at to : ℕ} (hs fs : List Field) → Wrote z x 0 a (row hs) → Wrote x y a k (row fs) → k ≤ length z → Wrote d d' at to (framed (take k y))
    → Wrote d d' at to (framed (row (hs ++ fs)))
framed_put hs fs v w h r = reword (ap framed (front_of (more hs fs v w) h)) r

-- they are the message
pub is_message : (ours peers : Bytes) (n : ℕ) (time : Bytes) (r : Reply) → framed (row (headed (code_byte r) ours peers n (is_duplicate r) time ++ own_of time r)) ≡ message_of ours peers n time r
unfolding heartbeat test_request logon resend_request reject gap_fill logout written order own fields code35
is_message ours peers n time (Heartbeat id) = refl
is_message ours peers n time (TestRequest id) = refl
is_message ours peers n time (Logon seconds reset) = refl
is_message ours peers n time (ResendRequest expected) = refl
is_message ours peers n time (Reject refused tag type why) = refl
is_message ours peers n time (GapFill next) = refl
is_message ours peers n time (Logout status) = refl

-- A VALUE THAT IS PUT OR NOT
pub flagged : (b : Bool) {o : Given.Option ℕ} → o ≡ then_some b 89 → given_text (λ (x : ℕ). x ∷ []) o ≡ shown (optional b (fix "Y"))
flagged true e = ap (given_text (λ (x : ℕ). x ∷ [])) e
flagged false e = ap (given_text (λ (x : ℕ). x ∷ [])) e

pub counted : (n : ℕ) {o : Given.Option ℕ} → o ≡ then_some (not (eqb n 0)) n → given_text decimal o ≡ shown (unless_zero n)
counted n e = ap (given_text decimal) e ∙ go (eqb n 0)
  where
    go : (b : Bool) → given_text decimal (then_some (not b) n) ≡ shown (cond b absent (number n))
    go true = refl
    go false = refl

pub given_slice : (o : Given.Option (Bor Bytes)) → given_text (λ (s : Bor Bytes). s.now) o ≡ shown (if_any (held o))
given_slice (Some v) = refl
given_slice None = refl
