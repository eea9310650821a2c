-- The bytes of a report in its place, from the mark to the zeros: what the walk over a place looks at is all that it holds.
-- Assumes nothing.
use Prim.Native.Nat.{ℕ, ◌+◌, ◌-◌, ◌%◌, ◌≤◌, ◌<◌}
use native.Mathlib.Omega.{arith}
use mathlib.Core.Path.{◌≡◌, refl, sym, ap, ◌∙◌, subst}
use mathlib.Core.List.{◌++◌, append_assoc}
use mathlib.Core.Bool.{true}
use mathlib.Core.Option.{some}
use lib.ListN.{length, take, replicate, length-append, length-replicate}
use borrow.Author.Tests.{le-leb, lt-ltb}
use Rattle.octets.specs.Bytes.{Bytes, fix, sum, decimal, At}
use Rattle.octets.proofs.Numerals.{is_within}
use Rattle.frame.specs.Frame.{fixt, trailer}
use Rattle.calendar.specs.Time.{utc, limit}
use Rattle.message.specs.Message.{tagged, row}
use Rattle.message.specs.Unfit.{comp_id}
use Rattle.message.proofs.Frames.{framed_is, framed-length}
use Rattle.places.specs.Places.{padded}
use Rattle.report.specs.Values.{own}
use Rattle.report.specs.Report.{Report, fields_of, sent, sendable}
use Rattle.report.proofs.ReadBack.{Sendable, sendable_is}
use Rattle.kept.specs.Kept.{Holds}
use Rattle.kept.specs.code.Walk.{heading, filling, Headed, Filled}
use Rattle.kept.proofs.Behind.{at_join, at_first, at_second, at_all, all_at}
use Rattle.kept.proofs.Numbered.{three}
use Rattle.kept.proofs.Least.{body-least}

pub record Laid (us them s : Bytes) (num n : ℕ) : Type 0 where
  pub low : 124 ≤ n
  pub high : n ≤ 512
  pub headed : Headed us them s
  pub sized : At s 13 (decimal (n - 24))
  pub digits : At s (34 + length us + length them) (decimal num)
  pub filled : Filled s (34 + length us + length them + length (decimal num)) n

-- THE BYTES
regroup : (o x us y them z d w t fs : Bytes)
    → x ++ ((us ++ o) ++ (y ++ ((them ++ o) ++ (z ++ ((d ++ o) ++ (w ++ ((t ++ o) ++ fs)))))))
    ≡ (x ++ (us ++ ((o ++ y) ++ (them ++ (o ++ z))))) ++ (d ++ ((o ++ w) ++ (t ++ (o ++ fs))))
regroup o x us y them z d w t fs = simp append_assoc

shape : (us them d t fs : Bytes) → fix "|" ++ (tagged 35 (some (fix "AE")) ++ (tagged 49 (some us) ++ (tagged 56 (some them) ++ (tagged 34 (some d) ++ (tagged 52 (some t) ++ fs)))))
    ≡ heading us them ++ (d ++ (fix "|52=" ++ (t ++ (fix "|" ++ fs))))
unfolding decimal
shape us them d t fs = regroup (fix "|") (fix "|35=AE|49=") us (fix "56=") them (fix "34=") d (fix "52=") t fs

mark_length : length fixt.mark ≡ 13
unfolding fixt
mark_length = refl

heading-length : (us them : Bytes) → length (heading us them) ≡ 18 + length us + length them
heading-length us them =
    omega (arith, length-append us (fix "|56=" ++ (them ++ fix "|34=")), length-append them (fix "|34="))

module _ (us them : Bytes) (r : Report) where
  abbrev body : Bytes
  body = row (fields_of us them r)

  abbrev behind : Bytes
  behind = heading us them ++ (decimal r.number ++ filling r.time r.values)

  abbrev front : ℕ → Bytes
  front k = fixt.mark ++ (decimal k ++ behind)

  body_is : fix "|" ++ body ≡ behind
  body_is = shape us them (decimal r.number) (utc r.time) (row (own r.values))

  sent_is : sent us them r ≡ front (length body) ++ trailer (sum (front (length body)) % 256)
  unfolding sent
  sent_is = framed_is body ∙ ap (λ (y : Bytes). (fixt.mark ++ (decimal (length body) ++ y)) ++ trailer (sum (fixt.mark ++ (decimal (length body) ++ y)) % 256)) body_is

  behind_length : length behind ≡ 18 + length us + length them + (length (decimal r.number) + length (filling r.time r.values))
  behind_length =
      omega
      (arith, heading-length us them, length-append (heading us them) (decimal r.number ++ filling r.time r.values), length-append (decimal r.number) (filling r.time r.values))

  body_length : 1 + length body ≡ length behind
  body_length = omega (arith, ap length body_is)

  module _ (low : 100 ≤ length body) (high : length body < 1000) where
    front_length : length (front (length body)) ≡ length body + 17
    front_length = omega (arith, body_length, mark_length, three (length body) low high, length-append fixt.mark (decimal (length body) ++ behind), length-append (decimal (length body)) behind)

    sent_length : length (sent us them r) ≡ length body + 24
    sent_length = omega (arith, ap length sent_is, front_length, length-append (front (length body)) (trailer (sum (front (length body)) % 256)))

-- ALL THAT A PLACE HOLDS, from what the walk finds
module _ (us them s : Bytes) (num n : ℕ) (L : Laid us them s num n) (long : length s ≡ 512) where
  abbrev F : Filled s (34 + length us + length them + length (decimal num)) n
  F = L.filled

  abbrev pub found : Report
  found = record { values = F.values; number = num; time = F.time }

  found_length : length (body us them found) ≡ n - 24
  found_length = omega (arith, F.size, body_length us them found, behind_length us them found, L.low)

  found_low : 100 ≤ length (body us them found)
  found_low = omega (arith, found_length, L.low)

  found_high : length (body us them found) < 1000
  found_high = omega (arith, found_length, L.high)

  abbrev its_front : Bytes
  its_front = front us them found (length (body us them found))

  front_ends : length its_front ≡ n - 7
  front_ends = omega (arith, front_length us them found found_low found_high, found_length, L.low)

  front_at : At s 0 its_front
  front_at =
      let d = decimal num in
      let f = filling F.time F.values in
      let h = heading us them in
      let k = length (body us them found) in
      let D = at_join s (34 + length us + length them) d f (34 + length us + length them + length d) refl L.digits F.fields in
      let C = at_join s 16 h (d ++ f) (34 + length us + length them) (omega (arith, heading-length us them)) L.headed.head D in
      let S : At s 13 (decimal k) = subst (λ (j : ℕ). At s 13 (decimal j)) (sym found_length) L.sized in
      let B = at_join s 13 (decimal k) (h ++ (d ++ f)) 16 (omega (arith, three k found_low found_high)) S C in
      at_join s 0 fixt.mark (decimal k ++ (h ++ (d ++ f))) 13 (omega (arith, mark_length)) L.headed.mark B

  front_taken : take (n - 7) s ≡ its_front
  front_taken = ap (λ (k : ℕ). take k s) (sym front_ends) ∙ front_at.1

  sent_at : At s 0 (sent us them found)
  sent_at =
      let T : At s (n - 7) (trailer (sum its_front % 256)) = subst (λ (l : Bytes). At s (n - 7) (trailer (sum l % 256))) front_taken F.summed in
      subst (At s 0) (sym (sent_is us them found)) (at_join s 0 its_front (trailer (sum its_front % 256)) (n - 7) (omega (arith, front_ends)) front_at T)

  sent_ends : length (sent us them found) ≡ n
  sent_ends = omega (arith, sent_length us them found found_low found_high, found_length, L.low)

  place_is : s ≡ padded (sent us them found)
  place_is =
      let m = sent us them found in
      let z : length s - n ≡ 512 - length m = omega (arith, long, sent_ends) in
      let Z = subst (λ (k : ℕ). At s n (replicate k 0)) z F.zeros in
      all_at s (padded m) (at_join s 0 m (replicate (512 - length m) 0) n (omega (arith, sent_ends)) sent_at Z)
      (omega (arith, long, length-append m (replicate (512 - length m) 0), length-replicate {A = ℕ} (512 - length m) 0, sent_ends, L.high))

  pub holds : comp_id us ≡ true → comp_id them ≡ true → 1 ≤ num → num ≤ 999_999_990 → Holds us them s found
  unfolding sendable
  holds ours peers low high =
      record {
        sends = rw (ours, peers, is_within 1 999_999_990 num low high, lt-ltb F.time limit F.timed, F.taken, le-leb (length (sent us them found)) 512 (omega (arith, sent_ends, L.high)));
        bytes = place_is;
      }

-- WHAT THE WALK FINDS, from all that a place holds
module _ (us them s : Bytes) (r : Report) (long : length s ≡ 512) (H : Holds us them s r) where
  S : Sendable us them r
  S = sendable_is us them r H.sends

  abbrev k : ℕ
  k = length (body us them r)

  k_low : 100 ≤ k
  k_low = body-least us them r S

  k_short : k < 1000
  unfolding sent
  k_short = omega (arith, framed-length (body us them r), S.short)

  abbrev pub size : ℕ
  size = length (sent us them r)

  size_is : size ≡ k + 24
  size_is = sent_length us them r k_low k_short

  abbrev the_front : Bytes
  the_front = front us them r k

  the_front_ends : length the_front ≡ size - 7
  the_front_ends = omega (arith, front_length us them r k_low k_short, size_is)

  all_there : At s 0 (padded (sent us them r))
  all_there = at_all s (padded (sent us them r)) H.bytes

  frame_there : At s 0 (the_front ++ trailer (sum the_front % 256))
  frame_there = subst (At s 0) (sent_is us them r) (at_first s 0 (sent us them r) (replicate (512 - size) 0) all_there)

  front_there : At s 0 the_front
  front_there = at_first s 0 the_front (trailer (sum the_front % 256)) frame_there

  behind_there : At s 13 (decimal k ++ behind us them r)
  behind_there = at_second s 0 fixt.mark (decimal k ++ behind us them r) 13 (omega (arith, mark_length)) front_there

  heading_there : At s 16 (behind us them r)
  heading_there = at_second s 13 (decimal k) (behind us them r) 16 (omega (arith, three k k_low k_short)) behind_there

  abbrev a : ℕ
  a = 34 + length us + length them

  abbrev d : Bytes
  d = decimal r.number

  abbrev f : Bytes
  f = filling r.time r.values

  number_there : At s a (d ++ f)
  number_there = at_second s 16 (heading us them) (d ++ f) a (omega (arith, heading-length us them)) heading_there

  filled_there : Filled s (a + length d) size
  filled_there =
      let e : take (size - 7) s ≡ the_front = ap (λ (j : ℕ). take j s) (sym the_front_ends) ∙ front_there.1 in
      let z : 512 - size ≡ length s - size = omega (arith, long) in
      record {
        values = r.values;
        time = r.time;
        taken = S.taken;
        timed = S.timed;
        size = omega (arith, size_is, body_length us them r, behind_length us them r);
        fields = at_second s a d f (a + length d) refl number_there;
        summed = subst (λ (l : Bytes). At s (size - 7) (trailer (sum l % 256))) (sym e)
            (at_second s 0 the_front (trailer (sum the_front % 256)) (size - 7) (omega (arith, the_front_ends)) frame_there);
        zeros = subst (λ (j : ℕ). At s size (replicate j 0)) z (at_second s 0 (sent us them r) (replicate (512 - size) 0) size (omega arith) all_there);
      }

  pub laid : Laid us them s r.number size
  laid =
      let e : k ≡ size - 24 = omega (arith, size_is) in
      record {
        low = omega (arith, size_is, k_low);
        high = S.short;
        headed = record {
          mark = at_first s 0 fixt.mark (decimal k ++ behind us them r) front_there;
          head = at_first s 16 (heading us them) (d ++ f) heading_there;
        };
        sized = subst (λ (j : ℕ). At s 13 (decimal j)) e (at_first s 13 (decimal k) (behind us them r) behind_there);
        digits = at_first s a d f number_there;
        filled = filled_there;
      }
