-- What refusal 8 says of the words at the C border: of values that are taken, no required one is absent, and there are at most eight parties. And values
-- out of a text of bytes are of bytes.
use Prim.Native.Nat.{ℕ, zero, suc, ◌+◌, ◌-◌, ◌*◌, ◌≤◌}
use native.Mathlib.Omega.{arith}
use mathlib.Core.Path.{◌≡◌, refl, sym, ap}
use mathlib.Core.List.{List, [], ◌∷◌}
use mathlib.Core.Bool.{Bool, true, false, cond, ◌&&◌, false≢true}
use mathlib.Core.Option.{none, some}
use lib.Dec.{leb}
use lib.ListN.{length, take, drop}
use Rattle.octets.specs.Bytes.{Bytes, Byted, all, any, within}
use Rattle.octets.proofs.Tests.{both}
use Rattle.octets.proofs.Numerals.{within_is}
use Rattle.decimals.specs.Decimal.{whole_of, places_of}
use Rattle.kinds.specs.Kind.{allowed}
use Rattle.kinds.specs.Kind as Kind
use Rattle.table.specs.declared.MsgType.TheVariants.{TradeCaptureReport}
use Rattle.message.specs.Message.{bytes, Field, ◌is◌, part}
use Rattle.message.specs.Unfit.{unfit}
use Rattle.message.proofs.Accepted.{accepted}
use Rattle.message.proofs.Wholes.{bytes_take}
use Rattle.amounts.specs.Amount.{Amount, pointing, amount_text}
use Rattle.amounts.proofs.Amounts.{amount-bytes, pointing_reads}
use Rattle.report.specs.Values.{Values, optional, members, group, own, takes}
use Rattle.report.specs.Layout.{word, given, text_at, needed, may_be, amount_at, party_part, parties_from, values_given}
use Rattle.report.specs.Promise.{OfBytes}
use Rattle.report.proofs.Taken.{here, fit_from, all_fit, quantity_fits, price_fits}
use Rattle.report.proofs.Longest.{few_parties}

-- A REQUIRED VALUE is given
text-given : (b : Bool) (v : Bytes) (t : ℕ) (fs : List Field) → any (unfit TradeCaptureReport) (t is bytes (cond b v []) ∷ fs) ≡ false → b ≡ true
text-given true v t fs h = refl
text-given false v t fs h = absurd (false≢true (sym (accepted TradeCaptureReport t [] (here TradeCaptureReport (t is bytes []) fs h)).filled))

amount-given : (b : Bool) (a : Amount) → allowed Kind.decimal (amount_text (cond b a (record { whole = 0; places = 9 }))) ≡ true → b ≡ true
unfolding allowed amount_text
amount-given true a h = refl
amount-given false a h =
    let c = both (within 0 999_999_999_999_999 (whole_of (pointing 0 9))) (within 0 8 (length (places_of (pointing 0 9)))) h in
    absurd (omega (arith, (within_is 0 8 (length (places_of (pointing 0 9))) c.1).1, (pointing_reads 0 9).places))

from_long : (words : List ℕ) (text : Bytes) (i n : ℕ) → length (parties_from words text i n) ≡ n
from_long words text i zero = refl
from_long words text i (suc n) = ap suc (from_long words text (i + 1) n)

module _ (words : List ℕ) (text : Bytes) (h : takes (values_given words text) ≡ true) where
  abbrev v : Values
  v = values_given words text

  from : (k : ℕ) → any (unfit TradeCaptureReport) (drop k (own v)) ≡ false
  from k = fit_from TradeCaptureReport k (own v) (all_fit v h)

  text_at_lem : (k t n : ℕ) → any (unfit TradeCaptureReport) (t is bytes (needed words text k) ∷ drop n (own v)) ≡ false → given words text k ≡ true
  text_at_lem k t n f = text-given (given words text k) (text_at words text k) t (drop n (own v)) f

  amount_at_lem : (k : ℕ) → allowed Kind.decimal (amount_text (amount_at words text k)) ≡ true → given words text k ≡ true
  amount_at_lem k f = amount-given (given words text k) _ f

  -- all but 64 and 1427
  pub given_required : all (given words text) (0 ∷ 1 ∷ 2 ∷ 3 ∷ 4 ∷ 6 ∷ 7 ∷ 8 ∷ 9 ∷ []) ≡ true
  unfolding values_given
  given_required =
      rw
      (text_at_lem 0 571 1 (from 0), text_at_lem 1 828 2 (from 1), text_at_lem 2 60 3 (from 2), amount_at_lem 3 (quantity_fits v h), amount_at_lem 4 (price_fits v h), text_at_lem 6 574 7 (from 6), text_at_lem 7 48 8 (from 7), text_at_lem 8 22 9 (from 8), text_at_lem 9 54 11 (from 10))

  -- so a count above 8 may be refused before a party is looked at
  pub given_few : word words text 33 ≤ 8
  unfolding values_given
  given_few = omega (arith, few_parties v h, from_long words text 0 (word words text 33))

-- OF BYTES
bytes_drop : (n : ℕ) (l : Bytes) → Byted l → Byted (drop n l)
bytes_drop zero l h = h
bytes_drop (suc n) [] h = h
bytes_drop (suc n) (x ∷ l) h = bytes_drop n l (λ i. h (suc i))

module _ (words : List ℕ) (text : Bytes) (h : Byted text) where
  part_bytes : (a e : ℕ) → Byted (part text a e)
  part_bytes a e = go (leb a e && leb e (length text))
    where
      go : (b : Bool) → Byted (cond b (take (e - a) (drop a text)) [])
      go true = bytes_take (e - a) (drop a text) (bytes_drop a text h)
      go false = λ i. omega arith

  party_bytes : (i j : ℕ) → Byted (party_part words text i j)
  party_bytes i j = part_bytes (word words text (34 + 6 * i + 2 * j)) (word words text (35 + 6 * i + 2 * j))

  members_bytes : (i n : ℕ) → OfBytes (members (parties_from words text i n))
  members_bytes i zero = tt
  members_bytes i (suc n) = (party_bytes i 0, (party_bytes i 1, (party_bytes i 2, members_bytes (i + 1) n)))

  group_bytes : (n : ℕ) → OfBytes (group (parties_from words text 0 n))
  group_bytes zero = tt
  group_bytes (suc n) = members_bytes 0 (suc n)

  -- a value that is needed, and one that may be absent
  needed_bytes : (k : ℕ) → Byted (needed words text k)
  needed_bytes k = go (given words text k)
    where
      go : (b : Bool) → Byted (cond b (text_at words text k) [])
      go true = part_bytes (word words text (3 * k + 1)) (word words text (3 * k + 2))
      go false = λ i. omega arith

  maybe_bytes : (k t : ℕ) (fs : List Field) → OfBytes fs → OfBytes (t is optional (may_be words text k) ∷ fs)
  maybe_bytes k t fs g = go (given words text k)
    where
      go : (b : Bool) → OfBytes (t is optional (cond b (some (text_at words text k)) none) ∷ fs)
      go true = (part_bytes (word words text (3 * k + 1)) (word words text (3 * k + 2)), g)
      go false = g

  pub given_bytes : OfBytes (own (values_given words text))
  unfolding values_given
  given_bytes =
      let v : Values = values_given words text in (
        needed_bytes 0,
        (
          needed_bytes 1,
          (
            needed_bytes 2,
            (
              amount-bytes (amount_at words text 3),
              (
                amount-bytes (amount_at words text 4),
                maybe_bytes 5 64 (drop 6 (own v))
                    (needed_bytes 6, (needed_bytes 7, (needed_bytes 8, (needed_bytes 9, maybe_bytes 10 1427 (drop 12 (own v)) (group_bytes (word words text 33)))))),
              ),
            ),
          ),
        ),
      )
