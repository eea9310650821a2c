-- How long a report is when it is sent again.
use Prim.Native.Nat.{ℕ, ◌+◌, ◌^◌, ◌≤◌, ◌<◌}
use native.Mathlib.Omega.{arith}
use mathlib.Core.Path.{◌≡◌, refl}
use mathlib.Core.List.{[], ◌++◌}
use mathlib.Core.Option.{some}
use lib.ListN.{length, length-append}
use Rattle.octets.specs.Bytes.{Bytes, fix, decimal}
use Rattle.octets.proofs.Decimals.{decimal-written}
use Rattle.calendar.specs.Time.{utc}
use Rattle.calendar.proofs.Times.{utc_length}
use Rattle.message.specs.Message.{bytes, tagged, row}
use Rattle.message.proofs.Frames.{framed-length}
use Rattle.message.proofs.Sizes.{length-tagged}
use Rattle.report.specs.Values.{own}
use Rattle.report.specs.Report.{Report, fields_of, fields_with, sent, again}

-- digits of two tags
digits_43 : length (decimal 43) ≡ 2
unfolding decimal
digits_43 = refl

digits_122 : length (decimal 122) ≡ 3
unfolding decimal
digits_122 = refl

seven : (a b c d e f g h : Bytes) → length (a ++ (b ++ (c ++ (d ++ (e ++ (f ++ (g ++ h))))))) ≡ length a + length b + length c + length d + length e + length f + length g + length h
seven a b c d e f g h =
    omega (arith, length-append a (b ++ (c ++ (d ++ (e ++ (f ++ (g ++ h)))))), length-append b (c ++ (d ++ (e ++ (f ++ (g ++ h))))), length-append c (d ++ (e ++ (f ++ (g ++ h)))), length-append d (e ++ (f ++ (g ++ h))), length-append e (f ++ (g ++ h)), length-append f (g ++ h), length-append g h)

module _ (us them : Bytes) (r : Report) (t : ℕ) where
  abbrev fresh : Bytes
  fresh = row (fields_of us them r)

  abbrev resent : Bytes
  resent = row (fields_with us them r.number (bytes (fix "Y")) t (bytes (utc r.time)) r.values)

  -- the 5 bytes `43=Y|` and the 29 bytes `122=..|` more
  pub body_more : length resent ≡ length fresh + 34
  body_more =
      let a : Bytes = tagged 35 (some (fix "AE")) in
      let b : Bytes = tagged 49 (some us) in
      let c : Bytes = tagged 56 (some them) in
      let d : Bytes = tagged 34 (some (decimal r.number)) in
      let h : Bytes = row (own r.values) in
      omega (arith, seven a b c d (tagged 43 (some (fix "Y"))) (tagged 52 (some (utc t))) (tagged 122 (some (utc r.time))) h, seven a b c d [] (tagged 52 (some (utc r.time))) [] h, length-tagged 43 (fix "Y"), length-tagged 52 (utc t), length-tagged 52 (utc r.time), length-tagged 122 (utc r.time), digits_43, digits_122, utc_length t, utc_length r.time)

  -- "Refusal 6 now reads 600 bytes": a report of at most 512 bytes has at most 549 when it is sent again
  pub again_fits : length (sent us them r) ≤ 512 → length (again us them r t) ≤ 549
  unfolding sent again
  again_fits h =
      let n : length resent < 10 ^ 3 = omega (arith, framed-length fresh, body_more) in
      let N = decimal-written 2 (length resent) (omega (arith, body_more)) n in
      omega (arith, framed-length fresh, framed-length resent, body_more, N.few)
