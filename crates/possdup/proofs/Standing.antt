-- Where the bytes of a kept report stand in its place.
-- Assumes nothing.
use Prim.Native.Nat.{ℕ, ◌+◌, ◌-◌, ◌≤◌}
use native.Mathlib.Omega.{arith}
use mathlib.Core.Path.{◌≡◌, refl, ap, ◌∙◌, subst}
use mathlib.Core.List.{◌++◌, append_assoc}
use mathlib.Core.Option.{some}
use lib.ListN.{length, take, drop, replicate, length-append}
use Rattle.octets.specs.Bytes.{Bytes, fix, decimal, At}
use Rattle.octets.specs.code.Leaf.{Number}
use Rattle.frame.specs.Frame.{fixt, trailer, sum_of}
use Rattle.calendar.specs.Time.{utc}
use Rattle.message.specs.Message.{bytes, tagged, row}
use Rattle.message.proofs.Frames.{framed_is, framed-length}
use Rattle.message.proofs.Sizes.{length-tagged}
use Rattle.places.specs.Places.{padded}
use Rattle.report.specs.Values.{own}
use Rattle.report.specs.Report.{Report, fields_of, fields_with, sent}
use Rattle.report.proofs.ReadBack.{Sendable, sendable_is}
use Rattle.kept.specs.Kept.{Holds}
use Rattle.kept.proofs.Behind.{at_first, at_second, at_all}
use Rattle.kept.proofs.Numbered.{three, read-three}
use Rattle.kept.proofs.Least.{body-least}
use Rattle.possdup.specs.code.Resent.{stamp_at}

-- A FIELD before others
opened : (t : ℕ) (w v l : Bytes) → decimal t ++ fix "=" ≡ w → tagged t (some v) ++ l ≡ w ++ (v ++ (fix "|" ++ l))
opened t w v l e =
    append_assoc (decimal t ++ fix "=" ++ v) (fix "|") l ∙ append_assoc (decimal t ++ fix "=") v (fix "|" ++ l) ∙ ap (λ (x : Bytes). x ++ (v ++ (fix "|" ++ l))) e

tag_43 : decimal 43 ++ fix "=" ≡ fix "43="
unfolding decimal
tag_43 = refl

tag_52 : decimal 52 ++ fix "=" ≡ fix "52="
unfolding decimal
tag_52 = refl

tag_122 : decimal 122 ++ fix "=" ≡ fix "122="
unfolding decimal
tag_122 = refl

four : (a b c d l : Bytes) → a ++ (b ++ (c ++ (d ++ l))) ≡ (a ++ (b ++ (c ++ d))) ++ l
four a b c d l = simp append_assoc

-- THE BODY
start-long : (us them ds : Bytes) → length (tagged 35 (some (fix "AE")) ++ (tagged 49 (some us) ++ (tagged 56 (some them) ++ tagged 34 (some ds)))) ≡ 18 + length us + length them + length ds
unfolding decimal
start-long us them ds =
    let a : Bytes = tagged 35 (some (fix "AE")) in
    let b : Bytes = tagged 49 (some us) in
    let c : Bytes = tagged 56 (some them) in
    let d : Bytes = tagged 34 (some ds) in
    omega (arith, length-append a (b ++ (c ++ d)), length-append b (c ++ d), length-append c d, length-tagged 35 (fix "AE"), length-tagged 49 us, length-tagged 56 them, length-tagged 34 ds)

module _ (us them : Bytes) (r : Report) where
  -- 35, 49, 56 and 34
  abbrev pub start : Bytes
  start = tagged 35 (some (fix "AE")) ++ (tagged 49 (some us) ++ (tagged 56 (some them) ++ tagged 34 (some (decimal r.number))))

  -- the value of 52 and all that stands behind it
  abbrev pub rest : Bytes
  rest = utc r.time ++ (fix "|" ++ row (own r.values))

  abbrev body : Bytes
  body = row (fields_of us them r)

  body_cut : body ≡ start ++ (fix "52=" ++ rest)
  body_cut =
      let o : Bytes = row (own r.values) in
      four (tagged 35 (some (fix "AE"))) (tagged 49 (some us)) (tagged 56 (some them)) (tagged 34 (some (decimal r.number))) (tagged 52 (some (utc r.time)) ++ o)
      ∙ ap (λ (l : Bytes). start ++ l) (opened 52 (fix "52=") (utc r.time) o tag_52)

  pub again_cut : (t : ℕ) → row (fields_with us them r.number (bytes (fix "Y")) t (bytes (utc r.time)) r.values) ≡ start ++ (fix "43=Y|52=" ++ (utc t ++ (fix "|122=" ++ rest)))
  again_cut t =
      let o : Bytes = row (own r.values) in
      let x : Bytes = tagged 122 (some (utc r.time)) ++ o in
      let y : Bytes = tagged 52 (some (utc t)) ++ x in
      four (tagged 35 (some (fix "AE"))) (tagged 49 (some us)) (tagged 56 (some them)) (tagged 34 (some (decimal r.number))) (tagged 43 (some (fix "Y")) ++ y)
      ∙ ap (λ (l : Bytes). start ++ l) (opened 43 (fix "43=") (fix "Y") y tag_43)
      ∙ ap (λ (l : Bytes). start ++ (fix "43=Y|" ++ l)) (opened 52 (fix "52=") (utc t) x tag_52)
      ∙ ap (λ (l : Bytes). start ++ (fix "43=Y|52=" ++ (utc t ++ (fix "|" ++ l)))) (opened 122 (fix "122=") (utc r.time) o tag_122)

  module _ (place : Bytes) (h : Holds us them place r) where
    abbrev S : Sendable us them r
    S = sendable_is us them r h.sends

    abbrev at : ℕ
    at = stamp_at us them r.number

    body_long : length body + 17 ≡ at + 3 + length rest
    body_long = omega (arith, ap length body_cut, length-append start (fix "52=" ++ rest), start-long us them (decimal r.number))

    low : 100 ≤ length body
    low = body-least us them r S

    size : length (sent us them r) ≡ length body + length (decimal (length body)) + 21
    unfolding sent
    size = framed-length body

    three_long : length (decimal (length body)) ≡ 3
    three_long = three (length body) low (omega (arith, size, S.short))

    mark_long : length fixt.mark ≡ 13
    unfolding fixt
    mark_long = refl

    -- WHAT STANDS WHERE
    front_there : At place 0 (fixt.mark ++ (decimal (length body) ++ (fix "|" ++ body)))
    unfolding sent
    front_there =
        let d : Bytes = decimal (length body) in
        let A = at_first place 0 (sent us them r) (replicate (512 - length (sent us them r)) 0) (at_all place (padded (sent us them r)) h.bytes) in
        at_first place 0 (fixt.mark ++ (d ++ (fix "|" ++ body))) (trailer (sum_of fixt d body)) (subst (At place 0) (framed_is body) A)

    length_there : At place 13 (decimal (length body) ++ (fix "|" ++ body))
    length_there = at_second place 0 fixt.mark (decimal (length body) ++ (fix "|" ++ body)) 13 (omega (arith, mark_long)) front_there

    body_there : At place 17 (start ++ (fix "52=" ++ rest))
    body_there =
        let A = at_second place 13 (decimal (length body)) (fix "|" ++ body) 16 (omega (arith, three_long)) length_there in
        subst (At place 17) body_cut (at_second place 16 (fix "|") body 17 refl A)

    rest_there : At place (at + 3) rest
    rest_there =
        let A = at_second place 17 start (fix "52=" ++ rest) at (omega (arith, start-long us them (decimal r.number))) body_there in
        at_second place at (fix "52=") rest (at + 3) refl A

    pub length_is : (v c : ℕ) → Number place 13 3 v c → v ≡ length body
    length_is v c N =
        read-three place 13 v c (length body) N low (omega (arith, size, S.short)) (at_first place 13 (decimal (length body)) (fix "|" ++ body) length_there)

    pub parts_within : (at + 3 ≤ 17 + length body) × (17 + length body ≤ 505)
    parts_within = (omega (arith, body_long), omega (arith, size, three_long, S.short))

    pub first_part : take (at - 17) (drop 17 place) ≡ start
    first_part =
        let e : at - 17 ≡ length start = omega (arith, start-long us them (decimal r.number)) in
        ap (λ (k : ℕ). take k (drop 17 place)) e ∙ (at_first place 17 start (fix "52=" ++ rest) body_there).1

    pub last_part : take (17 + length body - (at + 3)) (drop (at + 3) place) ≡ rest
    last_part =
        let e : 17 + length body - (at + 3) ≡ length rest = omega (arith, body_long) in
        ap (λ (k : ℕ). take k (drop (at + 3) place)) e ∙ rest_there.1
