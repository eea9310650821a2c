-- A kept report under its number: what the code needs to copy it, and that what it copies is the report when it is sent again.
-- Assumes nothing.
use Prim.Native.Nat.{ℕ, ◌+◌, ◌≤◌, ◌<◌}
use native.Mathlib.Omega.{arith}
use mathlib.Core.Path.{◌≡◌, refl, sym, ap, ap₂, ◌∙◌}
use mathlib.Core.List.{◌++◌}
use mathlib.Core.Option.{Option, none, some}
use lib.ListN.{length}
use Rattle.std.specs.Prelude.{Some}
use Rattle.std.proofs.lemmas.Option.{none-some, same_Some}
use Rattle.octets.specs.Bytes.{Bytes, fix, decimal}
use Rattle.octets.specs.code.Leaf.{Number}
use Rattle.calendar.specs.Time.{utc}
use Rattle.message.specs.Message.{framed}
use Rattle.message.specs.Wrote.{Wrote}
use Rattle.message.proofs.Writes.{reword, few_digits}
use Rattle.report.specs.Report.{Report, again}
use Rattle.report.proofs.ReadBack.{sendable_is}
use Rattle.report.proofs.Sizes.{again_fits}
use Rattle.kept.specs.Kept.{Holds, held, number_of}
use Rattle.kept.proofs.Holding.{held_is}
use Rattle.possdup.specs.code.Again.{again_of}
use Rattle.possdup.specs.code.Resent.{stamp_at, resent}
use Rattle.possdup.proofs.Standing.{start, rest, again_cut, length_is, parts_within, first_part, last_part}

-- the number is that of a report
record Found (o : Option Report) (n : ℕ) : Type 0 where
  report : Report
  is : o ≡ some report
  numbered : n ≡ report.number

found : (o : Option Report) (n : ℕ) → Some n ≡ number_of o → Found o n
found none n e = absurd (none-some {A = ℕ} n (sym e))
found (some r) n e = record { report = r; is = refl; numbered = same_Some {A = ℕ} n r.number e }

module _ (us them place : Bytes) (n : ℕ) (size : length place ≡ 512) (is : Some n ≡ number_of (held us them place)) where
  F : Found (held us them place) n
  F = found (held us them place) n is

  abbrev r : Report
  r = F.report

  H : Holds us them place r
  H = held_is us them place r size F.is

  same_at : stamp_at us them r.number ≡ stamp_at us them n
  same_at = ap (stamp_at us them) (sym F.numbered)

  pub number_fits : n < 1_000_000_000
  number_fits = omega (arith, (sendable_is us them r H.sends).high, F.numbered)

  -- the body's length as it was read
  module _ (e c : ℕ) (N : Number place 13 3 e c) where
    pub within : (stamp_at us them n + 3 ≤ 17 + e) × (17 + e ≤ 505)
    within =
        let W = parts_within us them r place H in
        (omega (arith, W.0, same_at, length_is us them r place H e c N), omega (arith, W.1, length_is us them r place H e c N))

    copied : (t : ℕ) → resent place (stamp_at us them n) (17 + e) (utc t) ≡ start us them r ++ (fix "43=Y|52=" ++ (utc t ++ (fix "|122=" ++ rest us them r)))
    copied t =
        ap (λ (k : ℕ). resent place k (17 + e) (utc t)) (sym same_at)
        ∙ ap (λ (k : ℕ). resent place (stamp_at us them r.number) (17 + k) (utc t)) (length_is us them r place H e c N)
        ∙ ap₂ (λ (x y : Bytes). x ++ (fix "43=Y|52=" ++ (utc t ++ (fix "|122=" ++ y)))) (first_part us them r place H) (last_part us them r place H)

    again_is : (t : ℕ) → framed (resent place (stamp_at us them n) (17 + e) (utc t)) ≡ again_of us them t (held us them place)
    unfolding again
    again_is t = ap framed (copied t ∙ sym (again_cut us them r t)) ∙ sym (ap (again_of us them t) F.is)

    again_short : (t : ℕ) → length (again_of us them t (held us them place)) ≤ 549
    again_short t = rw F.is (again_fits us them r t (sendable_is us them r H.sends).short)

    -- what the code wrote
    pub again_put : {d d' : Bytes} {to : ℕ} (t w : ℕ) (stamp b : Bytes) → w ≡ length (decimal n) → stamp ≡ utc t
        → b ≡ resent place (35 + length us + length them + w) (17 + e) stamp
        → Wrote d d' 0 to (framed b) → Wrote d d' 0 to (again_of us them t (held us them place)) × (to ≤ 600)
    again_put t w stamp b f g h p =
        let k : b ≡ resent place (stamp_at us them n) (17 + e) (utc t) =
        h ∙ ap (λ (x : ℕ). resent place (35 + length us + length them + x) (17 + e) stamp) f ∙ ap (resent place (stamp_at us them n) (17 + e)) g in
        let W = reword (ap framed k ∙ again_is t) p in
        (W, omega (arith, W.next, again_short t))

-- the frame around such a body fits the buffer
pub frame-fits : (n room : ℕ) → n ≤ 522 → 600 ≤ room → (n ≤ 2048) × (0 + n + length (decimal n) + 21 ≤ room)
frame-fits n room h k = (omega arith, omega (arith, (few_digits 3 n (omega arith)).1))
