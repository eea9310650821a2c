-- A report of bytes is a good frame, as it is sent and as it is sent again.
use Prim.Native.Nat.{ℕ, ◌≤◌}
use native.Mathlib.Omega.{arith}
use mathlib.Core.Path.{◌≡◌, refl, sym}
use mathlib.Core.List.{List, [], ◌∷◌}
use mathlib.Core.Bool.{Bool, true, false}
use mathlib.Core.Option.{none, some}
use lib.Dec.{eqb}
use lib.ListN.{length, drop}
use borrow.Author.Tests.{eqb-false}
use Rattle.octets.specs.Bytes.{Bytes, fix, any, Byted}
use Rattle.octets.proofs.Tests.{neither}
use Rattle.calendar.specs.Time.{utc}
use Rattle.calendar.proofs.Times.{utc_bytes, utc_no_bar}
use Rattle.message.specs.Message.{absent, number, bytes, Field, ◌is◌, row, framed}
use Rattle.message.specs.Whole.{body_in}
use Rattle.message.proofs.Cutting.{Free}
use Rattle.message.proofs.Rows.{Fit, plain_of, plain-decimal}
use Rattle.message.proofs.Frames.{sound_row, row_ends, good_framed, begins_35}
use Rattle.message.proofs.Wholes.{body_back}
use Rattle.message.proofs.ReadBack.{small_bytes}
use Rattle.report.specs.Values.{Party, members, group, own}
use Rattle.report.specs.Report.{Report, fields_with, fields_of, sent, again, sendable}
use Rattle.report.specs.Promise.{OfBytes, Frame}
use Rattle.report.proofs.Reading.{all_free}
use Rattle.report.proofs.ReadBack.{Sendable, sendable_is, comp_free}
use Rattle.report.proofs.Sizes.{body_more}
use Rattle.report.proofs.Verdicts.{some_bytes, few_bytes}

-- WELL FORMED: no tag is 9, no value has a `|`, and all are of bytes
abbrev nine : Field → Bool
nine (t is v) = eqb t 9

fit_by : (fs : List Field) → any nine fs ≡ false → Free fs → OfBytes fs → Fit fs
fit_by [] n f b = tt
fit_by ((t is absent) ∷ fs) n f b = (tt, fit_by fs (neither (eqb t 9) (any nine fs) n).1 f.1 b)
fit_by ((t is number k) ∷ fs) n f b =
    let w = neither (eqb t 9) (any nine fs) n in
    ((eqb-false t 9 w.0, plain-decimal k), fit_by fs w.1 f.1 b)
fit_by ((t is bytes v) ∷ fs) n f b =
    let w = neither (eqb t 9) (any nine fs) n in
    ((eqb-false t 9 w.0, plain_of v f.0 b.0), fit_by fs w.1 f.1 b.1)

members_no_nine : (ps : List Party) → any nine (members ps) ≡ false
members_no_nine [] = refl
members_no_nine (p ∷ ps) = members_no_nine ps

group_no_nine : (ps : List Party) → any nine (group ps) ≡ false
group_no_nine [] = refl
group_no_nine (p ∷ ps) = members_no_nine (p ∷ ps)

-- A ROW THAT BEGINS WITH 35=AE, in its frame
row_good : (fs : List Field) → Fit (35 is bytes (fix "AE") ∷ fs) → 5 ≤ length (row (35 is bytes (fix "AE") ∷ fs)) → length (row (35 is bytes (fix "AE") ∷ fs)) ≤ 2048
    → Frame (framed (row (35 is bytes (fix "AE") ∷ fs))) (body_in (framed (row (35 is bytes (fix "AE") ∷ fs))))
row_good fs h low high =
    let gs : List Field = 35 is bytes (fix "AE") ∷ fs in
    record {
      frame = good_framed (row gs) (sound_row gs h) (begins_35 (fix "AE") (row fs)) (row_ends gs) low high;
      its_body = sym (body_back (row gs));
    }

type-bytes : Byted (fix "AE")
type-bytes = small_bytes (fix "AE") refl

module _ (us them : Bytes) (r : Report) (h : sendable us them r ≡ true) (ours : Byted us) (peers : Byted them) (b : OfBytes (own r.values)) where
  abbrev S : Sendable us them r
  S = sendable_is us them r h

  pub sent_good : Frame (sent us them r) (body_in (sent us them r))
  unfolding sent
  sent_good =
      row_good (drop 1 (fields_of us them r))
      (fit_by (fields_of us them r) (group_no_nine r.values.parties)
      (all_free us them r.number none r.time none r.values (comp_free us S.ours) (comp_free them S.peers) tt tt S.taken)
      (type-bytes, (ours, (peers, (utc_bytes r.time, b)))))
      (omega (arith, some_bytes us them r h)) (omega (arith, few_bytes us them r h))

  pub again_good : (t : ℕ) → Frame (again us them r t) (body_in (again us them r t))
  unfolding again
  again_good t =
      row_good (drop 1 (fields_with us them r.number (bytes (fix "Y")) t (bytes (utc r.time)) r.values))
      (fit_by (fields_with us them r.number (bytes (fix "Y")) t (bytes (utc r.time)) r.values) (group_no_nine r.values.parties)
      (all_free us them r.number (some (fix "Y")) t (some (utc r.time)) r.values (comp_free us S.ours) (comp_free them S.peers) refl (utc_no_bar r.time) S.taken)
      (type-bytes, (ours, (peers, (small_bytes (fix "Y") refl, (utc_bytes t, (utc_bytes r.time, b)))))))
      (omega (arith, some_bytes us them r h, body_more us them r t)) (omega (arith, few_bytes us them r h, body_more us them r t))
