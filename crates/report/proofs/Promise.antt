-- The promise on reports (specs/Promise.antt), put together.
-- Assumes nothing.
use Prim.Native.Nat.{ℕ, ◌≤◌, ◌<◌}
use native.Mathlib.Omega.{arith}
use mathlib.Core.Path.{◌≡◌, refl, ap, ◌∙◌}
use mathlib.Core.Bool.{true}
use mathlib.Core.Option.{none, some}
use lib.ListN.{length}
use Rattle.octets.specs.Bytes.{Bytes, fix}
use Rattle.calendar.specs.Time.{utc, limit}
use Rattle.calendar.proofs.Times.{utc_no_bar}
use Rattle.dictionary.specs.Verdict.{Clean, verdict}
use Rattle.message.specs.Message.{bytes, row}
use Rattle.message.specs.Whole.{body_in}
use Rattle.fields.specs.Field.{first_field}
use Rattle.message.proofs.Cutting.{shown_for, first_free}
use Rattle.message.proofs.Wholes.{body_back}
use Rattle.report.specs.Report.{Report, fields_of, fields_with, sent, again, sendable, values_in}
use Rattle.report.specs.Promise.{Promise}
use Rattle.report.proofs.Reading.{all_free, values_back}
use Rattle.report.proofs.ReadBack.{sendable_is, comp_free, sent_read, sent_back, read_only, sent_one, sent_bar}
use Rattle.report.proofs.Sizes.{again_fits}
use Rattle.report.proofs.Good.{sent_good, again_good}
use Rattle.report.proofs.Verdicts.{sent_clean, again_clean}

module _ (us them : Bytes) (r : Report) where
  clean : sendable us them r ≡ true → verdict (body_in (sent us them r)) ≡ Clean
  unfolding sent
  clean h = ap verdict (body_back (row (fields_of us them r))) ∙ sent_clean us them r h

  sent_first : (u : ℕ) → sendable us them r ≡ true → first_field u (body_in (sent us them r)) ≡ shown_for u (fields_of us them r)
  unfolding sent
  sent_first u h =
      let S = sendable_is us them r h in
      ap (first_field u) (body_back (row (fields_of us them r)))
      ∙ first_free u (fields_of us them r)
      (all_free us them r.number none r.time none r.values (comp_free us S.ours) (comp_free them S.peers) tt tt S.taken)

  resent_body : (t : ℕ) → body_in (again us them r t) ≡ row (fields_with us them r.number (bytes (fix "Y")) t (bytes (utc r.time)) r.values)
  unfolding again
  resent_body t = body_back (row (fields_with us them r.number (bytes (fix "Y")) t (bytes (utc r.time)) r.values))

  resent_first : (t u : ℕ) → sendable us them r ≡ true
      → first_field u (body_in (again us them r t)) ≡ shown_for u (fields_with us them r.number (bytes (fix "Y")) t (bytes (utc r.time)) r.values)
  resent_first t u h =
      let S = sendable_is us them r h in
      ap (first_field u) (resent_body t)
      ∙ first_free u (fields_with us them r.number (bytes (fix "Y")) t (bytes (utc r.time)) r.values)
      (all_free us them r.number (some (fix "Y")) t (some (utc r.time)) r.values (comp_free us S.ours) (comp_free them S.peers) refl (utc_no_bar r.time) S.taken)

  again_reads : (t : ℕ) → sendable us them r ≡ true → values_in (body_in (again us them r t)) ≡ r.values
  again_reads t h =
      let S = sendable_is us them r h in
      ap values_in (resent_body t)
      ∙ values_back us them r.number (some (fix "Y")) t (some (utc r.time)) r.values (comp_free us S.ours) (comp_free them S.peers) refl (utc_no_bar r.time) S.taken

  again_is_clean : (t : ℕ) → sendable us them r ≡ true → t < limit → verdict (body_in (again us them r t)) ≡ Clean
  again_is_clean t h k = ap verdict (resent_body t) ∙ again_clean us them r h t k

  again_short : (t : ℕ) → sendable us them r ≡ true → length (again us them r t) ≤ 600
  again_short t h = let n = again_fits us them r t (sendable_is us them r h).short in omega arith

pub promise : Promise
promise =
    record {
      written = λ us them r h.
          record {
            good = sent_good us them r h;
            bar = sent_bar us them r;
            short = (sendable_is us them r h).short;
            clean = clean us them r h;
            sender = sent_first us them r 49 h;
            target = sent_first us them r 56 h;
            numbered = sent_first us them r 34 h;
            timed = sent_first us them r 52 h;
            reads = sent_read us them r h;
            back = sent_back us them r h;
          };
      repeated = λ us them r h t.
          record {
            sender = resent_first us them r t 49 h;
            target = resent_first us them r t 56 h;
            number = resent_first us them r t 34 h;
            duplicate = resent_first us them r t 43 h;
            new_52 = resent_first us them r t 52 h;
            first_52 = resent_first us them r t 122 h;
            reads = again_reads us them r t h;
            good = λ ours peers b. again_good us them r h ours peers b t;
            short = again_short us them r t h;
            clean = again_is_clean us them r t h;
          };
      only = read_only;
      one = sent_one;
    }
