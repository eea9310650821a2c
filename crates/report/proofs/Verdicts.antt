-- The verdict on a report, sent or sent again: clean.
use Prim.Native.Nat.{ℕ, ◌≤◌, ◌<◌}
use native.Mathlib.Omega.{arith}
use mathlib.Core.Path.{◌≡◌, refl, ap, ◌∙◌}
use mathlib.Core.List.{List, ◌++◌}
use mathlib.Core.Bool.{true, false}
use mathlib.Core.Option.{Option, none, some}
use lib.ListN.{length, take, length-append}
use borrow.Author.Tests.{ne_eqb}
use Rattle.octets.specs.Bytes.{Bytes, fix, any, decimal, with_zeros}
use Rattle.octets.proofs.Numerals.{is_within, written_true}
use Rattle.octets.proofs.Decimals.{decimal-read, decimal-worth}
use Rattle.fields.specs.Field.{parts, first_field}
use Rattle.kinds.specs.Kind.{kind_of, is_number, formed, allowed}
use Rattle.calendar.specs.Time.{utc, limit}
use Rattle.calendar.proofs.Times.{utc_length, utc_formed, utc_no_bar, utc_allowed}
use Rattle.table.specs.declared.MsgType.TheVariants.{TradeCaptureReport}
use Rattle.table.specs.Dictionary.{№453, №580, №552, header, code35, fields, groups_of, rows_of, type_of}
use Rattle.dictionary.specs.Verdict.{Clean, verdict, walk, nothing_yet}
use Rattle.message.specs.Message.{bytes, Field, ◌is◌, tagged, row}
use Rattle.message.proofs.Cutting.{parts_of}
use Rattle.message.proofs.Frames.{begins_35, row_ends, framed-length}
use Rattle.message.proofs.Wholes.{body_true}
use Rattle.message.proofs.Cutting.{FreeOne, cut_free, decimal_free, first_free}
use Rattle.message.specs.Unfit.{rejected, required, unwritable, unfit}
use Rattle.report.specs.Values.{Values, optional, takes}
use Rattle.message.specs.Unfit.{comp_id}
use Rattle.report.specs.Report.{Report, fields_with, fields_of, sent, sendable}
use Rattle.report.proofs.Taken.{all_fit}
use Rattle.report.proofs.Reading.{all_free}
use Rattle.report.proofs.ReadBack.{Sendable, sendable_is, comp_free, comp_long}
use Rattle.report.proofs.Sizes.{body_more}
use Rattle.report.proofs.Clean.{walk_clean}

-- THE HEADER'S VALUES are such as the dictionary takes
fits_49 : (c : Bytes) → comp_id c ≡ true → rejected TradeCaptureReport 49 c ≡ false
unfolding rejected rows_of header fields groups_of №453 №580 №552 kind_of formed allowed
fits_49 c h =
    let w = comp_long c h in
    rw (ne_eqb (length c) 0 (λ e. omega arith), comp_free c h, is_within 1 32 (length c) w.0 (omega arith))

fits_56 : (c : Bytes) → comp_id c ≡ true → rejected TradeCaptureReport 56 c ≡ false
unfolding rejected rows_of header fields groups_of №453 №580 №552 kind_of formed allowed
fits_56 c h =
    let w = comp_long c h in
    rw (ne_eqb (length c) 0 (λ e. omega arith), comp_free c h, is_within 1 32 (length c) w.0 (omega arith))

fits_34 : (n : ℕ) → 1 ≤ n → n ≤ 999_999_999 → rejected TradeCaptureReport 34 (decimal n) ≡ false
unfolding rejected rows_of header fields groups_of №453 №580 №552 kind_of formed allowed is_number
fits_34 n l h =
    let N = decimal-read 11 n (omega arith) in
    rw (ne_eqb (length (decimal n)) 0 (λ e. omega (arith, N.some_digit)), decimal_free n, written_true (with_zeros 12) (decimal n) N, decimal-worth n, is_within 1 999_999_999 n l h)

fits_52 : (t : ℕ) → t < limit → rejected TradeCaptureReport 52 (utc t) ≡ false
unfolding rejected rows_of header fields groups_of №453 №580 №552 kind_of
fits_52 t h = rw (utc_length t, utc_no_bar t, utc_formed t, utc_allowed t h)

fits_122 : (t : ℕ) → t < limit → rejected TradeCaptureReport 122 (utc t) ≡ false
unfolding rejected rows_of header fields groups_of №453 №580 №552 kind_of
fits_122 t h = rw (utc_length t, utc_no_bar t, utc_formed t, utc_allowed t h)

-- A BODY
module _ (us them : Bytes) (n : ℕ) (dup : Option Bytes) (t : ℕ) (orig : Option Bytes) (v : Values) (ours : comp_id us ≡ true) (peers : comp_id them ≡ true)
    (low : 1 ≤ n) (high : n ≤ 999_999_999) (timed : t < limit) (dup-fits : unwritable TradeCaptureReport 43 dup ≡ false) (orig-fits : unwritable TradeCaptureReport 122 orig ≡ false)
    (free-dup : FreeOne dup) (free-orig : FreeOne orig) (h : takes v ≡ true) where
  abbrev fs : List Field
  fs = fields_with us them n (optional dup) t (optional orig) v

  dup_shown : (o : Option Bytes) → unwritable TradeCaptureReport 43 o ≡ false → unfit TradeCaptureReport (43 is optional o) ≡ false
  dup_shown none k = k
  dup_shown (some w) k = k

  orig_shown : (o : Option Bytes) → unwritable TradeCaptureReport 122 o ≡ false → unfit TradeCaptureReport (122 is optional o) ≡ false
  orig_shown none k = k
  orig_shown (some w) k = k

  its_type : rejected TradeCaptureReport 35 (fix "AE") ≡ false
  unfolding rejected rows_of header fields groups_of №453 №580 №552 kind_of formed allowed
  its_type = refl

  head_fit : any (unfit TradeCaptureReport) (take 7 fs) ≡ false
  head_fit = rw (its_type, fits_49 us ours, fits_56 them peers, fits_34 n low high, dup_shown dup dup-fits, fits_52 t timed, orig_shown orig orig-fits)

  type_named : type_of (fix "AE") ≡ some TradeCaptureReport
  unfolding type_of code35
  type_named = refl

  its_parts : parts (row fs) ≡ parts_of fs
  its_parts = cut_free fs (all_free us them n dup t orig v (comp_free us ours) (comp_free them peers) free-dup free-orig h)

  first_35 : first_field 35 (row fs) ≡ some (fix "AE")
  first_35 = first_free 35 fs (all_free us them n dup t orig v (comp_free us ours) (comp_free them peers) free-dup free-orig h)

  pub body_clean : 5 ≤ length (row fs) → length (row fs) ≤ 2048 → verdict (row fs) ≡ Clean
  unfolding verdict
  body_clean few many =
      let B = body_true (row fs) (record { low = few; high = many; begins = begins_35 (fix "AE") _; ends = row_ends fs (omega arith) }) in
      rw (B, first_35, type_named) (ap (walk TradeCaptureReport nothing_yet) its_parts ∙ walk_clean us them n dup t orig v head_fit (all_fit v h))

-- AS SENT, and as sent again
module _ (us them : Bytes) (r : Report) (h : sendable us them r ≡ true) where
  abbrev S : Sendable us them r
  S = sendable_is us them r h

  may_miss_43 : required TradeCaptureReport 43 ≡ false
  unfolding required rows_of header fields groups_of №453 №580 №552
  may_miss_43 = refl

  may_miss_122 : required TradeCaptureReport 122 ≡ false
  unfolding required rows_of header fields groups_of №453 №580 №552
  may_miss_122 = refl

  flag_fits : rejected TradeCaptureReport 43 (fix "Y") ≡ false
  unfolding rejected rows_of header fields groups_of №453 №580 №552 kind_of formed allowed
  flag_fits = refl

  longer : (a b : Bytes) → 6 ≤ length a → 6 ≤ length (a ++ b)
  longer a b k = omega (arith, length-append a b)

  type_long : 6 ≤ length (tagged 35 (some (fix "AE")))
  unfolding decimal
  type_long = omega arith

  pub some_bytes : 6 ≤ length (row (fields_of us them r))
  some_bytes = longer (tagged 35 (some (fix "AE"))) _ type_long

  pub few_bytes : length (row (fields_of us them r)) ≤ 491
  unfolding sent
  few_bytes = omega (arith, framed-length (row (fields_of us them r)), S.short)

  pub sent_clean : verdict (row (fields_of us them r)) ≡ Clean
  sent_clean =
      body_clean us them r.number none r.time none r.values S.ours S.peers S.low (omega (arith, S.high)) S.timed may_miss_43 may_miss_122 tt tt S.taken
      (omega (arith, some_bytes)) (omega (arith, few_bytes))

  pub again_clean : (t : ℕ) → t < limit → verdict (row (fields_with us them r.number (bytes (fix "Y")) t (bytes (utc r.time)) r.values)) ≡ Clean
  again_clean t k =
      body_clean us them r.number (some (fix "Y")) t (some (utc r.time)) r.values S.ours S.peers S.low (omega (arith, S.high)) k flag_fits (fits_122 r.time S.timed) refl
      (utc_no_bar r.time) S.taken (omega (arith, some_bytes, body_more us them r t)) (omega (arith, few_bytes, body_more us them r t))
