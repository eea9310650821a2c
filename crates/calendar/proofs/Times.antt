-- The times that are written: each is of its kind, and names the microsecond that it was written for.
use Prim.Native.Nat.{ℕ, ◌+◌, ◌*◌, ◌/◌, ◌%◌, ◌≤◌, ◌<◌}
use native.Mathlib.Omega.{arith}
use mathlib.Core.Path.{◌≡◌, refl, sym, ap, ◌∙◌}
use mathlib.Core.Bool.{true, false}
use lib.ListN.{length, get_or}
use borrow.Author.Tests.{le-leb}
use Rattle.octets.specs.Bytes.{Bytes, byte, all, has, within}
use Rattle.dates.specs.Date.{good_day, good_clock, days, number_at}
use Rattle.kinds.specs.Kind.{time, formed, allowed}
use Rattle.calendar.specs.declared.days.Date.{Date}
use Rattle.calendar.specs.Time.{date_of, text, utc, limit, days_since, microseconds}
use Rattle.calendar.proofs.Months.{days-most}
use Rattle.calendar.proofs.Dates.{Calendar, Dated, date_is}
use Rattle.calendar.proofs.Texts.{padded-value, text_formed, text_signs, signs_no_bar, signs_bytes}

-- the numbers that a time of the dictionary's shape writes
pub record Reads (v : Bytes) (D : Date) (second micros : ℕ) : Type 0 where
  pub year : number_at 0 4 v ≡ D.year
  pub month : number_at 4 2 v ≡ D.month
  pub day : number_at 6 2 v ≡ D.day
  pub hours : number_at 9 2 v ≡ second / 3600
  pub minutes : number_at 12 2 v ≡ second / 60 % 60
  pub seconds : number_at 15 2 v ≡ second % 60
  pub decimals : number_at 18 6 v ≡ micros

module _ (D : Date) (second micros : ℕ) (C : Calendar D) (s : second < 86400) (u : micros < 1000000) where
  text_reads : Reads (text D second micros) D second micros
  text_reads =
      record {
        year = padded-value 4 D.year (omega (arith, C.year_to));
        month = padded-value 2 D.month (omega (arith, C.month_to));
        day = padded-value 2 D.day (omega (arith, C.day_to, days-most D.year D.month C.month_to));
        hours = padded-value 2 (second / 3600) (omega arith);
        minutes = padded-value 2 (second / 60 % 60) (omega arith);
        seconds = padded-value 2 (second % 60) (omega arith);
        decimals = padded-value 6 micros u;
      }

module _ (v : Bytes) (D : Date) (second micros : ℕ) (R : Reads v D second micros) where
  reads_allowed : Calendar D → second < 86400 → allowed time v ≡ true
  unfolding allowed good_day good_clock
  reads_allowed C s =
      let a : 1 ≤ D.year = omega (arith, C.year_from) in
      let h : second / 3600 ≤ 23 = omega arith in
      let i : second / 60 % 60 ≤ 59 = omega arith in
      let k : second % 60 ≤ 60 = omega arith in
      rw (
        R.year,
        R.month,
        R.day,
        R.hours,
        R.minutes,
        R.seconds,
        le-leb 1 D.year a,
        le-leb D.year 9999 C.year_to,
        le-leb 1 D.month C.month_from,
        le-leb D.month 12 C.month_to,
        le-leb 1 D.day C.day_from,
        le-leb D.day (days D.year D.month) C.day_to,
        le-leb 0 (second / 3600) (omega arith),
        le-leb (second / 3600) 23 h,
        le-leb 0 (second / 60 % 60) (omega arith),
        le-leb (second / 60 % 60) 59 i,
        le-leb 0 (second % 60) (omega arith),
        le-leb (second % 60) 60 k,
      )

  reads_named : microseconds v ≡ (days_since D.year D.month D.day * 86400 + second) * 1000000 + micros
  unfolding microseconds
  reads_named =
      let e : second / 3600 * 3600 + second / 60 % 60 * 60 + second % 60 ≡ second = omega arith in
      rw (R.year, R.month, R.day, R.hours, R.minutes, R.seconds, R.decimals, e)

-- EACH TIME: its shape
parts : (t : ℕ) → (t / 86400000000 * 86400 + t / 1000000 % 86400) * 1000000 + t % 1000000 ≡ t
parts t = omega arith

module _ (t : ℕ) where
  abbrev date : Date
  date = date_of (t / 86400000000)

  abbrev second : ℕ
  second = t / 1000000 % 86400

  abbrev micros : ℕ
  micros = t % 1000000

  pub utc_length : length (utc t) ≡ 24
  unfolding utc
  utc_length = refl

  pub utc_formed : formed time (utc t) ≡ true
  unfolding utc
  utc_formed = text_formed date second micros

  -- its bytes are digits and the signs `-`, `.` and `:`
  pub utc_signs : all (within 45 58) (utc t) ≡ true
  unfolding utc
  utc_signs = text_signs date second micros

  pub utc_no_bar : has (utc t) (byte "|") ≡ false
  utc_no_bar = signs_no_bar (utc t) utc_signs

  pub utc_bytes : (i : ℕ) → get_or (utc t) i 0 < 256
  utc_bytes i = signs_bytes (utc t) utc_signs i

  -- and, before the limit, its calendar and its microsecond
  module _ (h : t < limit) where
    dated : Dated (t / 86400000000) date
    dated = date_is (t / 86400000000) (omega arith)

    read : Reads (utc t) date second micros
    unfolding utc
    read = text_reads date second micros dated.good (omega arith) (omega arith)

    pub utc_allowed : allowed time (utc t) ≡ true
    utc_allowed = reads_allowed (utc t) date second micros read dated.good (omega arith)

    pub utc_year : 1970 ≤ number_at 0 4 (utc t)
    utc_year = rw read.year dated.good.year_from

    pub utc_second : number_at 15 2 (utc t) ≤ 59
    utc_second = rw read.seconds (omega arith)

    pub utc_names : microseconds (utc t) ≡ t
    utc_names = reads_named (utc t) date second micros read ∙ ap (λ (d : ℕ). (d * 86400 + second) * 1000000 + micros) dated.named ∙ parts t

pub utc_one : (t u : ℕ) → t < limit → u < limit → utc t ≡ utc u → t ≡ u
utc_one t u h k e = sym (utc_names t h) ∙ ap microseconds e ∙ utc_names u k
