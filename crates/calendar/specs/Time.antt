-- A time in words, `YYYYMMDD-HH:MM:SS.ssssss`: from a number of microseconds since 1970, and back. The calendar is that of the dictionary's
-- kinds, by the days of its months.
use Rattle.std.specs.Prelude.{ℕ, zero, suc, ◌+◌, ◌-◌, ◌*◌, ◌/◌, ◌%◌, min, ◌++◌, cond, ltb}
use Rattle.octets.specs.Bytes.{Bytes, fix, padded}
use Rattle.dates.specs.Date.{days, number_at}
use Rattle.calendar.specs.declared.days.Date.{Date}

-- COUNTING in months and in years alike: the i-th of them has `size i` days.
module _ (size : ℕ → ℕ) where
  -- the days of k of them, from the i-th on
  abbrev pub total : ℕ → ℕ → ℕ
  total i zero = 0
  total i (suc k) = total i k + size (i + k)

  -- which of them the day d behind the first day of the i-th lies in, and how many days behind its first: whole ones are counted off, at most k
  abbrev pub counted : ℕ → ℕ → ℕ → ℕ × ℕ
  counted zero i d = (i, d)
  counted (suc k) i d = let later = counted k (i + 1) (d - size i) in cond (ltb d (size i)) (i, d) later

unfoldable pub year_days : ℕ → ℕ
year_days y = total (days y) 1 12

-- THE DATE of the day d behind 1 January 1970, to the end of 9999
abbrev pub date : ℕ → ℕ × ℕ → Date
date y (m, d) = record { year = y; month = m; day = d + 1 }

unfoldable pub in_year : ℕ × ℕ → Date
in_year (y, d) = date y (counted (days y) 11 1 d)

unfoldable pub date_of : ℕ → Date
date_of d = in_year (counted year_days 8029 1970 d)

-- THE TEXT of a time: YYYYMMDD
abbrev pub date_text : Date → Bytes
date_text d = padded 4 d.year ++ padded 2 d.month ++ padded 2 d.day

-- HH:MM:SS of a second of the day
abbrev pub clock_text : ℕ → Bytes
clock_text s = padded 2 (s / 3600) ++ fix ":" ++ padded 2 (s / 60 % 60) ++ fix ":" ++ padded 2 (s % 60)

-- "A reply's 52 has six decimals."
abbrev pub text : Date → ℕ → ℕ → Bytes
text date second micros = date_text date ++ fix "-" ++ clock_text second ++ fix "." ++ padded 6 micros

unfoldable pub utc : ℕ → Bytes
utc t = text (date_of (t / 86_400_000_000)) (t / 1_000_000 % 86_400) (t % 1_000_000)

-- "time at or past 253,402,300,800,000,000": no time is written then; asked all the same, the answer is the last microsecond before
abbrev pub limit : ℕ
limit = 253_402_300_800_000_000

unfoldable pub utc_or_last : ℕ → Bytes
utc_or_last t = utc (min t (limit - 1))

-- THE READING BACK: the microsecond since 1970 that a time with six decimals names, from the year 1970 on
abbrev pub days_since : ℕ → ℕ → ℕ → ℕ
days_since y m d = total year_days 1970 (y - 1970) + total (days y) 1 (m - 1) + (d - 1)

abbrev pub day_named : Bytes → ℕ
day_named v = days_since (number_at 0 4 v) (number_at 4 2 v) (number_at 6 2 v)

abbrev pub second_named : Bytes → ℕ
second_named v = number_at 9 2 v * 3600 + number_at 12 2 v * 60 + number_at 15 2 v

unfoldable pub microseconds : Bytes → ℕ
microseconds v = (day_named v * 86_400 + second_named v) * 1_000_000 + number_at 18 6 v
