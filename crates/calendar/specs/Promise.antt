-- What is promised of the order of times (document 02, Q-6): it is total, the decimals that are not written are zeros, and it is the order of our own clock.
use Rattle.std.specs.Prelude.{ℕ, ◌+◌, ◌≤◌, ◌<◌, ◌≡◌, ◌++◌, true, false, length, drop}
use Rattle.octets.specs.Bytes.{Bytes, fix}
use Rattle.octets.specs.Tests.{◌<?◌}
use Rattle.dates.specs.Date.{like, number_at}
use Rattle.calendar.specs.Time.{utc, limit, microseconds}
use Rattle.calendar.specs.Later.{is_readable, moment_of, later}
use Rattle.calendar.specs.declared.moments.Moment.{Moment}

-- the moment of these parts
abbrev pub at : ℕ → ℕ → ℕ → ℕ → ℕ → ℕ → ℕ → Moment
at y m d h i s u = record { year = y; month = m; day = d; hour = h; minute = i; second = s; micros = u }

-- a time with all six decimals, those that are not written as zeros
abbrev pub with_six : Bytes → Bytes
with_six v = v ++ drop (length v) (fix "YYYYMMDD-HH:MM:SS.000000")

-- a time that our own clock can show: from 1970 on, and with no second 60
pub record OnOurClock (v : Bytes) : Type 0 where
  pub readable : is_readable v ≡ true
  pub year : 1970 ≤ number_at 0 4 v
  pub second : number_at 15 2 v ≤ 59

pub record Promise : Type 0 where
  -- A TOTAL ORDER: "equal times pass"; what is later than a later one is later; of two, one is later and the other not, or they are the same moment
  pub not_itself : (a : Moment) → later a a ≡ false
  pub onward : (a b c : Moment) → later a b ≡ true → later b c ≡ true → later a c ≡ true
  pub not_both : (a b : Moment) → later a b ≡ true → later b a ≡ false
  pub else_same : (a b : Moment) → later a b ≡ false → later b a ≡ false → a ≡ b
  -- "A seconds-only time counts as having zero decimals": with none, three or six decimals it can be read, and is the same moment
  pub no_decimals : (v : Bytes) → like (fix "YYYYMMDD-HH:MM:SS") v ≡ true → is_readable v ≡ true → (is_readable (v ++ fix ".000") ≡ true) × (moment_of (v ++ fix ".000") ≡ moment_of v)
  pub three_decimals : (v : Bytes) → like (fix "YYYYMMDD-HH:MM:SS.sss") v ≡ true → is_readable v ≡ true → (is_readable (v ++ fix "000") ≡ true) × (moment_of (v ++ fix "000") ≡ moment_of v)
  pub six_decimals : (v : Bytes) → is_readable v ≡ true → (is_readable (with_six v) ≡ true) × (moment_of (with_six v) ≡ moment_of v)
  -- so two times are the same moment only if they are the same bytes with six decimals
  pub one_text : (v w : Bytes) → is_readable v ≡ true → is_readable w ≡ true → moment_of v ≡ moment_of w → with_six v ≡ with_six w
  -- in every minute second 60 is later than second 59, whatever their decimals, and the next minute is later than all its seconds
  pub second_60 : (y m d h i u w : ℕ) → later (at y m d h i 60 u) (at y m d h i 59 w) ≡ true
  pub next_minute : (y m d h i s u w : ℕ) → later (at y m d h (i + 1) 0 u) (at y m d h i s w) ≡ true
  -- OUR OWN CLOCK: what it writes for a later microsecond is later, and for no other; the same of all times that it can show, by the microsecond that each names
  pub as_written : (t u : ℕ) → t < limit → u < limit → later (moment_of (utc t)) (moment_of (utc u)) ≡ u <? t
  pub as_counted : (v w : Bytes) → OnOurClock v → OnOurClock w → later (moment_of v) (moment_of w) ≡ microseconds (with_six w) <? microseconds (with_six v)
