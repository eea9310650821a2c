-- Which of two times is the later (document 02, Q-6: "Original time later than the resend").
use Rattle.std.specs.Prelude.{ℕ, List, [], ◌∷◌, ◌++◌, Bool, true, false, cond, ◌&&◌, ◌||◌, take, drop, Option, Some, None}
use Rattle.octets.specs.Bytes.{Bytes, fix, value}
use Rattle.octets.specs.Tests.{◌=?◌, ◌<?◌}
use Rattle.dates.specs.Date.{number_at}
use Rattle.kinds.specs.Kind.{time, formed, allowed}
use Rattle.calendar.specs.declared.moments.Moment.{Moment}

-- A time can be read unless it "breaks its form or the calendar".
abbrev pub is_readable : Bytes → Bool
is_readable v = formed time v && allowed time v

-- THE MOMENT that it names: year, month, day, hour, minute, second and microseconds.
-- "A seconds-only time counts as having zero decimals": what is written of the six, and zeros behind
abbrev pub decimals : Bytes → ℕ
decimals v = value (take 6 (drop 18 v ++ fix "000000"))

unfoldable pub moment_of : Bytes → Moment
moment_of v =
    record {
      year = number_at 0 4 v;
      month = number_at 4 2 v;
      day = number_at 6 2 v;
      hour = number_at 9 2 v;
      minute = number_at 12 2 v;
      second = number_at 15 2 v;
      micros = decimals v;
    }

-- THE ORDER: the first part that differs decides, from the year down. So second 60 is later than second 59 of its minute and not later than the next
-- minute, and of two equal times none is later.
abbrev pub parts : Moment → List ℕ
parts a = a.year ∷ a.month ∷ a.day ∷ a.hour ∷ a.minute ∷ a.second ∷ a.micros ∷ []

abbrev pub above : List ℕ → List ℕ → Bool
above [] l = false
above (x ∷ k) [] = true
above (x ∷ k) (y ∷ l) = y <? x || x =? y && above k l

unfoldable pub later : Moment → Moment → Bool
later a b = above (parts a) (parts b)

-- THE READING of a time
unfoldable pub read_time : Bytes → Option Moment
read_time v = cond (is_readable v) (Some (moment_of v)) None
