-- A day's year and month as the code finds them. Only the code's walk needs these: nothing here states document 01.
use Rattle.std.specs.Prelude.{ℕ, ◌+◌, ◌-◌, ◌*◌, ◌/◌, ◌≤◌, ◌<◌, ◌≡◌, Bool, cond, ltb}
use Rattle.calendar.specs.Time.{total, year_days}

-- the day d behind 1 January 0001 lies in the year `year`, `day` days behind its first
pub record InYear (d year day : ℕ) : Type 0 where
  pub some : 1 ≤ year
  pub last : year ≤ 9999
  pub here : total year_days 1 (year - 1) + day ≡ d
  pub short : day < year_days year

-- r days are `count` spans of n days and a rest; only the last of four spans may have one day more
pub record Split (n r count rest : ℕ) : Type 0 where
  pub whole : n * count + rest ≡ r
  pub few : count ≤ 3
  pub short : rest < n + count / 3

-- the day of a year as if February had 30 days
unfoldable pub evened : ℕ → Bool → ℕ
evened d leap = cond (ltb d 59) d (cond leap (cond (ltb d 60) d (d + 1)) (d + 2))

pub record Evened (d : ℕ) (leap : Bool) (r : ℕ) : Type 0 where
  pub is : r ≡ evened d leap
  pub small : r ≤ 367
