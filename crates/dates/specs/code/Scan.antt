-- A day or a time as the code goes through it. Only the code's walk needs these: nothing here states document 01.
use Rattle.std.specs.Prelude.{◌≡◌, ℕ, ◌+◌, ◌≤◌, Bool, cond, ◌&&◌, ◌==◌, nat_le, slice_index}
use Prim.Native.Char.{code}
use Rattle.octets.specs.Bytes.{Bytes, within, digit, Digit}
use Rattle.dates.specs.Date.{days, number_at}

-- a byte x where the shape has s
abbrev pub stands_for : ℕ → ℕ → Bool
stands_for s x = cond (nat_le (code "A") s) (digit x) (x == s)

-- two digits at place i, and the number that they write
abbrev pub Digits : Bytes → ℕ → Type 0
Digits v i = Digit (slice_index v i) × Digit (slice_index v (i + 1))

pub record TwoAt (v : Bytes) (i r : ℕ) : Type 0 where
  pub is : r ≡ number_at i 2 v
  pub small : r ≤ 99

-- whether the calendar has the day, and the clock the time
abbrev pub is_day_of : ℕ → ℕ → ℕ → Bool
is_day_of y m d = within 1 9999 y && within 1 12 m && within 1 (days y m) d

abbrev pub is_clock_of : ℕ → ℕ → ℕ → Bool
is_clock_of h m s = within 0 23 h && within 0 59 m && within 0 60 s
