-- Days and times: "52, 60, 122 are `YYYYMMDD-HH:MM:SS`, alone or with 3 or 6 decimals; 75 is `YYYYMMDD`; Gregorian calendar, years 0001 to 9999,
-- seconds 00 to 60 in any minute."; document 02: "64 is a date like 75."
use Rattle.std.specs.Prelude.{ℕ, ◌%◌, Bool, true, false, cond, not, ◌&&◌, ◌||◌, List, [], ◌∷◌, take, drop, ◌==◌, nat_le, slice_index}
use Prim.Native.Char.{code}
use Rattle.octets.specs.Bytes.{Bytes, fix, any, within, digit, value}

-- Their form. In a shape a letter stands for a digit, any other byte for itself.
abbrev pub like : Bytes → Bytes → Bool
like [] [] = true
like [] (x ∷ l) = false
like (s ∷ k) [] = false
like (s ∷ k) (x ∷ l) = cond (nat_le (code "A") s) (digit x) (x == s) && like k l

abbrev pub shapes : List Bytes
shapes = fix "YYYYMMDD-HH:MM:SS" ∷ fix "YYYYMMDD-HH:MM:SS.sss" ∷ fix "YYYYMMDD-HH:MM:SS.ssssss" ∷ []

abbrev pub is_time : Bytes → Bool
is_time v = any (λ s. like s v) shapes

abbrev pub is_day : Bytes → Bool
is_day v = like (fix "YYYYMMDD") v

-- The calendar and the clock.
abbrev pub number_at : ℕ → ℕ → Bytes → ℕ  -- the number that n digits write, from place i
number_at i n v = value (take n (drop i v))

abbrev pub leap : ℕ → Bool
leap y = y % 4 == 0 && not (y % 100 == 0) || y % 400 == 0

abbrev pub days : ℕ → ℕ → ℕ
days y m = slice_index (0 ∷ 31 ∷ cond (leap y) 29 28 ∷ 31 ∷ 30 ∷ 31 ∷ 30 ∷ 31 ∷ 31 ∷ 30 ∷ 31 ∷ 30 ∷ 31 ∷ []) m

unfoldable pub good_day : Bytes → Bool
good_day v =
    within 1 9999 (number_at 0 4 v) && within 1 12 (number_at 4 2 v) && within 1 (days (number_at 0 4 v) (number_at 4 2 v)) (number_at 6 2 v)

unfoldable pub good_clock : Bytes → Bool
good_clock v = within 0 23 (number_at 9 2 v) && within 0 59 (number_at 12 2 v) && within 0 60 (number_at 15 2 v)

-- "bad form: 6 (.. the shape of dates)", "bad value: 5 (.. calendar)"; 0 where there is nothing to find
abbrev pub found : Bool → Bool → ℕ
found form value = cond form (cond value 0 5) 6

unfoldable pub day_found : Bytes → ℕ
day_found v = found (is_day v) (good_day v)

unfoldable pub time_found : Bytes → ℕ
time_found v = found (is_time v) (good_day v && good_clock v)
