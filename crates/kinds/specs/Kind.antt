-- The kinds of values: "Kinds: 7, 34, 36, 45 are 1 to 999,999,999; 16 also 0; the other numbers (108, 371, 373, 453, 580, 1409) 0 to 999,999,999
-- unless a list or group narrows them. .. 43, 97, 123, 141 are Y or N. 52, 60, 122 are `YYYYMMDD-HH:MM:SS`, alone or with 3 or 6 decimals; 75 is
-- `YYYYMMDD`; Gregorian calendar, years 0001 to 9999, seconds 00 to 60 in any minute. Other values are strings of 1 to 32 bytes, none `|` (112: 64;
-- 58: 256)." Document 02: "31 and 32 are decimals .. The other fields are strings unless 01 gives them a kind; 64 is a date like 75."; 552 is a count, as 453
-- and 580 are.
use Rattle.std.specs.Prelude.{ℕ, List, [], ◌∷◌, Bool, true, cond, ◌&&◌, ◌||◌, length}
use Rattle.octets.specs.Bytes.{Bytes, fix, any, has, same, within, value, with_zeros, writes}
use Rattle.dates.specs.Date.{is_time, is_day, good_day, good_clock}
use Rattle.decimals.specs.Decimal.{is_decimal, whole_of, places_of, in_range}

pub data Kind : Type 0 where
  text : ℕ → Kind  -- a string of 1 to n bytes
  number◌to◌ : ℕ → ℕ → Kind  -- a number from a to b
  Y/N : Kind  -- Y or N
  time : Kind  -- YYYYMMDD-HH:MM:SS, alone or with 3 or 6 decimals
  day : Kind  -- YYYYMMDD
  decimal : Kind  -- a whole number from 0 to 999,999,999,999,999 and 0 to 8 places
  among : List Bytes → Kind  -- one of a list

infix 75 number◌to◌
infix 70 ◌are◌
abbrev pub ◌are◌ : List ℕ → Kind → List ℕ × Kind
◌are◌ tags kind = (tags, kind)

abbrev pub kinds : List (List ℕ × Kind)
kinds =
    (7 ∷ 34 ∷ 36 ∷ 45 ∷ []) are number 1 to 999_999_999 ∷
    (16 ∷ []) are number 0 to 999_999_999 ∷
    (108 ∷ 371 ∷ 373 ∷ 453 ∷ 552 ∷ 580 ∷ 1409 ∷ []) are number 0 to 999_999_999 ∷
    (43 ∷ 97 ∷ 123 ∷ 141 ∷ []) are Y/N ∷
    (52 ∷ 60 ∷ 122 ∷ []) are time ∷
    (64 ∷ 75 ∷ []) are day ∷
    (31 ∷ 32 ∷ []) are decimal ∷
    (112 ∷ []) are text 64 ∷
    (58 ∷ []) are text 256 ∷
    []

abbrev pub kind_by : List (List ℕ × Kind) → ℕ → Kind
kind_by [] t = text 32
kind_by (l ∷ ls) t = cond (has l.0 t) l.1 (kind_by ls t)

unfoldable pub kind_of : ℕ → Kind
kind_of t = kind_by kinds t

-- "Field numbers (31 and 32 apart) may have up to 12 digits with their value ranges unchanged" (document 02, Q-3), zeros in front among them.
unfoldable pub is_number : Bytes → Bool
is_number v = writes (with_zeros 12) v

-- The form of a value ("numbers, Y/N, the shape of dates").
unfoldable pub formed : Kind → Bytes → Bool
formed (text n) v = true
formed (number a to b) v = is_number v
formed Y/N v = same v (fix "Y") || same v (fix "N")
formed time v = is_time v
formed day v = is_day v
formed decimal v = is_decimal v
formed (among l) v = true

-- The value ("ranges, lists, string length, calendar").
unfoldable pub allowed : Kind → Bytes → Bool
allowed (text n) v = within 1 n (length v)
allowed (number a to b) v = within a b (value v)
allowed Y/N v = true
allowed time v = good_day v && good_clock v
allowed day v = good_day v
allowed decimal v = in_range (whole_of v) (length (places_of v))
allowed (among l) v = any (λ w. same v w) l
