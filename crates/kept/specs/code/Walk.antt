-- What the walk over a place finds, part by part. Only the code needs these: nothing here states document 02.
use Rattle.std.specs.Prelude.{ℕ, ◌+◌, ◌-◌, ◌%◌, ◌≤◌, ◌<◌, ◌≡◌, ◌++◌, Bool, true, length, take, replicate, Option, Some}
use Rattle.octets.specs.Bytes.{Bytes, fix, sum, decimal, At}
use Rattle.frame.specs.Frame.{fixt, trailer}
use Rattle.calendar.specs.Time.{utc, limit}
use Rattle.message.specs.Message.{row}
use Rattle.report.specs.Values.{Values, own, takes}

-- b says whether
pub record Tells (A : Type 0) (b : Bool) : Type 0 where
  pub yes : b ≡ true → A
  pub no : A → b ≡ true

-- behind the length: 35, 49, 56 and the label of 34
abbrev pub heading : Bytes → Bytes → Bytes
heading us them = fix "|35=AE|49=" ++ (us ++ (fix "|56=" ++ (them ++ fix "|34=")))

-- behind the number: 52 and the own fields
abbrev pub filling : ℕ → Values → Bytes
filling time values = fix "|52=" ++ (utc time ++ (fix "|" ++ row (own values)))

-- the mark, and behind three digits the heading
pub record Headed (us them place : Bytes) : Type 0 where
  pub mark : At place 0 fixt.mark
  pub head : At place 16 (heading us them)

-- r is the length of a frame that fits a place, by the three digits of its body's, if they are worth one
pub record Ended (place : Bytes) (r : Option ℕ) : Type 0 where
  pub is : (n : ℕ) → r ≡ Some n → (124 ≤ n) × (n ≤ 512) × At place 13 (decimal (n - 24))
  pub only : (k : ℕ) → 100 ≤ k → k ≤ 488 → At place 13 (decimal k) → r ≡ Some (k + 24)

-- from a place on to the end: 52, the own fields, the trailer before n, zeros behind
pub record Filled (place : Bytes) (at n : ℕ) : Type 0 where
  pub values : Values
  pub time : ℕ
  pub taken : takes values ≡ true
  pub timed : time < limit
  pub size : at + length (filling time values) + 7 ≡ n
  pub fields : At place at (filling time values)
  pub summed : At place (n - 7) (trailer (sum (take (n - 7) place) % 256))
  pub zeros : At place n (replicate (length place - n) 0)
