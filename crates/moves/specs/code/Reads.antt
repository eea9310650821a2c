-- What the code's readings answer, with the bounds that their callers need. Only the code needs these: nothing here states document 01.
use Rattle.std.specs.Prelude.{ℕ, ◌≤◌, ◌≡◌, Option, Some, None, IfSome, Result, Ok, Err}
use Rattle.std.proofs.Math.Option as Math
use Rattle.octets.specs.Bytes.{Bytes}
use Rattle.fields.specs.Field.{first_field}
use Rattle.calendar.specs.Later.{read_time}
use Rattle.calendar.specs.declared.moments.Moment.{Moment}
use Rattle.moves.specs.Words.{◌otherwise◌}
use Rattle.moves.specs.Seen.{number_in}
use Rattle.moves.specs.declared.times.NoTime.{NoTime}
use Rattle.moves.specs.declared.times.NoTime.TheVariants.{Missing, Bad}

-- what the words find, as the code answers it
abbrev pub told : {A : Type 0} → Math.Option A → Option A
told Math.none = None
told (Math.some a) = Some a

-- r is the number of the first field t from `least` on, if there is one
pub record ReadIn (least t : ℕ) (body : Bytes) (r : Option ℕ) : Type 0 where
  pub is : r ≡ told (number_in least 999_999_999 (first_field t body))
  pub small : IfSome r (λ n. n ≤ 999_999_999)

-- and it, or 0
pub record NumberIn (least t : ℕ) (body : Bytes) (r : ℕ) : Type 0 where
  pub is : r ≡ (number_in least 999_999_999 (first_field t body) otherwise 0)
  pub small : r ≤ 999_999_999

-- the time of a field, or why there is none
abbrev pub time_by : Option Moment → Result Moment NoTime
time_by (Some a) = Ok a
time_by None = Err Bad

abbrev pub time_in : Math.Option Bytes → Result Moment NoTime
time_in Math.none = Err Missing
time_in (Math.some v) = time_by (read_time v)
