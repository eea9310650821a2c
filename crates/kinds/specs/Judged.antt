-- Which words the code's enums stand for, and the finding on a value: "9. bad form: 6; 10. bad value: 5".
use Rattle.std.specs.Prelude.{ℕ, List, [], ◌∷◌, cond, Option, Some, None}
use Rattle.octets.specs.Bytes.{Bytes, fix, value}
use Rattle.dates.specs.Date.{found}
use Rattle.kinds.specs.Kind as Words
use Rattle.kinds.specs.Kind.{text, number◌to◌, Y/N, time, day, decimal, among, formed, allowed, is_number}
use Rattle.kinds.specs.declared.Kind.{Kind}
use Rattle.kinds.specs.declared.Kind.TheVariants.{Text, Flag, Time, Day, Decimal, OneOf}
use Rattle.kinds.specs.declared.Kind.TheVariants as Was
use Rattle.kinds.specs.declared.Choice.{Choice}
use Rattle.kinds.specs.declared.Choice.TheVariants.{Zero, Eight, Nine, D, OneOrTwo, ZeroOr54, ZeroOr54Or99, Matches, Roles}

abbrev pub choices : Choice → List Bytes
choices Zero = fix "0" ∷ []
choices Eight = fix "8" ∷ []
choices Nine = fix "9" ∷ []
choices D = fix "D" ∷ []
choices OneOrTwo = fix "1" ∷ fix "2" ∷ []
choices ZeroOr54 = fix "0" ∷ fix "54" ∷ []
choices ZeroOr54Or99 = fix "0" ∷ fix "54" ∷ fix "99" ∷ []
choices Matches = fix "2" ∷ fix "4" ∷ fix "7" ∷ fix "22" ∷ []
choices Roles = fix "1" ∷ fix "3" ∷ fix "12" ∷ fix "17" ∷ fix "76" ∷ []

abbrev pub meaning : Kind → Words.Kind
meaning (Text n) = text n
meaning (Was.Number a b) = number a to b
meaning Flag = Y/N
meaning Time = time
meaning Day = day
meaning Decimal = decimal
meaning (OneOf c) = among (choices c)

-- the number that the bytes write, where they are one
unfoldable pub number_of : Bytes → Option ℕ
number_of v = cond (is_number v) (Some (value v)) None

-- 6, 5, or 0 where there is nothing to find
unfoldable pub judged : Words.Kind → Bytes → ℕ
judged k v = found (formed k v) (allowed k v)
