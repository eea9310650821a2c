-- What is found of a value (document 01): "9. bad form: 6 (numbers, Y/N, the shape of dates); 10. bad value: 5 (ranges, lists, string length, calendar)."
use Rattle.std.specs.Prelude.{ℕ, ◌≡◌, Result, Ok, Err}
use Rattle.fault.specs.declared.Fault.{Fault}
use Rattle.fault.specs.declared.Fault.TheVariants.{Value, Form}

abbrev pub number : Fault → ℕ
number Form = 6
number Value = 5

-- the same of a finding: 0 where there is nothing to find
abbrev pub reason : Result (Unit {0}) Fault → ℕ
reason (Ok u) = 0
reason (Err e) = number e

-- a judgement tells this number
abbrev pub Tells : Result (Unit {0}) Fault → ℕ → Type 0
Tells r n = reason r ≡ n
