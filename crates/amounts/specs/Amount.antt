-- An amount and its text. "31 and 32 are decimals given as a whole number from 0 to 999,999,999,999,999 and 0 to 8 places: digits without leading
-- zero but a lone 0, then a point only if places follow ..; reading gives back both."
use Rattle.std.specs.Prelude.{ℕ, zero, suc, ◌/◌, ◌++◌, Result, Ok, Err}
use Rattle.octets.specs.Bytes.{Bytes, fix, decimal, padded}
use Rattle.decimals.specs.Decimal.{decimal_of}
use Rattle.decimals.specs.declared.Decimal.{Decimal}
use Rattle.fault.specs.declared.Fault.{Fault}

-- all digits, the point left out; and how many of them are places: 12.50 is 1250 and 2
pub record Amount : Type 0 where
  pub whole : ℕ
  pub places : ℕ

-- a number without its last k digits
abbrev pub without : ℕ → ℕ → ℕ
without zero w = w
without (suc k) w = without k (w / 10)

-- the text of a whole number with k places
abbrev pub pointing : ℕ → ℕ → Bytes
pointing w zero = decimal w
pointing w (suc k) = decimal (without (suc k) w) ++ (fix "." ++ padded (suc k) w)

unfoldable pub amount_text : Amount → Bytes
amount_text a = pointing a.whole a.places

-- "reading gives back both"; bytes that are no decimal give 0 and 0
abbrev pub given : Result Decimal Fault → Amount
given (Ok d) = record { whole = d.whole; places = d.places }
given (Err e) = record { whole = 0; places = 0 }

unfoldable pub amount_in : Bytes → Amount
amount_in v = given (decimal_of v)
