-- Worked decimals, by computation.
use Rattle.std.proofs.Common.{ℕ, Result, Ok, Err}
use mathlib.Core.Path.{◌≡◌, refl}
use mathlib.Core.List.{List, [], ◌∷◌}
use Prim.Native.String.{String}
use Rattle.octets.specs.Bytes.{fix}
use Rattle.decimals.specs.Decimal.{is_decimal, decimal_of}
use Rattle.decimals.specs.declared.Decimal.{Decimal}
use Rattle.fault.specs.declared.Fault.{Fault}
use Rattle.fault.specs.declared.Fault.TheVariants.{Value, Form}

abbrev given : ℕ → ℕ → Result Decimal Fault
given w p = Ok (record { whole = w; places = p })

abbrev pub Told : List (String × Result Decimal Fault) → Type 0
Told [] = Unit {0}
Told (c ∷ l) = (decimal_of (fix c.0) ≡ c.1) × Told l

pub cases : Told (
    ("0", given 0 0) ∷ ("0.50", given 50 2) ∷ ("0.05", given 5 2) ∷ ("12.5", given 125 1) ∷ ("0.00000000", given 0 8) ∷
    ("999999999999999", given 999_999_999_999_999 0) ∷ ("9999999.99999999", given 999_999_999_999_999 8) ∷
    ("1000000000000000", Err Value) ∷ ("999999999999999.0", Err Value) ∷ ("0.000000000", Err Value) ∷
    ("", Err Form) ∷ ("1.", Err Form) ∷ (".5", Err Form) ∷ (".", Err Form) ∷ ("00", Err Form) ∷ ("01.5", Err Form) ∷ ("1.5.", Err Form) ∷ ("1,5", Err Form) ∷ ("-1", Err Form) ∷ ("1e3", Err Form) ∷ []
    )
unfolding decimal_of is_decimal
cases = (refl, (refl, (refl, (refl, (refl, (refl, (refl, (refl, (refl, (refl, (refl, (refl, (refl, (refl, (refl, (refl, (refl, (refl, (refl, (refl, tt))))))))))))))))))))
