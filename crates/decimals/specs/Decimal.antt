-- "31 and 32 are decimals given as a whole number from 0 to 999,999,999,999,999 and 0 to 8 places: digits without leading zero but a lone 0, then a
-- point only if places follow (else 6; out of range 5); reading gives back both."
use Rattle.std.specs.Prelude.{ℕ, [], ◌∷◌, ◌++◌, Bool, true, cond, not, ◌&&◌, ◌||◌, eqb, length, drop, Result, Ok, Err}
use Rattle.octets.specs.Bytes.{Bytes, byte, fix, all, starts, within, digit, value}
use Rattle.decimals.specs.declared.Decimal.{Decimal}
use Rattle.fault.specs.declared.Fault.{Fault}
use Rattle.fault.specs.declared.Fault.TheVariants.{Value, Form}

-- the digits that it begins with, and what stands behind them
abbrev pub leading : Bytes → Bytes
leading [] = []
leading (x ∷ l) = cond (digit x) (x ∷ leading l) []

abbrev pub trailing : Bytes → Bytes
trailing [] = []
trailing (x ∷ l) = cond (digit x) (trailing l) (x ∷ l)

-- "digits without leading zero but a lone 0"
abbrev pub plain : Bytes → Bool
plain w = not (eqb (length w) 0) && (not (starts (fix "0") w) || eqb (length w) 1)

-- "then a point only if places follow"
abbrev pub pointed : Bytes → Bool
pointed [] = true
pointed (x ∷ l) = eqb x (byte ".") && (not (eqb (length l) 0) && all digit l)

unfoldable pub is_decimal : Bytes → Bool
is_decimal v = plain (leading v) && pointed (trailing v)

-- the whole number: all digits, the point left out; and how many of them are places
abbrev pub places_of : Bytes → Bytes
places_of v = drop 1 (trailing v)

abbrev pub whole_of : Bytes → ℕ
whole_of v = value (leading v ++ places_of v)

-- "a whole number from 0 to 999,999,999,999,999 and 0 to 8 places"
abbrev pub in_range : ℕ → ℕ → Bool
in_range whole places = within 0 999_999_999_999_999 whole && within 0 8 places

-- "(else 6; out of range 5); reading gives back both"
abbrev pub ranged_of : ℕ → ℕ → Result Decimal Fault
ranged_of whole places = cond (in_range whole places) (Ok (record { whole = whole; places = places })) (Err Value)

unfoldable pub decimal_of : Bytes → Result Decimal Fault
decimal_of v = cond (is_decimal v) (ranged_of (whole_of v) (length (places_of v))) (Err Form)
