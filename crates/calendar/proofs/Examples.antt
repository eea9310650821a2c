-- Worked times, both ways: the desk's, and those at the edges of the calendar.
use Prim.Native.Nat.{ℕ}
use Prim.Native.String.{String}
use mathlib.Core.Path.{◌≡◌, refl}
use Rattle.octets.specs.Bytes.{fix}
use Rattle.calendar.specs.Time.{year_days, in_year, date_of, utc, microseconds}

infix 20 ◌writes◌
abbrev ◌writes◌ : ℕ → String → Type 0
◌writes◌ t s = (utc t ≡ fix s) × (microseconds (fix s) ≡ t)

pub desk : 1_704_187_800_000_000 writes "20240102-09:30:00.000000"
unfolding year_days in_year date_of utc microseconds
desk = (refl, refl)

pub first : 0 writes "19700101-00:00:00.000000"
unfolding year_days in_year date_of utc microseconds
first = (refl, refl)

pub leap_day : 1_709_164_800_000_001 writes "20240229-00:00:00.000001"
unfolding year_days in_year date_of utc microseconds
leap_day = (refl, refl)

pub leap_century : 951_782_400_000_000 writes "20000229-00:00:00.000000"
unfolding year_days in_year date_of utc microseconds
leap_century = (refl, refl)

pub century : 4_107_542_400_000_000 writes "21000301-00:00:00.000000"
unfolding year_days in_year date_of utc microseconds
century = (refl, refl)

pub last : 253_402_300_799_999_999 writes "99991231-23:59:59.999999"
unfolding year_days in_year date_of utc microseconds
last = (refl, refl)
