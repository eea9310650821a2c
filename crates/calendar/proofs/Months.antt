-- Months: the month and its day that one division finds, by one computed test over the days of a leap year and of another.
use Prim.Native.Nat.{ℕ, ◌+◌, ◌-◌, ◌*◌, ◌/◌, ◌≤◌, ◌<◌}
use native.Mathlib.Omega.{arith}
use mathlib.Core.Path.{◌≡◌, refl, sym, ap₂, subst}
use mathlib.Core.List.{[], ◌∷◌}
use mathlib.Core.Bool.{Bool, true, false, cond, ◌&&◌}
use lib.Dec.{eqb, leb}
use lib.ListN.{get_or}
use borrow.Author.Tests.{eqb-true, leb-true}
use Rattle.octets.proofs.Tests.{both, all_below, at_below}
use Rattle.dates.specs.Date.{leap, days}
use Rattle.calendar.specs.Time.{counted, year_days, in_year}
use Rattle.calendar.specs.code.Walk.{evened}
use Rattle.calendar.proofs.Years.{year_days_lem}

-- the month, from 0 on, and the day of the month, of the evened day e
abbrev pub month_at : ℕ → ℕ
month_at e = (12 * e + 6) / 367

abbrev pub day_at : ℕ → ℕ
day_at e = e + 1 - (367 * month_at e + 5) / 12

-- the days of the months where b says if the year is a leap year
abbrev months : Bool → ℕ → ℕ
months b m = get_or (0 ∷ 31 ∷ cond b 29 28 ∷ 31 ∷ 30 ∷ 31 ∷ 30 ∷ 31 ∷ 31 ∷ 30 ∷ 31 ∷ 30 ∷ 31 ∷ []) m 0

-- no month has more than 31 days
few_days : (b : Bool) → all_below 13 (λ m. leb (months b m) 31) ≡ true
few_days true = refl
few_days false = refl

pub days-most : (y m : ℕ) → m ≤ 12 → days y m ≤ 31
days-most y m h = leb-true (days y m) 31 (at_below 13 (λ k. leb (months (leap y) k) 31) (few_days (leap y)) m (omega arith))

right : Bool → ℕ → Bool
right b d = eqb (counted (months b) 11 1 d).0 (month_at (evened d b) + 1) && eqb ((counted (months b) 11 1 d).1 + 1) (day_at (evened d b))

all_right : (b : Bool) → all_below (cond b 366 365) (right b) ≡ true
unfolding right evened
all_right true = refl
all_right false = refl

pub month_found : (y d e : ℕ) → d < year_days y → e ≡ evened d (leap y) → record { year = y; month = month_at e + 1; day = day_at e } ≡ in_year (y, d)
unfolding right in_year
month_found y d e h q =
    let t = at_below (cond (leap y) 366 365) (right (leap y)) (all_right (leap y)) d (subst (λ (n : ℕ). d < n) (year_days_lem y) h) in
    let w = both (eqb (counted (months (leap y)) 11 1 d).0 (month_at (evened d (leap y)) + 1)) _ t in
    rw q (ap₂ (λ (m n : ℕ). record { year = y; month = m; day = n }) (sym (eqb-true _ _ w.0)) (sym (eqb-true _ _ w.1)))
