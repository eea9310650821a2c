-- The days of a month: February by the leap year, the others by one computed test over the twelve.
use Rattle.std.proofs.Common.{◌≡◌, ℕ, ◌%◌, ◌≤◌, Bool, true, false, cond, not, ◌&&◌, ◌||◌, eqb, [], ◌∷◌, get_or, refl, arith, ne_eqb, eqb-true}
use Rattle.octets.proofs.Tests.{all_below, at_below}
use Rattle.dates.specs.Date.{leap, days}

abbrev short : ℕ → Bool
short m = eqb m 4 || (eqb m 6 || (eqb m 9 || eqb m 11))

abbrev listed : Bool → ℕ → ℕ
listed b m = get_or (0 ∷ 31 ∷ cond b 29 28 ∷ 31 ∷ 30 ∷ 31 ∷ 30 ∷ 31 ∷ 31 ∷ 30 ∷ 31 ∷ 30 ∷ 31 ∷ []) m 0

right : Bool → ℕ → Bool
right b m = eqb m 0 || (eqb m 2 || eqb (listed b m) (cond (short m) 30 31))

all_right : (b : Bool) → all_below 13 (right b) ≡ true
unfolding right
all_right true = refl
all_right false = refl

-- a month other than February
pub month_days : (y m : ℕ) → 1 ≤ m → m ≤ 12 → (m ≡ 2 → ⊥) → days y m ≡ cond (short m) 30 31
unfolding right
month_days y m h k n =
    eqb-true (days y m) (cond (short m) 30 31)
    (rw (ne_eqb m 0 (λ e. omega arith), ne_eqb m 2 n) at (at_below 13 (right (leap y)) (all_right (leap y)) m (omega arith)))

-- the leap year, tested from the greatest number on
pub leap_is : (y : ℕ) → leap y ≡ (eqb (y % 400) 0 || (not (eqb (y % 100) 0) && eqb (y % 4) 0))
leap_is y = go (eqb (y % 400) 0) (eqb (y % 100) 0) (eqb (y % 4) 0)
  where
    go : (a b c : Bool) → ((c && not b) || a) ≡ (a || (not b && c))
    go true true true = refl
    go true true false = refl
    go true false true = refl
    go true false false = refl
    go false true true = refl
    go false true false = refl
    go false false true = refl
    go false false false = refl
