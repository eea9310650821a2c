-- Years: how many days each has, how many lie before it from 0001 on, and the year that divisions by 400, 100, 4 and 1 years find.
use Prim.Native.Nat.{ℕ, zero, suc, ◌+◌, ◌-◌, ◌*◌, ◌/◌, ◌%◌, ◌≤◌, ◌<◌}
use native.Mathlib.Nat.{div-add-mod', div-eq_of_lt-le, mod-lt, add-mul, one-mul, zero-mul, suc-mul, div-le_self}
use native.Mathlib.Omega.{arith}
use mathlib.Core.Path.{◌≡◌, refl, sym, ap, ◌∙◌}
use mathlib.Core.Bool.{Bool, true, false, cond, not, ◌&&◌, ◌||◌}
use lib.Dec.{eqb}
use borrow.Author.Tests.{eqb-true, eqb-false, eq-eqb, ne_eqb}
use Rattle.dates.specs.Date.{leap}
use Rattle.dates.proofs.Months.{leap_is}
use Rattle.calendar.specs.Time.{total, year_days, in_year, date_of}
use Rattle.calendar.specs.code.Walk.{InYear, Split}
use Rattle.calendar.proofs.Counting.{total_behind, total_inside, counted_behind}

pub year_days_lem : (y : ℕ) → year_days y ≡ cond (leap y) 366 365
unfolding year_days
year_days_lem y = go (leap y)
  where
    go : (b : Bool) → 0 + 31 + cond b 29 28 + 31 + 30 + 31 + 30 + 31 + 31 + 30 + 31 + 30 + 31 ≡ cond b 366 365
    go true = refl
    go false = refl

pub year_most : (y : ℕ) → year_days y ≤ 366
year_most y = rw (year_days_lem y) (go (leap y))
  where
    go : (b : Bool) → cond b 366 365 ≤ 366
    go true = omega arith
    go false = omega arith

-- THE DAYS BEFORE A YEAR, q years behind 0001
abbrev days_of_first : ℕ → ℕ
days_of_first q = 365 * q + q / 4 - q / 100 + q / 400

-- the quotient of the year behind q by a divisor n: it grows where n divides the year
module _ (n q : ℕ) (p : 0 < n) where
  off : (suc q % n ≡ 0 → ⊥) → suc q / n ≡ q / n + 0
  off h = go (suc q / n) (suc q % n) (div-add-mod' (suc q) n) (mod-lt (suc q) p) h
    where
      go : (x r : ℕ) → x * n + r ≡ suc q → r < n → (r ≡ 0 → ⊥) → x ≡ q / n + 0
      go x r e l k = let d : q / n ≡ x = div-eq_of_lt-le n (omega arith) (rw (add-mul x 1 n, one-mul n) (omega arith)) in omega arith

  on : suc q % n ≡ 0 → suc q / n ≡ q / n + 1
  on h = go (suc q / n) (omega (arith, div-add-mod' (suc q) n))
    where
      go : (x : ℕ) → x * n ≡ suc q → x ≡ q / n + 1
      go zero e = absurd (omega (arith, zero-mul n))
      go (suc x) e =
          let m : suc x * n ≡ x * n + n = suc-mul x n in
          let d : q / n ≡ x = div-eq_of_lt-le n (omega arith) (rw (add-mul x 1 n, one-mul n) (omega arith)) in
          omega arith

-- one year more, with the days of the year that its quotients make
turn : (q x w z i j k n : ℕ) → w ≤ q → j ≤ 1 → 365 + i + k ≡ n + j → 365 * suc q + (x + i) - (w + j) + (z + k) ≡ 365 * q + x - w + z + n
turn q x w z i j k n h l e = omega arith

first_more : (q : ℕ) → days_of_first (suc q) ≡ days_of_first q + year_days (suc q)
first_more q = rw (year_days_lem (suc q), leap_is (suc q)) (go (eqb (suc q % 400) 0) (eqb (suc q % 100) 0) (eqb (suc q % 4) 0) refl refl refl)
  where
    add : (i j k n : ℕ) → suc q / 4 ≡ q / 4 + i → suc q / 100 ≡ q / 100 + j → suc q / 400 ≡ q / 400 + k → j ≤ 1 → 365 + i + k ≡ n + j
        → days_of_first (suc q) ≡ days_of_first q + n
    add i j k n x w z h e = rw (x, w, z) (turn q (q / 4) (q / 100) (q / 400) i j k n (div-le_self q 100) h e)

    go : (a b c : Bool) → eqb (suc q % 400) 0 ≡ a → eqb (suc q % 100) 0 ≡ b → eqb (suc q % 4) 0 ≡ c
        → days_of_first (suc q) ≡ days_of_first q + cond (a || (not b && c)) 366 365
    go true b c p r s = let h = eqb-true _ _ p in add 1 1 1 366 (on 4 q (omega arith) (omega arith)) (on 100 q (omega arith) (omega arith)) (on 400 q (omega arith) h) (omega arith) refl
    go false true c p r s = let h = eqb-true _ _ r in add 1 1 0 365 (on 4 q (omega arith) (omega arith)) (on 100 q (omega arith) h) (off 400 q (omega arith) (eqb-false _ _ p)) (omega arith) refl
    go false false true p r s = add 1 0 0 366 (on 4 q (omega arith) (eqb-true _ _ s)) (off 100 q (omega arith) (eqb-false _ _ r)) (off 400 q (omega arith) (eqb-false _ _ p)) (omega arith) refl
    go false false false p r s = add 0 0 0 365 (off 4 q (omega arith) (eqb-false _ _ s)) (off 100 q (omega arith) (eqb-false _ _ r)) (off 400 q (omega arith) (eqb-false _ _ p)) (omega arith) refl

first_is : (q : ℕ) → total year_days 1 q ≡ days_of_first q
first_is zero = refl
first_is (suc q) =
    let e : 1 + q ≡ suc q = omega arith in
    rw (e, first_is q) (sym (first_more q))

-- THE YEAR OF A DAY
before_1970 : total year_days 1 1969 ≡ 719162
before_1970 = first_is 1969

to_9999 : total year_days 1 9999 ≡ 3652059
to_9999 = first_is 9999

pub since_1970 : total year_days 1970 8030 ≡ 2932897
since_1970 = total_behind year_days 1 1969 8030 719162 2932897 before_1970 to_9999

-- the last of four years has 366 days, but for a century that is not the last of four
by_400 : (y : ℕ) → y % 400 ≡ 0 → leap y ≡ true
by_400 y h = rw (leap_is y, eq-eqb (y % 400) 0 h)

by_4 : (y : ℕ) → y % 4 ≡ 0 → (y % 100 ≡ 0 → ⊥) → leap y ≡ true
by_4 y h n = rw (eq-eqb (y % 4) 0 h, ne_eqb (y % 100) 0 n)

leap_last : (a b c e : ℕ) → e ≡ 3 → b ≤ 3 → c ≤ 24 → (c ≡ 24 → b ≡ 3) → leap (400 * a + 100 * b + 4 * c + e + 1) ≡ true
leap_last a b c e q h l k = go (eqb c 24) refl
  where
    y : ℕ
    y = 400 * a + 100 * b + 4 * c + e + 1

    four : y % 4 ≡ 0
    four = omega (arith, q)

    not_century : (c ≡ 24 → ⊥) → y % 100 ≡ 0 → ⊥
    not_century n z =
        let d : y / 100 ≡ 4 * a + b = omega (arith, q, l) in
        let m : y % 100 ≡ 4 * c + 4 = omega (arith, q, l) in
        omega (arith, m, z)

    four_hundred : c ≡ 24 → b ≡ 3 → y % 400 ≡ 0
    four_hundred n m = omega (arith, q)

    go : (t : Bool) → eqb c 24 ≡ t → leap y ≡ true
    go true t = let n = eqb-true c 24 t in by_400 y (four_hundred n (k n))
    go false t = by_4 y four (not_century (eqb-false c 24 t))

-- the days of 400 a + 100 b + 4 c + e years
first_split : (a b c e : ℕ) → b ≤ 3 → c ≤ 24 → e ≤ 3 → days_of_first (400 * a + 100 * b + 4 * c + e) ≡ 146097 * a + 36524 * b + 1461 * c + 365 * e
first_split a b c e h k l =
    let x : (400 * a + 100 * b + 4 * c + e) / 4 ≡ 100 * a + 25 * b + c = omega arith in
    let y : (400 * a + 100 * b + 4 * c + e) / 100 ≡ 4 * a + b = omega arith in
    let z : (400 * a + 100 * b + 4 * c + e) / 400 ≡ a = omega arith in
    rw (x, y, z) (sums a b c e)
  where
    sums : (a b c e : ℕ) → 365 * (400 * a + 100 * b + 4 * c + e) + (100 * a + 25 * b + c) - (4 * a + b) + a ≡ 146097 * a + 36524 * b + 1461 * c + 365 * e
    sums a b c e = omega arith

-- a day short enough for the year behind a years of 400, b centuries, c times four years and e years
module _ (a b c e n r : ℕ) (B : n < 36524 + b / 3) (b3 : b ≤ 3) (E : r < 365 + e / 3) (e3 : e ≤ 3) (N : 1461 * c + (365 * e + r) ≡ n) where
  few_fours : c ≤ 24
  few_fours = omega arith

  last_day : r ≡ 365 → leap (400 * a + 100 * b + 4 * c + e + 1) ≡ true
  last_day h = leap_last a b c e (omega arith) b3 few_fours (λ k. omega arith)

  short_enough : r < year_days (400 * a + 100 * b + 4 * c + e + 1)
  short_enough = rw (year_days_lem (400 * a + 100 * b + 4 * c + e + 1)) (go (eqb r 365) refl)
    where
      y : ℕ
      y = 400 * a + 100 * b + 4 * c + e + 1

      least : (l : Bool) → 365 ≤ cond l 366 365
      least true = omega arith
      least false = omega arith

      go : (t : Bool) → eqb r 365 ≡ t → r < cond (leap y) 366 365
      go true t = let k = eqb-true r 365 t in rw (last_day k) (omega arith)
      go false t = let k = eqb-false r 365 t in omega (arith, least (leap y))

-- the year behind q years
year_place : (q r d : ℕ) → d < 3652059 → total year_days 1 q + r ≡ d → r < year_days (q + 1) → InYear d (q + 1) r
year_place q r d h e s =
    let k : q < 9999 = total_inside year_days 1 q 9999 3652059 r to_9999 (rw e h) in
    let o : q + 1 - 1 ≡ q = omega arith in
    record { some = omega arith; last = omega arith; here = rw o e; short = s }

pub year_found : (d b n e r : ℕ) → d < 3652059 → Split 36524 (d % 146097) b n → Split 365 (n % 1461) e r
    → InYear d (400 * (d / 146097) + 100 * b + 4 * (n / 1461) + e + 1) r
year_found d b n e r h B E =
    let N : 1461 * (n / 1461) + (365 * e + r) ≡ n = omega (arith, E.whole) in
    let c : n / 1461 ≤ 24 = few_fours (d / 146097) b (n / 1461) e n r B.short B.few E.short E.few N in
    year_place (400 * (d / 146097) + 100 * b + 4 * (n / 1461) + e) r d h
    (ap (λ (k : ℕ). k + r) (first_is _ ∙ first_split (d / 146097) b (n / 1461) e B.few c E.few) ∙ sums (d / 146097) b (n / 1461) e n (d % 146097) (div d) B.whole N)
    (short_enough (d / 146097) b (n / 1461) e n r B.short B.few E.short E.few N)
  where
    div : (d : ℕ) → 146097 * (d / 146097) + d % 146097 ≡ d
    div d = omega arith

    sums : (a b c e n m : ℕ) → 146097 * a + m ≡ d → 36524 * b + n ≡ m → 1461 * c + (365 * e + r) ≡ n → 146097 * a + 36524 * b + 1461 * c + 365 * e + r ≡ d
    sums a b c e n m x y z = omega arith

-- the sums that the year is made of are small
pub year_fits : (d b n e : ℕ) → d < 3652059 → b ≤ 3 → n < 36524 + b / 3 → e ≤ 3 → 400 * (d / 146097) + 100 * b + 4 * (n / 1461) + e + 1 ≤ 20000
year_fits d b n e h k l m =
    let x : d / 146097 ≤ 24 = omega arith in
    let y : n / 1461 ≤ 24 = omega arith in
    sums (d / 146097) (n / 1461) x y
  where
    sums : (a c : ℕ) → a ≤ 24 → c ≤ 24 → 400 * a + 100 * b + 4 * c + e + 1 ≤ 20000
    sums a c x y = omega (arith, k, m)

-- the day d behind 1 January 1970 has the year of the day that lies 719,162 days further behind 1 January 0001
pub date-found : (d y n : ℕ) → InYear (d + 719162) y n → in_year (y, n) ≡ date_of d
unfolding date_of
date-found d y n h =
    ap in_year (sym (counted_behind year_days 1969 8029 1 (y - 1) y 719162 d n before_1970 (omega (arith, h.some)) h.here (omega (arith, h.last)) h.short))
