-- The date of a day: a day of the dictionary's calendar, which lies that many days behind 1 January 1970, and the only one that does.
use Prim.Native.Nat.{ℕ, ◌+◌, ◌-◌, ◌≤◌, ◌<◌}
use native.Mathlib.Omega.{arith}
use mathlib.Core.Path.{◌≡◌, refl, sym, ap, ◌∙◌, subst}
use Rattle.dates.specs.Date.{days}
use Rattle.calendar.specs.declared.days.Date.{Date}
use Rattle.calendar.specs.Time.{total, counted, year_days, date, in_year, date_of, days_since}
use Rattle.calendar.proofs.Counting.{lies, counted_at, total_below}
use Rattle.calendar.proofs.Months.{days-most}
use Rattle.calendar.proofs.Years.{since_1970}

-- a day of the calendar from 1970 to 9999
pub record Calendar (D : Date) : Type 0 where
  pub year_from : 1970 ≤ D.year
  pub year_to : D.year ≤ 9999
  pub month_from : 1 ≤ D.month
  pub month_to : D.month ≤ 12
  pub day_from : 1 ≤ D.day
  pub day_to : D.day ≤ days D.year D.month

-- the d-th day behind 1 January 1970
pub record Dated (d : ℕ) (D : Date) : Type 0 where
  pub good : Calendar D
  pub named : days_since D.year D.month D.day ≡ d

in_year_lem : (y d : ℕ) → 1970 ≤ y → y ≤ 9999 → d < year_days y → Dated (total year_days 1970 (y - 1970) + d) (in_year (y, d))
unfolding in_year year_days
in_year_lem y d h k s =
    let M = lies (days y) 1 12 (year_days y) d refl s in
    let e : counted (days y) 11 1 d ≡ (1 + M.span, M.day) = counted_at (days y) 11 1 M.span (1 + M.span) d M.day refl M.here (omega (arith, M.few)) M.short in
    subst (λ (m : ℕ × ℕ). Dated (total year_days 1970 (y - 1970) + d) (date y m)) (sym e)
    (record {
      good = record { year_from = h; year_to = k; month_from = omega arith; month_to = omega (arith, M.few); day_from = omega arith; day_to = omega (arith, M.short) };
      named = there M.span M.day M.here;
    })
  where
    there : (j r : ℕ) → total (days y) 1 j + r ≡ d → days_since y (1 + j) (r + 1) ≡ total year_days 1970 (y - 1970) + d
    there j r q =
        let e : 1 + j - 1 ≡ j = omega arith in
        let f : r + 1 - 1 ≡ r = omega arith in
        rw (e, f) (omega (arith, q))

pub date_is : (d : ℕ) → d < 2932897 → Dated d (date_of d)
unfolding date_of
date_is d h =
    let Y = lies year_days 1970 8030 2932897 d since_1970 h in
    let e : counted year_days 8029 1970 d ≡ (1970 + Y.span, Y.day) = counted_at year_days 8029 1970 Y.span (1970 + Y.span) d Y.day refl Y.here (omega (arith, Y.few)) Y.short in
    subst (λ (y : ℕ × ℕ). Dated d (in_year y)) (sym e) (there Y.span Y.day Y.few Y.here Y.short)
  where
    there : (j r : ℕ) → j < 8030 → total year_days 1970 j + r ≡ d → r < year_days (1970 + j) → Dated d (in_year (1970 + j, r))
    there j r l q s =
        let e : 1970 + j - 1970 ≡ j = omega arith in
        subst (λ (n : ℕ). Dated n (in_year (1970 + j, r))) (ap (λ (k : ℕ). total year_days 1970 k + r) e ∙ q) (in_year_lem (1970 + j) r (omega arith) (omega arith) s)

-- the numbers of its date are of four digits and of two
pub date_small : (d : ℕ) {D : Date} → d < 2932897 → D ≡ date_of d → (D.year ≤ 9999) × (D.month ≤ 12) × (D.day ≤ 31)
date_small d h e =
    let C = (date_is d h).good in
    subst (λ (D : Date). (D.year ≤ 9999) × (D.month ≤ 12) × (D.day ≤ 31)) (sym e)
    (C.year_to, C.month_to, omega (arith, C.day_to, days-most (date_of d).year (date_of d).month C.month_to))

-- what lies that many days behind 1 January 1970 is that date
pub month_day : (y m d : ℕ) → 1 ≤ m → d ≤ days y m → 1 ≤ d → d - 1 < days y (1 + (m - 1))
month_day y m d h k l = let e : 1 + (m - 1) ≡ m = omega arith in rw e (omega arith)

pub year_day : (y m d : ℕ) → 1 ≤ m → m ≤ 12 → 1 ≤ d → d ≤ days y m → total (days y) 1 (m - 1) + (d - 1) < year_days y
unfolding year_days
year_day y m d h k l n = total_below (days y) 1 (m - 1) 12 (year_days y) (d - 1) refl (omega arith) (month_day y m d h n l)

before_10000 : (y r : ℕ) → 1970 ≤ y → y ≤ 9999 → r < year_days y → total year_days 1970 (y - 1970) + r < 2932897
before_10000 y r h k s =
    let e : 1970 + (y - 1970) ≡ y = omega arith in
    total_below year_days 1970 (y - 1970) 8030 2932897 r since_1970 (omega arith) (rw e s)

pub date_below : (D : Date) → Calendar D → days_since D.year D.month D.day < 2932897
date_below D C =
    let s = year_day D.year D.month D.day C.month_from C.month_to C.day_from C.day_to in
    omega (arith, before_10000 D.year _ C.year_from C.year_to s)

pub date_only : (D : Date) → Calendar D → date_of (days_since D.year D.month D.day) ≡ D
unfolding date_of in_year
date_only D C =
    ap in_year (counted_at year_days 8029 1970 (y - 1970) y (days_since y m d) r (omega (arith, C.year_from)) (omega arith) (omega (arith, C.year_to)) (year_day y m d C.month_from C.month_to C.day_from C.day_to))
    ∙ ap (date y) (counted_at (days y) 11 1 (m - 1) m r (d - 1) (omega (arith, C.month_from)) refl (omega (arith, C.month_to)) (omega (arith, C.day_from, C.day_to)))
    ∙ ap (λ (n : ℕ). record { year = y; month = m; day = n }) ends
  where
    y : ℕ
    y = D.year

    m : ℕ
    m = D.month

    d : ℕ
    d = D.day

    r : ℕ
    r = total (days y) 1 (m - 1) + (d - 1)

    ends : d - 1 + 1 ≡ d
    ends = omega (arith, C.day_from)
