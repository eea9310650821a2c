-- The order of times is that of our own clock: of two times that it can show, the later names the greater microsecond.
use Prim.Native.Nat.{ℕ, ◌+◌, ◌-◌, ◌*◌, ◌≤◌, ◌<◌}
use native.Mathlib.Omega.{arith}
use mathlib.Core.Path.{◌≡◌, refl, sym, ap, ap₂, ◌∙◌, subst}
use mathlib.Core.List.{List, [], ◌∷◌, append-nil}
use mathlib.Core.Bool.{Bool, true, false, false≢true}
use lib.ListN.{drop}
use borrow.Author.Tests.{lt-ltb, le-ltb}
use Rattle.octets.specs.Bytes.{Bytes, fix}
use Rattle.octets.specs.Tests.{◌<?◌}
use Rattle.octets.proofs.Tests.{both_true}
use Rattle.dates.specs.Date.{days}
use Rattle.calendar.specs.declared.days.Date.{Date}
use Rattle.calendar.specs.declared.moments.Moment.{Moment}
use Rattle.calendar.specs.Time.{total, year_days, days_since, utc, limit, microseconds}
use Rattle.calendar.specs.Later.{moment_of, parts, above, later}
use Rattle.calendar.specs.Promise.{OnOurClock, with_six}
use Rattle.calendar.proofs.Counting.{total_below}
use Rattle.calendar.proofs.Dates.{Calendar, month_day, year_day}
use Rattle.calendar.proofs.Times.{utc_formed, utc_allowed, utc_length, utc_year, utc_second, utc_names}
use Rattle.calendar.proofs.Named.{Taken, shaped, date_good, clock_good}
use Rattle.calendar.proofs.Order.{first_differs, greater, same_first, else_same}
use Rattle.calendar.proofs.Decimals.{Longer, any_six, longer-allowed, micros_are}

-- THE DAYS since 1970 are ordered as the dates are
module _ (D : Date) (C : Calendar D) (y m d : ℕ) where
  abbrev days_before : ℕ
  days_before = days_since D.year D.month D.day

  by_year : D.year < y → days_before < days_since y m d
  by_year h =
      let e : 1970 + (D.year - 1970) ≡ D.year = omega (arith, C.year_from) in
      let s = year_day D.year D.month D.day C.month_from C.month_to C.day_from C.day_to in
      omega (arith, total_below year_days 1970 (D.year - 1970) (y - 1970) _ (total (days D.year) 1 (D.month - 1) + (D.day - 1)) refl (omega (arith, C.year_from)) (rw e s))

  by_month : y ≡ D.year → D.month < m → days_before < days_since y m d
  by_month e h =
      let s = month_day D.year D.month D.day C.month_from C.day_to C.day_from in
      rw e (omega (arith, total_below (days D.year) 1 (D.month - 1) (m - 1) _ _ refl (omega (arith, C.month_from)) s))

  by_day : y ≡ D.year → m ≡ D.month → D.day < d → days_before < days_since y m d
  by_day e f h = rw (e, f) (omega (arith, C.day_from))

  same_day : y ≡ D.year → m ≡ D.month → d ≡ D.day → days_since y m d ≡ days_before
  same_day e f g = rw (e, f, g)

  days_above : (k l : List ℕ) → above (y ∷ m ∷ d ∷ k) (D.year ∷ D.month ∷ D.day ∷ l) ≡ true → above (days_since y m d ∷ k) (days_before ∷ l) ≡ true
  days_above k l =
      first_differs y D.year (m ∷ d ∷ k) (D.month ∷ D.day ∷ l) (λ h. greater _ _ k l (by_year h))
      (λ e. first_differs m D.month (d ∷ k) (D.day ∷ l) (λ h. greater _ _ k l (by_month e h))
      (λ f. first_differs d D.day k l (λ h. greater _ _ k l (by_day e f h)) (λ g. same_first _ _ k l (same_day e f g))))

-- THE MICROSECOND of a day and a time of day
abbrev microsecond : ℕ → ℕ → ℕ → ℕ → ℕ → ℕ
microsecond d h i s u = (d * 86400 + (h * 3600 + i * 60 + s)) * 1000000 + u

microsecond-above : (d h i s u d' h' i' s' u' : ℕ) → h' ≤ 23 → i' ≤ 59 → s' ≤ 59 → u' < 1000000
    → above (d ∷ h ∷ i ∷ s ∷ u ∷ []) (d' ∷ h' ∷ i' ∷ s' ∷ u' ∷ []) ≡ true → microsecond d' h' i' s' u' < microsecond d h i s u
microsecond-above d h i s u d' h' i' s' u' H I S U =
    first_differs d d' (h ∷ i ∷ s ∷ u ∷ []) (h' ∷ i' ∷ s' ∷ u' ∷ []) (λ k. omega arith)
    (λ e. first_differs h h' (i ∷ s ∷ u ∷ []) (i' ∷ s' ∷ u' ∷ []) (λ k. omega arith)
    (λ f. first_differs i i' (s ∷ u ∷ []) (s' ∷ u' ∷ []) (λ k. omega arith)
    (λ g. first_differs s s' (u ∷ []) (u' ∷ []) (λ k. omega arith)
    (λ m. first_differs u u' [] [] (λ k. omega arith) (λ n q. absurd (false≢true q))))))

-- A MOMENT that our clock can show
abbrev date_part : Moment → Date
date_part a = record { year = a.year; month = a.month; day = a.day }

record Shown (a : Moment) : Type 0 where
  date : Calendar (date_part a)
  hours : a.hour ≤ 23
  minutes : a.minute ≤ 59
  seconds : a.second ≤ 59
  micros : a.micros < 1000000

abbrev microsecond_of : Moment → ℕ
microsecond_of a = microsecond (days_since a.year a.month a.day) a.hour a.minute a.second a.micros

later_more : (a b : Moment) → Shown b → later a b ≡ true → microsecond_of b < microsecond_of a
unfolding later
later_more a b B p =
    microsecond-above _ a.hour a.minute a.second a.micros _ b.hour b.minute b.second b.micros B.hours B.minutes B.seconds B.micros
    (days_above (date_part b) B.date a.year a.month a.day (drop 3 (parts a)) (drop 3 (parts b)) p)

-- and the other way round, since of two moments one is later or they are the same
later_is : (a b : Moment) → Shown a → Shown b → later a b ≡ microsecond_of b <? microsecond_of a
later_is a b A B = go (later a b) (later b a) refl refl
  where
    go : (s t : Bool) → later a b ≡ s → later b a ≡ t → s ≡ microsecond_of b <? microsecond_of a
    go true t p q = sym (lt-ltb (microsecond_of b) (microsecond_of a) (later_more a b B p))
    go false true p q = let h = later_more b a A q in sym (le-ltb (microsecond_of b) (microsecond_of a) (omega arith))
    go false false p q = let e = ap microsecond_of (else_same a b p q) in sym (le-ltb (microsecond_of b) (microsecond_of a) (omega arith))

-- A TIME that our clock can show
module _ (v : Bytes) (O : OnOurClock v) where
  abbrev longer : Longer (fix "YYYYMMDD-HH:MM:SS.ssssss") v (with_six v)
  longer = any_six v O.readable

  taken : Taken (with_six v)
  unfolding moment_of
  taken =
      record {
        shape = longer.shape;
        value = longer-allowed longer O.readable;
        year = subst (λ (a : Moment). 1970 ≤ a.year) (sym longer.moment) O.year;
        second = subst (λ (a : Moment). a.second ≤ 59) (sym longer.moment) O.second;
      }

  shown : Shown (moment_of v)
  unfolding moment_of
  shown =
      subst Shown longer.moment
      (record {
        date = date_good (with_six v) taken;
        hours = (clock_good (with_six v) taken).hours;
        minutes = (clock_good (with_six v) taken).minutes;
        seconds = taken.second;
        micros = rw (micros_are (with_six v) longer.shape) (shaped (with_six v) longer.shape).small;
      })

  shown_at : microsecond_of (moment_of v) ≡ microseconds (with_six v)
  unfolding moment_of microseconds
  shown_at = sym (ap microsecond_of longer.moment) ∙ rw (micros_are (with_six v) longer.shape)

pub as_counted : (v w : Bytes) → OnOurClock v → OnOurClock w → later (moment_of v) (moment_of w) ≡ microseconds (with_six w) <? microseconds (with_six v)
as_counted v w O P = later_is (moment_of v) (moment_of w) (shown v O) (shown w P) ∙ ap₂ (λ (m n : ℕ). m <? n) (shown_at w P) (shown_at v O)

-- and one that it writes
module _ (t : ℕ) (h : t < limit) where
  written_on : OnOurClock (utc t)
  written_on = record { readable = both_true _ _ (utc_formed t) (utc_allowed t h); year = utc_year t h; second = utc_second t h }

  written_names : microseconds (with_six (utc t)) ≡ t
  written_names = rw (utc_length t, append-nil (utc t)) (utc_names t h)

pub as_written : (t u : ℕ) → t < limit → u < limit → later (moment_of (utc t)) (moment_of (utc u)) ≡ u <? t
as_written t u h k = as_counted (utc t) (utc u) (written_on t h) (written_on u k) ∙ ap₂ (λ (m n : ℕ). m <? n) (written_names u k) (written_names t h)
