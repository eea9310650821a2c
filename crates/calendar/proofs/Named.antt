-- The other way round: a time with six decimals that the dictionary takes, from the year 1970 on and with no second 60, is what is written for
-- the microsecond that it names.
use Prim.Native.Nat.{ℕ, ◌+◌, ◌*◌, ◌/◌, ◌%◌, ◌^◌, ◌≤◌, ◌<◌}
use native.Mathlib.Omega.{arith}
use mathlib.Core.Path.{◌≡◌, refl, sym, ap, ◌∙◌, subst}
use mathlib.Core.List.{[], ◌∷◌, ◌++◌}
use mathlib.Core.Bool.{true, false, cond, ◌&&◌, false≢true}
use lib.Dec.{eqb, leb}
use lib.ListN.{length, take, drop, take-append-drop}
use lib.Seq.{drop-drop}
use borrow.Author.Tests.{eqb-true}
use Rattle.octets.specs.Bytes.{Bytes, fix, all, digit, within, value, padded}
use Rattle.octets.proofs.Numerals.{within_is}
use Rattle.octets.proofs.Tests.{both}
use Rattle.octets.proofs.Numerals.{value_below}
use Rattle.dates.specs.Date.{like, good_day, good_clock, days, number_at}
use Rattle.kinds.specs.Kind.{time, allowed}
use Rattle.dates.proofs.Shapes.{like-append, like_letters}
use Rattle.calendar.specs.declared.days.Date.{Date}
use Rattle.calendar.specs.Time.{date_of, text, utc, limit, day_named, second_named, microseconds}
use Rattle.calendar.proofs.Dates.{Calendar, date_only, date_below}
use Rattle.calendar.proofs.Texts.{padded_only}

-- THE SHAPE, from place i on: n bytes w, and then the shape t
record Follows (v : Bytes) (i n : ℕ) (w t : Bytes) : Type 0 where
  here : drop i v ≡ w ++ drop (i + n) v
  rest : like t (drop (i + n) v) ≡ true

-- a run of digits
record Run (v : Bytes) (i n : ℕ) (t : Bytes) : Type 0 where
  follows : Follows v i n (padded n (number_at i n v)) t
  small : number_at i n v < 10 ^ n

module _ (v : Bytes) (i : ℕ) where
  next : (n : ℕ) (w t l : Bytes) → l ≡ drop i v → l ≡ w ++ drop n l → like t (drop n l) ≡ true → Follows v i n w t
  next n w t l e p q =
      let d : drop n l ≡ drop (i + n) v = ap (drop n) e ∙ drop-drop n i v in
      record { here = sym e ∙ p ∙ ap (λ (r : Bytes). w ++ r) d; rest = subst (λ (r : Bytes). like t r ≡ true) d q }

  run : (s t : Bytes) → all (leb 65) s ≡ true → like (s ++ t) (drop i v) ≡ true → Run v i (length s) t
  run s t a h =
      let x = take (length s) (drop i v) in
      let w = both (like s x) (like t (drop (length s) (drop i v))) (sym (like-append s t (drop i v)) ∙ h) in
      let k = both (eqb (length x) (length s)) (all digit x) (sym (like_letters s x a) ∙ w.0) in
      let n : length x ≡ length s = eqb-true (length x) (length s) k.0 in
      let p : x ≡ padded (length s) (value x) = sym (subst (λ (j : ℕ). padded j (value x) ≡ x) n (padded_only x k.1)) in
      record {
        follows = next (length s) (padded (length s) (value x)) t (drop i v) refl
            (sym (take-append-drop (length s) (drop i v)) ∙ ap (λ (y : Bytes). y ++ drop (length s) (drop i v)) p) w.1;
        small = value_below (length s) x k.1 (omega arith);
      }

  -- a sign
  sign : (c : ℕ) (t : Bytes) → leb 65 c ≡ false → like (c ∷ t) (drop i v) ≡ true → Follows v i 1 (c ∷ []) t
  sign c t a h = go (drop i v) refl h
    where
      go : (l : Bytes) → l ≡ drop i v → like (c ∷ t) l ≡ true → Follows v i 1 (c ∷ []) t
      go [] e q = absurd (false≢true q)
      go (x ∷ l) e q =
          let w = both (cond (leb 65 c) (digit x) (eqb x c)) (like t l) q in
          let b : eqb x c ≡ true = rw a at w.0 in
          next 1 (c ∷ []) t (x ∷ l) e (ap (λ (y : ℕ). y ∷ l) (eqb-true x c b)) w.1

none_left : (l : Bytes) → like [] l ≡ true → l ≡ []
none_left [] h = refl
none_left (x ∷ l) h = absurd (false≢true h)

-- the bytes of a time by the numbers in it
abbrev pub written : ℕ → ℕ → ℕ → ℕ → ℕ → ℕ → ℕ → Bytes
written y m d h i s u =
    padded 4 y ++ (padded 2 m ++ (padded 2 d ++ (fix "-" ++ (padded 2 h ++ (fix ":" ++ (padded 2 i ++ (fix ":" ++ (padded 2 s ++ (fix "." ++ (padded 6 u ++ []))))))))))

pub record Shaped (v : Bytes) : Type 0 where
  pub is : v ≡ written (number_at 0 4 v) (number_at 4 2 v) (number_at 6 2 v) (number_at 9 2 v) (number_at 12 2 v) (number_at 15 2 v) (number_at 18 6 v)
  pub small : number_at 18 6 v < 1000000

pub shaped : (v : Bytes) → like (fix "YYYYMMDD-HH:MM:SS.ssssss") v ≡ true → Shaped v
shaped v h =
    let Y = run v 0 (fix "YYYY") (fix "MMDD-HH:MM:SS.ssssss") refl h in
    let M = run v 4 (fix "MM") (fix "DD-HH:MM:SS.ssssss") refl Y.follows.rest in
    let D = run v 6 (fix "DD") (fix "-HH:MM:SS.ssssss") refl M.follows.rest in
    let a = sign v 8 45 (fix "HH:MM:SS.ssssss") refl D.follows.rest in
    let H = run v 9 (fix "HH") (fix ":MM:SS.ssssss") refl a.rest in
    let b = sign v 11 58 (fix "MM:SS.ssssss") refl H.follows.rest in
    let I = run v 12 (fix "MM") (fix ":SS.ssssss") refl b.rest in
    let c = sign v 14 58 (fix "SS.ssssss") refl I.follows.rest in
    let S = run v 15 (fix "SS") (fix ".ssssss") refl c.rest in
    let d = sign v 17 46 (fix "ssssss") refl S.follows.rest in
    let U = run v 18 (fix "ssssss") [] refl d.rest in
    record {
      is =
          Y.follows.here ∙ ap (λ (l : Bytes). padded 4 (number_at 0 4 v) ++ l)
          (M.follows.here ∙ ap (λ (l : Bytes). padded 2 (number_at 4 2 v) ++ l)
          (D.follows.here ∙ ap (λ (l : Bytes). padded 2 (number_at 6 2 v) ++ l)
          (a.here ∙ ap (λ (l : Bytes). 45 ∷ l)
          (H.follows.here ∙ ap (λ (l : Bytes). padded 2 (number_at 9 2 v) ++ l)
          (b.here ∙ ap (λ (l : Bytes). 58 ∷ l)
          (I.follows.here ∙ ap (λ (l : Bytes). padded 2 (number_at 12 2 v) ++ l)
          (c.here ∙ ap (λ (l : Bytes). 58 ∷ l)
          (S.follows.here ∙ ap (λ (l : Bytes). padded 2 (number_at 15 2 v) ++ l)
          (d.here ∙ ap (λ (l : Bytes). 46 ∷ l)
          (U.follows.here ∙ ap (λ (l : Bytes). padded 6 (number_at 18 6 v) ++ l) (none_left (drop 24 v) U.follows.rest)))))))))));
      small = U.small;
    }

-- THE CALENDAR AND THE CLOCK that the dictionary asks for
abbrev pub date_in : Bytes → Date
date_in v = record { year = number_at 0 4 v; month = number_at 4 2 v; day = number_at 6 2 v }

pub record Clock (v : Bytes) : Type 0 where
  pub hours : number_at 9 2 v ≤ 23
  pub minutes : number_at 12 2 v ≤ 59

calendar_in : (v : Bytes) → good_day v ≡ true → 1970 ≤ number_at 0 4 v → Calendar (date_in v)
unfolding good_day
calendar_in v h k =
    let a = both (within 1 9999 (number_at 0 4 v) && within 1 12 (number_at 4 2 v)) (within 1 (days (number_at 0 4 v) (number_at 4 2 v)) (number_at 6 2 v)) h in
    let b = both (within 1 9999 (number_at 0 4 v)) (within 1 12 (number_at 4 2 v)) a.0 in
    let y = within_is 1 9999 (number_at 0 4 v) b.0 in
    let m = within_is 1 12 (number_at 4 2 v) b.1 in
    let d = within_is 1 (days (number_at 0 4 v) (number_at 4 2 v)) (number_at 6 2 v) a.1 in
    record { year_from = k; year_to = y.1; month_from = m.0; month_to = m.1; day_from = d.0; day_to = d.1 }

clock_in : (v : Bytes) → good_clock v ≡ true → Clock v
unfolding good_clock
clock_in v h =
    let a = both (within 0 23 (number_at 9 2 v) && within 0 59 (number_at 12 2 v)) (within 0 60 (number_at 15 2 v)) h in
    let b = both (within 0 23 (number_at 9 2 v)) (within 0 59 (number_at 12 2 v)) a.0 in
    record { hours = (within_is 0 23 (number_at 9 2 v) b.0).1; minutes = (within_is 0 59 (number_at 12 2 v) b.1).1 }

-- THE MICROSECOND taken apart again
day_of : (d s u : ℕ) → s < 86400 → u < 1000000 → ((d * 86400 + s) * 1000000 + u) / 86400000000 ≡ d
day_of d s u h k = omega arith

second_of : (d s u : ℕ) → s < 86400 → u < 1000000 → ((d * 86400 + s) * 1000000 + u) / 1000000 % 86400 ≡ s
second_of d s u h k =
    let e : ((d * 86400 + s) * 1000000 + u) / 1000000 ≡ d * 86400 + s = omega arith in
    rw e (omega arith)

micros_of : (d s u : ℕ) → u < 1000000 → ((d * 86400 + s) * 1000000 + u) % 1000000 ≡ u
micros_of d s u k = omega arith

text_of : (D : Date) (h i s u : ℕ) → i ≤ 59 → s ≤ 59 → text D (h * 3600 + i * 60 + s) u ≡ written D.year D.month D.day h i s u
text_of D h i s u k l =
    let a : (h * 3600 + i * 60 + s) / 3600 ≡ h = omega arith in
    let b : (h * 3600 + i * 60 + s) / 60 % 60 ≡ i = minutes in
    let c : (h * 3600 + i * 60 + s) % 60 ≡ s = omega arith in
    rw (a, b, c)
  where
    minutes : (h * 3600 + i * 60 + s) / 60 % 60 ≡ i
    minutes = let e : (h * 3600 + i * 60 + s) / 60 ≡ h * 60 + i = omega (arith, l) in rw e (omega (arith, k))

utc_at : (d s u : ℕ) → s < 86400 → u < 1000000 → utc ((d * 86400 + s) * 1000000 + u) ≡ text (date_of d) s u
unfolding utc
utc_at d s u h k = rw (day_of d s u h k, second_of d s u h k, micros_of d s u k)

-- what the dictionary takes, from 1970 on and with no second 60
pub record Taken (v : Bytes) : Type 0 where
  pub shape : like (fix "YYYYMMDD-HH:MM:SS.ssssss") v ≡ true
  pub value : allowed time v ≡ true
  pub year : 1970 ≤ number_at 0 4 v
  pub second : number_at 15 2 v ≤ 59

module _ (v : Bytes) (T : Taken v) where
  pub date_good : Calendar (date_in v)
  unfolding allowed
  date_good = calendar_in v (both (good_day v) (good_clock v) T.value).0 T.year

  pub clock_good : Clock v
  unfolding allowed
  clock_good = clock_in v (both (good_day v) (good_clock v) T.value).1

  in_the_day : second_named v < 86400
  in_the_day = omega (arith, clock_good.hours, clock_good.minutes, T.second)

  pub utc_only : utc (microseconds v) ≡ v
  unfolding microseconds
  utc_only =
      utc_at (day_named v) (second_named v) (number_at 18 6 v) in_the_day (shaped v T.shape).small
      ∙ ap (λ (D : Date). text D (second_named v) (number_at 18 6 v)) (date_only (date_in v) date_good)
      ∙ text_of (date_in v) (number_at 9 2 v) (number_at 12 2 v) (number_at 15 2 v) (number_at 18 6 v) clock_good.minutes T.second
      ∙ sym (shaped v T.shape).is

  pub named_before : microseconds v < limit
  unfolding microseconds
  named_before = small (day_named v) (second_named v) (number_at 18 6 v) (date_below (date_in v) date_good) in_the_day (shaped v T.shape).small
    where
      small : (d s u : ℕ) → d < 2932897 → s < 86400 → u < 1000000 → (d * 86400 + s) * 1000000 + u < limit
      small d s u h k l = omega arith
