-- What the code tests: 24 bytes that are a time of the dictionary, with no second 60, from the year 1970 on by their digits, and no others are stamps.
-- Assumes nothing.
use Prim.Native.Nat.{ℕ, ◌+◌, ◌-◌, ◌*◌, ◌≤◌, ◌<◌}
use native.Mathlib.Omega.{arith}
use mathlib.Core.Path.{◌≡◌, refl, sym, ap₂, subst}
use mathlib.Core.Bool.{Bool, true, false}
use lib.Dec.{leb}
use lib.ListN.{length, get_or}
use borrow.Author.Tests.{leb-true, leb-false}
use Rattle.octets.specs.Bytes.{Bytes, Digit, fix}
use Rattle.dates.specs.Date.{like, is_time, found, time_found, number_at}
use Rattle.dates.proofs.Shapes.{like-length, like-digit, bytes_are}
use Rattle.dates.proofs.Stamps.{time-right, by_shape}
use Rattle.kinds.specs.Kind.{time, formed, allowed}
use Rattle.calendar.specs.Time.{utc, limit, microseconds}
use Rattle.calendar.proofs.Times.{utc_length, utc_formed, utc_allowed, utc_year, utc_second}
use Rattle.calendar.proofs.Named.{Taken, utc_only, named_before}
use Rattle.stamps.specs.code.Stamp.{is_stamp}
use Rattle.stamps.proofs.Stamps.{stamp_is, utc_stamp}

-- EACH STAMP passes the tests
record Tested (v : Bytes) : Type 0 where
  long : length v ≡ 24
  right : time_found v ≡ 0
  year : 1970 ≤ number_at 0 4 v
  second : number_at 15 2 v ≤ 59

utc_tested : (t : ℕ) → t < limit → Tested (utc t)
unfolding time_found formed allowed
utc_tested t h = record { long = utc_length t; right = ap₂ found (utc_formed t) (utc_allowed t h); year = utc_year t h; second = utc_second t h }

tested : (v : Bytes) → is_stamp v ≡ true → Tested v
tested v h = let w = stamp_is v h in subst Tested (sym w.0) (utc_tested (microseconds v) w.1)

no_stamp : (v : Bytes) → (Tested v → ⊥) → false ≡ is_stamp v
no_stamp v n = go (is_stamp v) refl
  where
    go : (b : Bool) → is_stamp v ≡ b → false ≡ b
    go true e = absurd (n (tested v e))
    go false e = refl

pub not_long : (v : Bytes) → (length v ≡ 24 → ⊥) → false ≡ is_stamp v
not_long v n = no_stamp v (λ T. n T.long)

pub not_time : (v : Bytes) {r : ℕ} → r ≡ time_found v → 0 < r → false ≡ is_stamp v
not_time v e n = no_stamp v (λ T. omega (arith, e, T.right))

-- OF 24 BYTES that are a time: they have the longest shape, and calendar and clock have them
abbrev longest : Bytes
longest = fix "YYYYMMDD-HH:MM:SS.ssssss"

last_shape : (v : Bytes) → length v ≡ 24 → is_time v ≡ true → like longest v ≡ true
last_shape v n h =
    by_shape v h
    (λ s. absurd (omega (arith, n, like-length (fix "YYYYMMDD-HH:MM:SS") v s)))
    (λ s. absurd (omega (arith, n, like-length (fix "YYYYMMDD-HH:MM:SS.sss") v s)))
    (λ s. s)

-- THE DIGITS that are tested, of 24 bytes that are a time
module _ (v : Bytes) (n : length v ≡ 24) (j : 0 ≡ time_found v) where
  shape : like longest v ≡ true
  unfolding time_found
  shape = last_shape v n (time-right v (sym j)).0

  value : allowed time v ≡ true
  unfolding time_found allowed
  value = (time-right v (sym j)).1

  digit_here : (i : ℕ) → leb 65 (get_or longest i 0) ≡ true → Digit (get_or v i 0)
  digit_here i k = like-digit longest v shape i k

  year_is : number_at 0 4 v ≡ (((get_or v 0 0 - 48) * 10 + (get_or v 1 0 - 48)) * 10 + (get_or v 2 0 - 48)) * 10 + (get_or v 3 0 - 48)
  year_is = rw (bytes_are 0 4 v (omega arith)) (omega arith)

  second_is : number_at 15 2 v ≡ (get_or v 15 0 - 48) * 10 + (get_or v 16 0 - 48)
  second_is = rw (bytes_are 15 2 v (omega arith)) (omega arith)

  pub not_second : 54 ≤ get_or v 15 0 → false ≡ is_stamp v
  not_second h = no_stamp v (λ T. omega (arith, T.second, second_is))

  pub before_1000 : get_or v 0 0 < 49 → false ≡ is_stamp v
  before_1000 h = no_stamp v (λ T. omega (arith, T.year, year_is, digit_here 1 refl, digit_here 2 refl, digit_here 3 refl))

  pub before_1900 : get_or v 0 0 < 50 → get_or v 1 0 < 57 → false ≡ is_stamp v
  before_1900 h k = no_stamp v (λ T. omega (arith, T.year, year_is, digit_here 2 refl, digit_here 3 refl))

  module _ (s : get_or v 15 0 < 54) where
    from_1970 : 1970 ≤ number_at 0 4 v → is_stamp v ≡ true
    from_1970 y =
        let T : Taken v = record { shape = shape; value = value; year = y; second = omega (arith, s, second_is, digit_here 16 refl) } in
        subst (λ (w : Bytes). is_stamp w ≡ true) (utc_only v T) (utc_stamp (microseconds v) (named_before v T))

    pub from_2000 : 50 ≤ get_or v 0 0 → true ≡ is_stamp v
    from_2000 h = sym (from_1970 (omega (arith, year_is)))

    pub in_1900s : get_or v 0 0 < 50 → 49 ≤ get_or v 0 0 → 57 ≤ get_or v 1 0 → leb 55 (get_or v 2 0) ≡ is_stamp v
    in_1900s a b c = go (leb 55 (get_or v 2 0)) refl
      where
        go : (t : Bool) → leb 55 (get_or v 2 0) ≡ t → t ≡ is_stamp v
        go true e = sym (from_1970 (omega (arith, leb-true 55 (get_or v 2 0) e, year_is)))
        go false e = no_stamp v (λ T. omega (arith, leb-false 55 (get_or v 2 0) e, T.year, year_is, digit_here 1 refl, digit_here 3 refl))

pub ruleset tests = (not_second, from_2000, in_1900s)
