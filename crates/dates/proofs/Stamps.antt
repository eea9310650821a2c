-- Days and times by their shapes: what the bytes that were compared say, and the numbers that calendar and clock are asked with.
use Rattle.std.proofs.Common.{◌≡◌, ℕ, ◌+◌, ◌-◌, ◌*◌, ◌%◌, ◌^◌, ◌<◌, ◌≤◌, Bool, true, false, ◌&&◌, ◌||◌, leb, [], ◌∷◌, length, get_or, take, drop, sym, refl, ap, ◌∙◌, add-one, arith, length-drop, take_all, get_or-take, take-take}
use mathlib.Core.Bool.{and-true, or-false, false≢true}
use Rattle.octets.specs.Bytes.{Bytes, fix, value, digit}
use Rattle.dates.specs.Date.{like, is_time, is_day, good_day, good_clock, number_at, found, day_found, time_found}
use Rattle.dates.specs.code.Scan.{Digits, TwoAt, is_day_of, is_clock_of}
use Rattle.dates.proofs.Shapes.{bytes_are, like-append, like-long, like-rest, like-front, like-digit}

-- two digits where the shape of the first n bytes has letters
pub letters : (s v : Bytes) (i : ℕ) → like s (take (length s) v) ≡ true → i + 1 < length s → leb 65 (get_or s i 0) ≡ true → leb 65 (get_or s (i + 1) 0) ≡ true → Digits v i
letters s v i h k a b =
    (rw (get_or-take (length s) v i 0 (omega arith)) at (like-digit s (take (length s) v) h i a), rw (get_or-take (length s) v (i + 1) 0 k) at (like-digit s (take (length s) v) h (i + 1) b))

-- the number of two digits by how far each is above `0`
pub two_is : (v : Bytes) (i a b : ℕ) → i + 2 ≤ length v → Digits v i → (a + 48) % 2 ^ 8 ≡ get_or v i 0 → a < 256 → (b + 48) % 2 ^ 8 ≡ get_or v (i + 1) 0 → b < 256 → TwoAt v i (a * 10 + b)
two_is v i a b h D e k f l =
    record {
      is = rw (bytes_are i 2 v h) (omega (arith, ap (λ (n : ℕ). get_or v n 0) (add-one i)));
      small = omega arith;
    }

-- THE DAY
pub day_means : (v : Bytes) (a b m d : ℕ) → 8 ≤ length v → a ≡ number_at 0 2 v → b ≡ number_at 2 2 v → m ≡ number_at 4 2 v → d ≡ number_at 6 2 v
    → is_day_of (a * 100 + b) m d ≡ good_day v
unfolding good_day
day_means v a b m d h p q r s = rw (p ∙ ap value (bytes_are 0 2 v (omega arith)), q ∙ ap value (bytes_are 2 2 v (omega arith)), r, s, ← year) refl
  where
    year : number_at 0 4 v ≡ value (get_or v 0 0 ∷ get_or v 1 0 ∷ []) * 100 + value (get_or v 2 0 ∷ get_or v 3 0 ∷ [])
    year = rw (bytes_are 0 4 v (omega arith)) (omega arith)

module _ (v : Bytes) where
  pub day_unformed : is_day v ≡ false → 6 ≡ day_found v
  unfolding day_found
  day_unformed n = rw n

  pub day_wrong : is_day v ≡ true → good_day v ≡ false → 5 ≡ day_found v
  unfolding day_found
  day_wrong n g = rw (n, g)

  pub day_right : is_day v ≡ true → good_day v ≡ true → 0 ≡ day_found v
  unfolding day_found
  day_right n g = rw (n, g)

pub day_long : (v : Bytes) → (length v ≡ 8 → ⊥) → 6 ≡ day_found v
unfolding day_found
day_long v n = rw (like-long (fix "YYYYMMDD") v (λ e. n (sym e)))

-- THE TIME
pub time_means : (v : Bytes) (h m s : ℕ) → h ≡ number_at 9 2 v → m ≡ number_at 12 2 v → s ≡ number_at 15 2 v → is_clock_of h m s ≡ good_clock v
unfolding good_clock
time_means v h m s p q r = rw (p, q, r)

pub time-short : (v : Bytes) → length v < 17 → 6 ≡ time_found v
unfolding time_found
time-short v h =
    rw (like-long (fix "YYYYMMDD-HH:MM:SS") v (λ e. omega arith), like-long (fix "YYYYMMDD-HH:MM:SS.sss") v (λ e. omega arith), like-long (fix "YYYYMMDD-HH:MM:SS.ssssss") v (λ e. omega arith))

module _ (v : Bytes) where
  pub time_unformed : is_time v ≡ false → 6 ≡ time_found v
  unfolding time_found
  time_unformed n = rw n

  pub time_no_day : is_time v ≡ true → good_day v ≡ false → 5 ≡ time_found v
  unfolding time_found
  time_no_day n g = rw (n, g)

  pub time_no_clock : is_time v ≡ true → good_day v ≡ true → good_clock v ≡ false → 5 ≡ time_found v
  unfolding time_found
  time_no_clock n g c = rw (n, g, c)

  pub time_is : is_time v ≡ true → good_day v ≡ true → good_clock v ≡ true → 0 ≡ time_found v
  unfolding time_found
  time_is n g c = rw (n, g, c)

-- a time of which nothing is found has its form, and is a time of calendar and clock
pub time-right : (v : Bytes) → time_found v ≡ 0 → (is_time v ≡ true) × ((good_day v && good_clock v) ≡ true)
unfolding time_found
time-right v e = go (is_time v) (good_day v && good_clock v) e
  where
    go : (form value : Bool) → found form value ≡ 0 → (form ≡ true) × (value ≡ true)
    go true true k = (refl, refl)
    go true false k = absurd (omega (arith, k))
    go false value k = absurd (omega (arith, k))

-- WHAT ALL THREE SHAPES HAVE a time has
pub by_shape : (v : Bytes) {P : Type 0} → is_time v ≡ true → (like (fix "YYYYMMDD-HH:MM:SS") v ≡ true → P) → (like (fix "YYYYMMDD-HH:MM:SS.sss") v ≡ true → P)
    → (like (fix "YYYYMMDD-HH:MM:SS.ssssss") v ≡ true → P) → P
by_shape v {P} = go (like (fix "YYYYMMDD-HH:MM:SS") v) (like (fix "YYYYMMDD-HH:MM:SS.sss") v) (like (fix "YYYYMMDD-HH:MM:SS.ssssss") v)
  where
    go : (a b c : Bool) → (a || (b || (c || false))) ≡ true → (a ≡ true → P) → (b ≡ true → P) → (c ≡ true → P) → P
    go true b c e f g h = f refl
    go false true c e f g h = g refl
    go false false true e f g h = h refl
    go false false false e f g h = absurd (false≢true e)

-- they begin alike
pub time-front : (v : Bytes) → is_time v ≡ true → like (fix "YYYYMMDD-HH:MM:SS") (take 17 v) ≡ true
time-front v n =
    by_shape v n
    (like-front (fix "YYYYMMDD-HH:MM:SS") [] v)
    (like-front (fix "YYYYMMDD-HH:MM:SS") (fix ".sss") v)
    (like-front (fix "YYYYMMDD-HH:MM:SS") (fix ".ssssss") v)

pub time_wrong : (v : Bytes) → like (fix "YYYYMMDD-HH:MM:S") (take 16 v) ≡ false → 6 ≡ time_found v
unfolding time_found
time_wrong v n =
    rw (
      like-append (fix "YYYYMMDD-HH:MM:S") (fix "S") v,
      like-append (fix "YYYYMMDD-HH:MM:S") (fix "S.sss") v,
      like-append (fix "YYYYMMDD-HH:MM:S") (fix "S.ssssss") v,
      n,
    )

-- the day in front of a time
pub time_day : (v : Bytes) → like (fix "YYYYMMDD-HH:MM:S") (take 16 v) ≡ true → like (fix "YYYYMMDD") (take 8 v) ≡ true
time_day v n = rw (take-take 8 16 v (omega arith)) at (like-front (fix "YYYYMMDD") (fix "-HH:MM:S") (take 16 v) n)

-- WHAT STANDS BEHIND THE FIRST SIXTEEN BYTES, by the length
module _ (v : Bytes) (h : like (fix "YYYYMMDD-HH:MM:S") (take 16 v) ≡ true) where
  pub time_six : length v ≡ 24 → like (fix "S.ssssss") (take (length v - 16) (drop 16 v)) ≡ is_time v
  time_six n =
      rw (
        like-long (fix "YYYYMMDD-HH:MM:SS") v (λ e. omega arith),
        like-long (fix "YYYYMMDD-HH:MM:SS.sss") v (λ e. omega arith),
        like-rest (fix "YYYYMMDD-HH:MM:S") (fix "S.ssssss") v h,
        take_all (length v - 16) (drop 16 v) (omega (arith, length-drop 16 v)),
      )
      (sym (or-false _))

  -- its last eight bytes begin with the minutes' second digit
  pub time_three : length v ≡ 21 → like (fix "M:SS.sss") (take (length v - 13) (drop 13 v)) ≡ is_time v
  time_three n =
      let k : like (fix "YYYYMMDD-HH:M") (take 13 v) ≡ true = rw (take-take 13 16 v (omega arith)) at (like-front (fix "YYYYMMDD-HH:M") (fix "M:S") (take 16 v) h) in
      rw (
        like-long (fix "YYYYMMDD-HH:MM:SS") v (λ e. omega arith),
        like-long (fix "YYYYMMDD-HH:MM:SS.ssssss") v (λ e. omega arith),
        like-rest (fix "YYYYMMDD-HH:M") (fix "M:SS.sss") v k,
        take_all (length v - 13) (drop 13 v) (omega (arith, length-drop 13 v)),
      )
      (sym (or-false _))

  pub time_plain : length v ≡ 17 → digit (get_or v 16 0) ≡ is_time v
  time_plain n =
      rw (
        like-long (fix "YYYYMMDD-HH:MM:SS.sss") v (λ e. omega arith),
        like-long (fix "YYYYMMDD-HH:MM:SS.ssssss") v (λ e. omega arith),
        like-rest (fix "YYYYMMDD-HH:MM:S") (fix "S") v h,
        sym (take_all 1 (drop 16 v) (omega (arith, length-drop 16 v))) ∙ bytes_are 16 1 v (omega arith),
      )
      (sym (or-false _ ∙ and-true _))

  pub time_other : (length v ≡ 24 → ⊥) → (length v ≡ 21 → ⊥) → (length v ≡ 17 → ⊥) → false ≡ is_time v
  time_other a b c =
      rw (
        like-long (fix "YYYYMMDD-HH:MM:SS") v (λ e. c (sym e)),
        like-long (fix "YYYYMMDD-HH:MM:SS.sss") v (λ e. b (sym e)),
        like-long (fix "YYYYMMDD-HH:MM:SS.ssssss") v (λ e. a (sym e)),
      )
