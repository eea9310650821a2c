-- A time by its places: where each of its three shapes has digits, what a row of them is worth, and its decimals as microseconds.
use Rattle.std.proofs.Common.{Some, None}
use Prim.Native.Nat.{ℕ, ◌+◌, ◌*◌, ◌^◌, ◌≤◌, ◌<◌}
use native.Mathlib.Decide.{dec_lt}
use native.Mathlib.Omega.{arith}
use mathlib.Core.Path.{◌≡◌, refl, sym, ap, ◌∙◌, subst}
use mathlib.Core.List.{[], ◌∷◌, ◌++◌}
use mathlib.Core.Bool.{Bool, true, false, cond, ◌&&◌}
use lib.ListN.{length, take, drop, get_or, length-drop}
use lib.Seq.{take_all, get_or-take, get_or-drop}
use Rattle.octets.specs.Bytes.{Bytes, fix, value, Digit}
use Rattle.octets.specs.code.Leaf.{Number}
use Rattle.octets.proofs.Lists.{part_length}
use Rattle.octets.proofs.Numerals.{row_digits, digit_at, value_below}
use Rattle.dates.specs.Date.{like, is_time, good_day, good_clock, number_at, found, time_found}
use Rattle.dates.proofs.Shapes.{bytes_are, like-length, like_middle}
use Rattle.dates.proofs.Stamps.{time-right, by_shape}
use Rattle.kinds.specs.Kind.{formed, allowed}
use Rattle.calendar.specs.Later.{decimals, moment_of, read_time}
use Rattle.calendar.specs.declared.moments.Moment.{Moment}
use Rattle.calendar.specs.code.Timed.{digits_at, Timed, NumberAt}

-- THE DIGITS of a time whose decimals have the shape t
abbrev pub seconds : Bytes
seconds = fix "YYYYMMDD-HH:MM:SS"

timed_by : (t v : Bytes) → like (seconds ++ t) v ≡ true → (length v ≡ 24 → digits_at 18 6 v) → (length v ≡ 21 → digits_at 18 3 v)
    → ((length v ≡ 24 → ⊥) → (length v ≡ 21 → ⊥) → length v ≡ 17) → Timed v
timed_by t v h six three none =
    record {
      long = omega (arith, like-length (seconds ++ t) v h);
      year = like_middle (fix "") (fix "YYYY") (fix "MMDD-HH:MM:SS" ++ t) v refl h;
      month = like_middle (fix "YYYY") (fix "MM") (fix "DD-HH:MM:SS" ++ t) v refl h;
      day = like_middle (fix "YYYYMM") (fix "DD") (fix "-HH:MM:SS" ++ t) v refl h;
      hour = like_middle (fix "YYYYMMDD-") (fix "HH") (fix ":MM:SS" ++ t) v refl h;
      minute = like_middle (fix "YYYYMMDD-HH:") (fix "MM") (fix ":SS" ++ t) v refl h;
      second = like_middle (fix "YYYYMMDD-HH:MM:") (fix "SS") t v refl h;
      six = six;
      three = three;
      else_none = none;
    }

pub timed : (v : Bytes) → is_time v ≡ true → Timed v
timed v h =
    by_shape v h
    (λ s. let n = like-length seconds v s in timed_by [] v s (λ k. absurd (omega arith)) (λ k. absurd (omega arith)) (λ k l. n))
    (λ s.
    let n = like-length (seconds ++ fix ".sss") v s in
    timed_by (fix ".sss") v s (λ k. absurd (omega arith)) (λ k. like_middle (fix "YYYYMMDD-HH:MM:SS.") (fix "sss") [] v refl s) (λ k l. absurd (l n)))
    (λ s.
    let n = like-length (seconds ++ fix ".ssssss") v s in
    timed_by (fix ".ssssss") v s (λ k. like_middle (fix "YYYYMMDD-HH:MM:SS.") (fix "ssssss") [] v refl s) (λ k. absurd (omega arith)) (λ k l. absurd (k n)))

-- A ROW OF DIGITS is read to its end
row_whole : (v : Bytes) (i n x c : ℕ) → i + n ≤ length v → digits_at i n v → Number v i n x c → c ≡ n
row_whole v i n x c h d N = go (dec_lt c n)
  where
    go : Dec (c < n) → c ≡ n
    go (no k) = omega (arith, N.few)
    go (yes k) =
        let l : c < length (take n (drop i v)) = omega (arith, part_length v i n h) in
        let D : Digit (get_or (take n (drop i v)) c 0) = digit_at (take n (drop i v)) (row_digits (take n (drop i v)) d) c l in
        absurd (N.stop k (omega arith) (subst Digit (get_or-take n (drop i v) c 0 k ∙ get_or-drop i v c 0) D))

pub row_at : {v : Bytes} {i n x c : ℕ} → i + n ≤ length v → n ≤ 6 → digits_at i n v → Number v i n x c → NumberAt v i n x
row_at {v} {i} {n} {x} {c} h k d N =
    let e : x ≡ number_at i n v = N.worth ∙ ap (λ (j : ℕ). value (take j (drop i v))) (row_whole v i n x c h d N) in
    record { is = e; small = omega (arith, value_below 6 (take n (drop i v)) d (omega (arith, part_length v i n h))) }

pub row_fits : {v : Bytes} {i n x c : ℕ} → i + n ≤ length v → n ≤ 6 → digits_at i n v → Number v i n x c → x < 2 ^ 32
row_fits h k d N = omega (arith, (row_at h k d N).small)

-- THE DECIMALS as microseconds
pub six_are : (v : Bytes) → length v ≡ 24 → number_at 18 6 v ≡ decimals v
six_are v n = rw (← take_all 6 (drop 18 v) (omega (arith, length-drop 18 v)), bytes_are 18 6 v (omega arith)) refl

pub decimals_six : {v : Bytes} {r : ℕ} → length v ≡ 24 → NumberAt v 18 6 r → r ≡ decimals v
decimals_six {v} n N = N.is ∙ six_are v n

pub decimals-three : {v : Bytes} {r : ℕ} → length v ≡ 21 → NumberAt v 18 3 r → r * 1000 ≡ decimals v
decimals-three {v} n N =
    ap (λ (x : ℕ). x * 1000) N.is ∙ rw (← take_all 3 (drop 18 v) (omega (arith, length-drop 18 v)), bytes_are 18 3 v (omega arith)) (omega arith)

pub decimals_none : {v : Bytes} → Timed v → (length v ≡ 24 → ⊥) → (length v ≡ 21 → ⊥) → 0 ≡ decimals v
decimals_none {v} T k l = go (drop 18 v) (omega (arith, length-drop 18 v, T.else_none k l))
  where
    go : (w : Bytes) → length w ≡ 0 → 0 ≡ value (take 6 (w ++ fix "000000"))
    go [] e = refl
    go (x ∷ w) e = absurd (omega arith)

pub six_there : {v : Bytes} → Timed v → length v ≡ 24 → digits_at 18 6 v
six_there T n = T.six n

pub three_there : {v : Bytes} → Timed v → length v ≡ 21 → digits_at 18 3 v
three_there T n = T.three n

-- THE MOMENT of what its places write
pub moment_is : {v : Bytes} {y m d h i s u : ℕ} → NumberAt v 0 4 y → NumberAt v 4 2 m → NumberAt v 6 2 d → NumberAt v 9 2 h → NumberAt v 12 2 i → NumberAt v 15 2 s → u ≡ decimals v
    → record { year = y; month = m; day = d; hour = h; minute = i; second = s; micros = u } ≡ moment_of v
unfolding moment_of
moment_is Y M D H I S u = rw (Y.is, M.is, D.is, H.is, I.is, S.is, u)

-- THE READING by what is found
pub reads_none : (v : Bytes) {f : ℕ} → f ≡ time_found v → 0 < f → None ≡ read_time v
unfolding read_time formed allowed time_found
reads_none v {f} p n = go (is_time v) (good_day v && good_clock v) p
  where
    go : (form value : Bool) → f ≡ found form value → None ≡ cond (form && value) (Some (moment_of v)) None
    go true true k = absurd (omega arith)
    go true false k = refl
    go false value k = refl

pub reads_time : (v : Bytes) {m : Moment} → 0 ≡ time_found v → m ≡ moment_of v → Some m ≡ read_time v
unfolding read_time formed allowed
reads_time v e q = let w = time-right v (sym e) in rw (w.0, w.1) (ap (λ (n : Moment). Some n) q)

pub is_timed : (v : Bytes) → 0 ≡ time_found v → Timed v
is_timed v e = timed v (time-right v (sym e)).0

pub ruleset times = (row_at, decimals_six, decimals-three, decimals_none, moment_is)
