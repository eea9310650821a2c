-- The text of a time: joined of pairs of digits, each number read back from its digits, and its shape.
use Prim.Native.Nat.{ℕ, zero, suc, ◌+◌, ◌-◌, ◌*◌, ◌/◌, ◌%◌, ◌^◌, ◌≤◌, ◌<◌}
use native.Mathlib.Nat.{pow-suc, add-zero}
use native.Mathlib.Omega.{arith}
use mathlib.Core.Path.{◌≡◌, refl, sym, ap, ◌∙◌}
use mathlib.Core.List.{[], ◌∷◌, ◌++◌, append_assoc, append-nil}
use mathlib.Core.Bool.{Bool, true, false}
use lib.Dec.{leb}
use lib.ListN.{length, get_or}
use borrow.Author.Tests.{le-leb, leb-true, ne_eqb}
use Rattle.octets.specs.Bytes.{Bytes, fix, all, has, within, digit, value, value_from, padded}
use Rattle.octets.proofs.Lists.{value_from-append}
use Rattle.octets.proofs.Tests.{both}
use Rattle.octets.proofs.Numerals.{digit_is}
use Rattle.kinds.specs.Kind.{time, formed}
use Rattle.calendar.specs.declared.days.Date.{Date}
use Rattle.calendar.specs.Time.{date_of, text, utc, utc_or_last, limit}

-- THE CODE'S WAY to the text
by_100 : (n : ℕ) → n / 100 ≡ n / 10 / 10
by_100 n = omega arith

by_10000 : (n : ℕ) → n / 10000 ≡ n / 10 / 10 / 10 / 10
by_10000 n = omega arith

-- both digits as the two bytes of one number
pub two_bytes : (n : ℕ) → n < 100 → (256 * n + 12336 - 2559 * (n / 10)) % 256 ∷ (256 * n + 12336 - 2559 * (n / 10)) / 256 ∷ [] ≡ padded 2 n
two_bytes n h =
    let t : n / 10 % 10 ≡ n / 10 = omega arith in
    let e : 256 * n + 12336 - 2559 * (n / 10) ≡ (48 + n / 10) + (48 + n % 10) * 256 = omega arith in
    let l : 48 + n / 10 < 256 = omega arith in
    let a : ((48 + n / 10) + (48 + n % 10) * 256) % 256 ≡ 48 + n / 10 = omega (arith, l) in
    let b : ((48 + n / 10) + (48 + n % 10) * 256) / 256 ≡ 48 + n % 10 = omega (arith, l) in
    rw (e, a, b, t)

last_two : (n : ℕ) → padded 2 (n % 100) ≡ padded 2 n
last_two n =
    let a : n % 100 / 10 % 10 ≡ n / 10 % 10 = omega arith in
    let b : n % 100 % 10 ≡ n % 10 = omega arith in
    rw (a, b)

pub text-joined : (D : Date) (second micros : ℕ) {c y m d h i s p q r : Bytes}
    → c ≡ padded 2 (D.year / 100) → y ≡ padded 2 (D.year % 100) → m ≡ padded 2 D.month → d ≡ padded 2 D.day
    → h ≡ padded 2 (second / 3600) → i ≡ padded 2 (second / 60 % 60) → s ≡ padded 2 (second % 60)
    → p ≡ padded 2 (micros / 10000) → q ≡ padded 2 (micros / 100 % 100) → r ≡ padded 2 (micros % 100)
    → c ++ y ++ m ++ d ++ fix "-" ++ h ++ fix ":" ++ i ++ fix ":" ++ s ++ fix "." ++ p ++ q ++ r ≡ text D second micros
text-joined D second micros c y m d h i s p q r =
    rw (c, y ∙ last_two D.year, m, d, h, i, s, p, q ∙ last_two (micros / 100), r ∙ last_two micros, by_100 D.year, by_10000 micros, by_100 micros)

pub utc_by : (t : ℕ) {D : Date} → D ≡ date_of (t / 1000000 / 86400) → text D (t / 1000000 % 86400) (t % 1000000) ≡ utc t
unfolding utc
utc_by t e = let q : t / 1000000 / 86400 ≡ t / 86400000000 = omega arith in ap (λ (D : Date). text D (t / 1000000 % 86400) (t % 1000000)) (e ∙ ap date_of q)

-- the limit
pub utc_before : (t : ℕ) → t < limit → utc_or_last t ≡ utc t
unfolding utc_or_last
utc_before t h = ap utc (omega arith)

pub utc_past : (t : ℕ) → limit ≤ t → utc_or_last t ≡ utc (limit - 1)
unfolding utc_or_last
utc_past t h = ap utc (omega arith)

-- DIGITS, over their number: they are worth the number that was written
pub padded-value : (k n : ℕ) → n < 10 ^ k → value (padded k n) ≡ n
padded-value zero n h = omega arith
padded-value (suc k) n h =
    let l : n / 10 < 10 ^ k = omega (arith, pow-suc 10 k) in
    value_from-append 0 (padded k (n / 10)) ((48 + n % 10) ∷ []) ∙ omega (arith, padded-value k (n / 10) l)

pub padded_from : (k n : ℕ) (l : Bytes) → all digit l ≡ true → padded (k + length l) (value_from n l) ≡ padded k n ++ l
padded_from k n [] h = rw (add-zero k) (sym (append-nil (padded k n)))
padded_from k n (d ∷ l) h =
    let w = both (digit d) (all digit l) h in
    let D = digit_is d w.0 in
    let q : (n * 10 + (d - 48)) / 10 ≡ n = omega arith in
    let r : 48 + (n * 10 + (d - 48)) % 10 ≡ d = omega arith in
    let e : k + suc (length l) ≡ suc k + length l = omega arith in
    rw e (padded_from (suc k) (n * 10 + (d - 48)) l w.1 ∙ rw (q, r) (append_assoc (padded k n) (d ∷ []) l))

-- and are the only ones of their number that are worth it
pub padded_only : (l : Bytes) → all digit l ≡ true → padded (length l) (value l) ≡ l
padded_only l h = let e : 0 + length l ≡ length l = omega arith in rw e at (padded_from 0 0 l h)

-- the signs in a text
abbrev sign : ℕ → Bool
sign c = within 45 58 c

pub signs_no_bar : (v : Bytes) → all (within 45 58) v ≡ true → has v 1 ≡ false
signs_no_bar [] h = refl
signs_no_bar (x ∷ v) h =
    let w = both (sign x) (all sign v) h in
    let b = both (leb 45 x) (leb x 58) w.0 in
    let l = leb-true 45 x b.0 in
    rw (ne_eqb x 1 (λ e. omega arith), signs_no_bar v w.1)

pub signs_bytes : (v : Bytes) → all (within 45 58) v ≡ true → (i : ℕ) → get_or v i 0 < 256
signs_bytes [] h i = omega arith
signs_bytes (x ∷ v) h zero =
    let b = both (leb 45 x) (leb x 58) (both (sign x) (all sign v) h).0 in
    let l = leb-true x 58 b.1 in
    omega arith
signs_bytes (x ∷ v) h (suc i) = signs_bytes v (both (sign x) (all sign v) h).1 i

-- a digit is from `0` to `9`, and so a sign of a text
digit_from : (k : ℕ) → k ≤ 48 → (a : ℕ) → leb k (48 + a % 10) ≡ true
digit_from k h a = le-leb k (48 + a % 10) (omega arith)

digit_to : (k : ℕ) → 57 ≤ k → (a : ℕ) → leb (48 + a % 10) k ≡ true
digit_to k h a = le-leb (48 + a % 10) k (omega arith)

module _ (D : Date) (second micros : ℕ) where
  pub text_formed : formed time (text D second micros) ≡ true
  unfolding formed
  text_formed = simp (digit_from 48 (omega arith), digit_to 57 (omega arith))

  pub text_signs : all (within 45 58) (text D second micros) ≡ true
  text_signs = simp (digit_from 45 (omega arith), digit_to 58 (omega arith))
