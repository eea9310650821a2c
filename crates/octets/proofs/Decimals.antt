-- The decimal digits of a number, over the greatest number of digits: they are worth the number, begin with no zero, and are the only such digits.
use Rattle.std.proofs.Common.{◌≡◌, ℕ, zero, suc, ◌+◌, ◌-◌, ◌*◌, ◌/◌, ◌%◌, ◌^◌, ◌<◌, ◌≤◌, Bool, true, false, cond, ltb, [], ◌∷◌, ◌++◌, length, get_or, sym, refl, ap, ◌∙◌, subst, append_assoc, append-nil, pow-suc, arith, length-append, ltb-false, ltb-true, le-ltb, lt-ltb}
use mathlib.Core.Bool.{false≢true}
use lib.ListN.{get_or-append}
use Rattle.octets.specs.Bytes.{Bytes, all, digit, value, value_from, Writing, with_zeros, no_zeros, last_digits, decimal}
use Rattle.octets.proofs.Lists.{value_from-append}
use Rattle.octets.proofs.Tests.{both, all_append}
use Rattle.octets.proofs.Numerals.{is_digit, digit_is, Written, value_below}

pub record Decimal (n : ℕ) (l : Bytes) : Type 0 where
  pub whole : all digit l ≡ true
  pub worth : value l ≡ n
  pub some_digit : 1 ≤ length l
  pub no_zero : 1 ≤ n → get_or l 0 0 ≡ 48 → ⊥

one_digit : (n : ℕ) → n < 10 → Decimal n ((48 + n) ∷ [])
one_digit n h =
    record { whole = rw (is_digit (48 + n) (omega arith, omega arith)); worth = omega arith; some_digit = omega arith; no_zero = λ p e. omega arith }

one_more : (n : ℕ) (l : Bytes) → 10 ≤ n → Decimal (n / 10) l → Decimal n (l ++ ((48 + n % 10) ∷ []))
one_more n l h D =
    record {
      whole = all_append digit l ((48 + n % 10) ∷ []) ∙ rw (D.whole, is_digit (48 + n % 10) (omega arith, omega arith));
      worth = value_from-append 0 l ((48 + n % 10) ∷ []) ∙ omega (arith, D.worth);
      some_digit = omega (arith, length-append l ((48 + n % 10) ∷ []));
      no_zero = λ p e. D.no_zero (omega arith) (sym (get_or-append l ((48 + n % 10) ∷ []) 0 0 D.some_digit) ∙ e);
    }

last_is : (k n : ℕ) → n < k → Decimal n (last_digits k n)
last_is zero n h = absurd (omega arith)
last_is (suc k) n h = go (ltb n 10) refl (λ (g : 10 ≤ n). last_is k (n / 10) (omega arith))
  where
    go : (b : Bool) → ltb n 10 ≡ b → (10 ≤ n → Decimal (n / 10) (last_digits k (n / 10))) → Decimal n (cond b ((48 + n) ∷ []) (last_digits k (n / 10) ++ ((48 + n % 10) ∷ [])))
    go true e f = one_digit n (ltb-true n 10 e)
    go false e f = one_more n (last_digits k (n / 10)) (ltb-false n 10 e) (f (ltb-false n 10 e))

last_length : (k n m : ℕ) → 1 ≤ m → (10 ≤ n → length (last_digits k (n / 10)) + 1 ≤ m) → length (last_digits (suc k) n) ≤ m
last_length k n m h f = go (ltb n 10) refl
  where
    go : (b : Bool) → ltb n 10 ≡ b → length (cond b ((48 + n) ∷ []) (last_digits k (n / 10) ++ ((48 + n % 10) ∷ []))) ≤ m
    go true e = omega arith
    go false e = omega (arith, f (ltb-false n 10 e), length-append (last_digits k (n / 10)) ((48 + n % 10) ∷ []))

last_short : (j k n : ℕ) → n < 10 ^ suc j → length (last_digits k n) ≤ suc j
last_short j zero n h = omega arith
last_short zero (suc k) n h = last_length k n 1 (omega arith) (λ g. absurd (omega arith))
last_short (suc j) (suc k) n h = last_length k n (suc (suc j)) (omega arith) (λ g. omega (arith, last_short j k (n / 10) (omega (arith, pow-suc 10 (suc j)))))

-- a number below 10 to the j + 1 has at most j + 1 digits, and no zero stands in front, but that of 0 itself
decimal_as : (w : Writing) (j n : ℕ) → n < 10 ^ suc j → suc j ≤ w.most → (w.zeros ≡ false → 1 ≤ n) → Written w (decimal n)
unfolding decimal
decimal_as w j n k m h =
    let D = last_is (suc n) n (omega arith) in
    record { some_digit = D.some_digit; few = omega (arith, last_short j (suc n) n k); whole = D.whole; no_zero = λ z. D.no_zero (h z) }

pub decimal-written : (j n : ℕ) → 1 ≤ n → n < 10 ^ suc j → Written (no_zeros (suc j)) (decimal n)
decimal-written j n h k = decimal_as (no_zeros (suc j)) j n k (omega arith) (λ _. h)

-- so it is read where zeros may stand in front
pub decimal-read : (j n : ℕ) → n < 10 ^ suc j → Written (with_zeros (suc j)) (decimal n)
decimal-read j n k = decimal_as (with_zeros (suc j)) j n k (omega arith) (λ z. absurd (false≢true (sym z)))

pub some_digit : (n : ℕ) → 1 ≤ length (decimal n)
unfolding decimal
some_digit n = (last_is (suc n) n (omega arith)).some_digit

pub decimal-worth : (n : ℕ) → value (decimal n) ≡ n
unfolding decimal
decimal-worth n = (last_is (suc n) n (omega arith)).worth

-- a number has no more digits than a greater one
pub no_longer : (n m : ℕ) → n ≤ m → length (decimal n) ≤ length (decimal m)
unfolding decimal
no_longer n m h =
    let D = last_is (suc m) m (omega arith) in
    let j : ℕ = length (decimal m) - 1 in
    let e : length (decimal m) ≡ suc j = omega (arith, D.some_digit) in
    let k : m < 10 ^ suc j = subst (λ (x : ℕ). m < 10 ^ x) e (omega (arith, value_below (length (decimal m)) (decimal m) D.whole (omega arith), D.worth)) in
    omega (arith, (decimal-read j n (omega arith)).few)

-- DIGITS ARE DETERMINED BY THEIR WORTH
last_fuel : (j k n : ℕ) → n < j → n < k → last_digits j n ≡ last_digits k n
last_fuel zero k n h g = absurd (omega arith)
last_fuel (suc j) zero n h g = absurd (omega arith)
last_fuel (suc j) (suc k) n h g = go (ltb n 10) refl (λ (l : 10 ≤ n). last_fuel j k (n / 10) (omega arith) (omega arith))
  where
    go : (b : Bool) → ltb n 10 ≡ b → (10 ≤ n → last_digits j (n / 10) ≡ last_digits k (n / 10))
        → cond b ((48 + n) ∷ []) (last_digits j (n / 10) ++ ((48 + n % 10) ∷ [])) ≡ cond b ((48 + n) ∷ []) (last_digits k (n / 10) ++ ((48 + n % 10) ∷ []))
    go true e f = refl
    go false e f = ap (λ (l : Bytes). l ++ ((48 + n % 10) ∷ [])) (f (ltb-false n 10 e))

pub decimal_more : (v d : ℕ) → 1 ≤ v → d < 10 → decimal (v * 10 + d) ≡ decimal v ++ ((48 + d) ∷ [])
unfolding decimal
decimal_more v d h k =
    let q : (v * 10 + d) / 10 ≡ v = omega arith in
    let r : (v * 10 + d) % 10 ≡ d = omega arith in
    rw (le-ltb (v * 10 + d) 10 (omega arith), q, r) (ap (λ (l : Bytes). l ++ ((48 + d) ∷ [])) (last_fuel (v * 10 + d) (suc v) v (omega arith) (omega arith)))

-- digits behind a number's digits
decimal_from : (v : ℕ) → 1 ≤ v → (l : Bytes) → all digit l ≡ true → decimal (value_from v l) ≡ decimal v ++ l
decimal_from v h [] a = sym (append-nil (decimal v))
decimal_from v h (d ∷ l) a =
    let w = both (digit d) (all digit l) a in
    let D = digit_is d w.0 in
    let e : 48 + (d - 48) ≡ d = omega arith in
    decimal_from (v * 10 + (d - 48)) (omega arith) l w.1
    ∙ ap (λ (k : Bytes). k ++ l) (decimal_more v (d - 48) h (omega arith) ∙ ap (λ (x : ℕ). decimal v ++ (x ∷ [])) e)
    ∙ append_assoc (decimal v) (d ∷ []) l

pub written-decimal : (n : ℕ) (l : Bytes) → Written (no_zeros n) l → decimal (value l) ≡ l
unfolding decimal
written-decimal n [] N = absurd (omega (arith, N.some_digit))
written-decimal n (d ∷ l) N =
    let w = both (digit d) (all digit l) N.whole in
    let D = digit_is d w.0 in
    let z : d ≡ 48 → ⊥ = N.no_zero refl in
    let e : 48 + (d - 48) ≡ d = omega arith in
    let o : 0 * 10 + (d - 48) ≡ d - 48 = omega arith in
    let s : decimal (d - 48) ≡ d ∷ [] = rw (lt-ltb (d - 48) 10 (omega arith)) (ap (λ (x : ℕ). x ∷ []) e) in
    decimal_from (0 * 10 + (d - 48)) (omega arith) l w.1 ∙ ap (λ (k : Bytes). k ++ l) (ap decimal o ∙ s)
