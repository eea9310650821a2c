-- The digits of a number from the right: one at a time, how many there are, the first of them, and the last k.
use Rattle.std.proofs.Common.{◌≡◌, ℕ, zero, suc, ◌+◌, ◌-◌, ◌*◌, ◌/◌, ◌%◌, ◌<◌, ◌≤◌, [], ◌∷◌, ◌++◌, length, get_or, sym, refl, ap, ◌∙◌, arith, length-append, lt-ltb}
use native.Mathlib.Decide.{dec_lt}
use lib.ListN.{get_or-append}
use Rattle.octets.specs.Bytes.{Bytes, decimal, padded}
use Rattle.octets.proofs.Decimals.{some_digit, decimal_more}

-- ONE AT A TIME
pub decimal_small : (n : ℕ) → n < 10 → decimal n ≡ (48 + n) ∷ []
unfolding decimal
decimal_small n h = rw (lt-ltb n 10 h)

pub decimal_step : (n : ℕ) → 10 ≤ n → decimal n ≡ decimal (n / 10) ++ ((48 + n % 10) ∷ [])
decimal_step n h =
    let w : n ≡ n / 10 * 10 + n % 10 = omega arith in
    ap decimal w ∙ decimal_more (n / 10) (n % 10) (omega arith) (omega arith)

-- HOW MANY
pub length_small : (n : ℕ) → n < 10 → length (decimal n) ≡ 1
length_small n h = ap length (decimal_small n h)

pub length-step : (n : ℕ) → 10 ≤ n → length (decimal n) ≡ length (decimal (n / 10)) + 1
length-step n h = ap length (decimal_step n h) ∙ length-append (decimal (n / 10)) ((48 + n % 10) ∷ [])

pub wider : (k n : ℕ) → 10 ≤ n → k ≡ length (decimal (n / 10)) → suc k ≡ length (decimal n)
wider k n h e = omega (arith, length-step n h)

pub width_1 : (n : ℕ) → n < 10 → 1 ≡ length (decimal n)
width_1 n h = sym (length_small n h)

pub width_2 : (n : ℕ) → 10 ≤ n → n < 100 → 2 ≡ length (decimal n)
width_2 n l h = wider 1 n l (width_1 (n / 10) (omega arith))

pub width_3 : (n : ℕ) → 100 ≤ n → n < 1_000 → 3 ≡ length (decimal n)
width_3 n l h = wider 2 n (omega arith) (width_2 (n / 10) (omega arith) (omega arith))

pub width_4 : (n : ℕ) → 1_000 ≤ n → n < 10_000 → 4 ≡ length (decimal n)
width_4 n l h = wider 3 n (omega arith) (width_3 (n / 10) (omega arith) (omega arith))

pub width_5 : (n : ℕ) → 10_000 ≤ n → n < 100_000 → 5 ≡ length (decimal n)
width_5 n l h = wider 4 n (omega arith) (width_4 (n / 10) (omega arith) (omega arith))

pub width_6 : (n : ℕ) → 100_000 ≤ n → n < 1_000_000 → 6 ≡ length (decimal n)
width_6 n l h = wider 5 n (omega arith) (width_5 (n / 10) (omega arith) (omega arith))

pub width_7 : (n : ℕ) → 1_000_000 ≤ n → n < 10_000_000 → 7 ≡ length (decimal n)
width_7 n l h = wider 6 n (omega arith) (width_6 (n / 10) (omega arith) (omega arith))

pub width_8 : (n : ℕ) → 10_000_000 ≤ n → n < 100_000_000 → 8 ≡ length (decimal n)
width_8 n l h = wider 7 n (omega arith) (width_7 (n / 10) (omega arith) (omega arith))

pub width_9 : (n : ℕ) → 100_000_000 ≤ n → n < 1_000_000_000 → 9 ≡ length (decimal n)
width_9 n l h = wider 8 n (omega arith) (width_8 (n / 10) (omega arith) (omega arith))

-- THE FIRST is that of the number without its last one
pub first_small : (n : ℕ) → n < 10 → get_or (decimal n) 0 0 ≡ 48 + n
first_small n h = ap (λ (l : Bytes). get_or l 0 0) (decimal_small n h)

pub first_step : (n : ℕ) → 10 ≤ n → get_or (decimal n) 0 0 ≡ get_or (decimal (n / 10)) 0 0
first_step n h = ap (λ (l : Bytes). get_or l 0 0) (decimal_step n h) ∙ get_or-append (decimal (n / 10)) ((48 + n % 10) ∷ []) 0 0 (some_digit (n / 10))

-- THE LAST k, with zeros in front
pub padded-length : (k n : ℕ) → length (padded k n) ≡ k
padded-length zero n = refl
padded-length (suc k) n = omega (arith, length-append (padded k (n / 10)) ((48 + n % 10) ∷ []), padded-length k (n / 10))

-- all the digits of a number are its last ones
padded_is : (k n : ℕ) → length (decimal n) ≡ suc k → decimal n ≡ padded (suc k) n
padded_is zero n e = go (dec_lt n 10)
  where
    go : Dec (n < 10) → decimal n ≡ (48 + n % 10) ∷ []
    go (yes l) = let w : n ≡ n % 10 = omega arith in decimal_small n l ∙ ap (λ (x : ℕ). (48 + x) ∷ []) w
    go (no l) = absurd (omega (arith, length-step n (omega arith), some_digit (n / 10)))
padded_is (suc k) n e = go (dec_lt n 10) (λ (w : length (decimal (n / 10)) ≡ suc k). padded_is k (n / 10) w)
  where
    go : Dec (n < 10) → (length (decimal (n / 10)) ≡ suc k → decimal (n / 10) ≡ padded (suc k) (n / 10))
        → decimal n ≡ padded (suc k) (n / 10) ++ ((48 + n % 10) ∷ [])
    go (yes l) f = absurd (omega (arith, length_small n l))
    go (no l) f = decimal_step n (omega arith) ∙ ap (λ (x : Bytes). x ++ ((48 + n % 10) ∷ [])) (f (omega (arith, length-step n (omega arith))))

pub all_padded : (k n : ℕ) → k ≡ length (decimal n) → padded k n ≡ decimal n
all_padded k n e =
    let w : length (decimal n) ≡ suc (length (decimal n) - 1) = omega (arith, some_digit n) in
    let z : suc (length (decimal n) - 1) ≡ k = omega arith in
    sym (padded_is (length (decimal n) - 1) n w ∙ ap (λ (x : ℕ). padded x n) z)
