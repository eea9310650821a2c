-- Laws of sums: of parts of a list, over the number of bytes added at a time; of a sum that is kept modulo 2 ^ 64; and of the parts that a length has.
use Rattle.std.proofs.Common.{◌≡◌, ℕ, ◌+◌, ◌-◌, ◌*◌, ◌/◌, ◌%◌, ◌^◌, ◌<◌, ◌≤◌, [], ◌∷◌, ◌++◌, length, get_or, take, drop, sym, ap, ◌∙◌, add-zero, add_assoc, mul_assoc, mul_comm, zero-add, mul-one, mul-add, arith, take-add}
use native.Mathlib.Nat.{mod-le, div-add-mod, div-div-eq-div-mul}
use Rattle.octets.specs.Bytes.{Bytes, sum}
use Rattle.octets.proofs.Lists.{take_more}

sum-append : (xs ys : Bytes) → sum (xs ++ ys) ≡ sum xs + sum ys
sum-append [] ys = sym (zero-add (sum ys))
sum-append (x ∷ xs) ys = ap (λ (n : ℕ). x + n) (sum-append xs ys) ∙ sym (add_assoc x (sum xs) (sum ys))

-- one byte more, and n bytes more
pub sum_more : (s : Bytes) (a i : ℕ) → a + i < length s → sum (take (i + 1) (drop a s)) ≡ sum (take i (drop a s)) + get_or s (a + i) 0
sum_more s a i h =
    ap sum (take_more s a i h) ∙ sum-append (take i (drop a s)) (get_or s (a + i) 0 ∷ []) ∙ ap (λ (k : ℕ). sum (take i (drop a s)) + k) (add-zero (get_or s (a + i) 0))

pub sum-part : (s : Bytes) (i n : ℕ) → sum (take (i + n) s) ≡ sum (take i s) + sum (take n (drop i s))
sum-part s i n = ap sum (take-add i n s) ∙ sum-append (take i s) (take n (drop i s))

-- b more of a sum that is kept modulo 2 ^ 64
pub sum_step : (x b t r y : ℕ) → t ≡ x % 2 ^ 64 → r ≡ (t + b) % 2 ^ 64 → y ≡ x + b → r ≡ y % 2 ^ 64
sum_step x b t r y h k e = omega arith

-- and such a sum reduced
pub sum_last : (x r y : ℕ) → r ≡ x % 2 ^ 64 → x ≡ y → r % 256 ≡ y % 256
sum_last x r y h e = omega arith

-- Of a length m the parts of 2 * n bytes leave what the parts of n bytes leave, and one of these where m has that bit.
module _ (m n : ℕ) where
  halved : n * (2 * (m / n / 2)) + m % (2 * n) ≡ m
  halved =
      let e : 2 * n * (m / n / 2) ≡ n * (2 * (m / n / 2)) = ap (λ (k : ℕ). k * (m / n / 2)) (mul_comm 2 n) ∙ mul_assoc n 2 (m / n / 2) in
      let d : m / n / 2 ≡ m / (2 * n) = div-div-eq-div-mul m n 2 ∙ ap (λ (k : ℕ). m / k) (mul_comm n 2) in
      ap (λ (k : ℕ). k + m % (2 * n)) (sym e ∙ ap (λ (k : ℕ). 2 * n * k) d) ∙ div-add-mod m (2 * n)

  pub bit_clear : (at : ℕ) → at ≡ m - m % (2 * n) → m / n % 2 ≡ 0 → at ≡ m - m % n
  bit_clear at e h =
      let q : m / n ≡ 2 * (m / n / 2) = omega arith in
      omega (arith, halved, ap (λ (k : ℕ). n * k) q, div-add-mod m n)

  pub bit_set : (at : ℕ) → at ≡ m - m % (2 * n) → (m / n % 2 ≡ 0 → ⊥) → (at + n ≤ m) × (at + n ≡ m - m % n)
  bit_set at e h =
      let q : m / n ≡ 2 * (m / n / 2) + 1 = omega arith in
      let r : n * (m / n) ≡ n * (2 * (m / n / 2)) + n = ap (λ (k : ℕ). n * k) q ∙ mul-add n (2 * (m / n / 2)) 1 ∙ ap (λ (k : ℕ). n * (2 * (m / n / 2)) + k) (mul-one n) in
      let l : m % (2 * n) ≡ n + m % n = omega (arith, halved, r, div-add-mod m n) in
      (omega (arith, l, mod-le m (2 * n)), omega (arith, l, mod-le m (2 * n)))
