-- Digits that were read at a place, against the decimal form of a number that stands there.
-- Assumes nothing.
use Prim.Native.Nat.{ℕ, zero, suc, ◌+◌, ◌*◌, ◌-◌, ◌≤◌, ◌<◌}
use native.Mathlib.Decide.{dec_lt}
use native.Mathlib.Omega.{arith}
use mathlib.Core.Path.{◌≡◌, refl, sym, ap, ◌∙◌, subst}
use mathlib.Core.List.{[], ◌∷◌}
use mathlib.Core.Bool.{Bool, true, false}
use lib.ListN.{length, take, drop, get_or, length-drop}
use lib.Seq.{get_or-take, get_or-drop}
use native.Mathlib.Nat.{add-zero}
use Rattle.octets.specs.Bytes.{Bytes, all, digit, value, value_from, decimal, At, Digit}
use Rattle.octets.specs.code.Leaf.{Number}
use Rattle.octets.proofs.Tests.{both}
use Rattle.kept.specs.code.Peeked.{leading}
use Rattle.octets.proofs.Lists.{at_byte, part_length}
use Rattle.octets.proofs.Numerals.{Digits, digit_at, digit_is, read-digits, value_below}
use Rattle.octets.proofs.Decimals.{decimal-written, decimal-worth, written-decimal}
use Rattle.message.proofs.Cutting.{decimal-digits}
use Rattle.message.proofs.Writes.{digits_3}

module _ (s : Bytes) (p most v c : ℕ) (N : Number s p most v c) where
  -- digits that stand there, with no further one behind, are those that were read
  pub read_as : (l : Bytes) → Digits l → At s p l → length l ≤ most → (length l < most → Digit (get_or s (p + length l) 0) → ⊥) → (c ≡ length l) × (v ≡ value l)
  read_as l D A few stop =
      let e = same (dec_lt c (length l)) (dec_lt (length l) c) in
      (e, N.worth ∙ ap (λ (k : ℕ). value (take k (drop p s))) e ∙ ap value A.1)
    where
      same : Dec (c < length l) → Dec (length l < c) → c ≡ length l
      same (yes h) k = absurd (N.stop (omega arith) (omega (arith, A.0)) (subst Digit (sym (at_byte s p l A c h)) (digit_at l D c h)))
      same (no h) (yes k) = absurd (stop (omega (arith, N.few)) (N.digits (length l) k))
      same (no h) (no k) = omega arith

  its_length : length (take c (drop p s)) ≡ c
  its_length = part_length s p c N.within

  some_digit : 1 ≤ v → 0 < c
  some_digit low = go (dec_lt 0 c)
    where
      go : Dec (0 < c) → 0 < c
      go (yes h) = h
      go (no h) = let z : c ≡ 0 = omega arith in absurd (omega (arith, N.worth ∙ ap (λ (k : ℕ). value (take k (drop p s))) z))

  -- with no zero in front they are the decimal form of what they are worth
  form : 1 ≤ v → (get_or (take c (drop p s)) 0 0 ≡ 48 → ⊥) → At s p (decimal v) × (c ≡ length (decimal v))
  form low no_zero =
      let l = take c (drop p s) in
      let e : decimal v ≡ l =
      ap decimal N.worth
      ∙ written-decimal most l
      (record { some_digit = omega (arith, its_length, some_digit low); few = omega (arith, its_length, N.few); whole = read-digits s p most v c N; no_zero = λ _. no_zero }) in
      let n : length (decimal v) ≡ c = ap length e ∙ its_length in
      ((omega (arith, n, N.within), ap (λ (k : ℕ). take k (drop p s)) n ∙ sym e), sym n)

  pub is_decimal : 1 ≤ v → (get_or s p 0 ≡ 48 → ⊥) → At s p (decimal v) × (c ≡ length (decimal v))
  is_decimal low h =
      form low (λ e. h (ap (λ (j : ℕ). get_or s j 0) (sym (add-zero p)) ∙ sym (get_or-drop p s 0 0) ∙ sym (get_or-take c (drop p s) 0 0 (some_digit low)) ∙ e))

-- three digits that are worth 100 or more have no zero in front
hundred : (l : Bytes) → all digit l ≡ true → length l ≤ 3 → 100 ≤ value l → get_or l 0 0 ≡ 48 → ⊥
hundred [] h k low e = omega arith
hundred (d ∷ l) h k low e =
    let w : value (d ∷ l) ≡ value l = ap (λ (x : ℕ). value_from (0 * 10 + (x - 48)) l) e in
    omega (arith, w, value_below 2 l (both (digit d) (all digit l) h).1 (omega arith))

pub three-digits : (s : Bytes) (p v c : ℕ) → Number s p 3 v c → 100 ≤ v → At s p (decimal v)
three-digits s p v c N low =
    (form s p 3 v c N (omega arith)
    (hundred (take c (drop p s)) (read-digits s p 3 v c N) (omega (arith, part_length s p c N.within, N.few)) (omega (arith, N.worth)))).0

-- THE LENGTH: three digits
pub three : (k : ℕ) → 100 ≤ k → k < 1000 → length (decimal k) ≡ 3
three k h g = omega (arith, digits_3 k h g)

pub read-three : (s : Bytes) (p v c k : ℕ) → Number s p 3 v c → 100 ≤ k → k < 1000 → At s p (decimal k) → v ≡ k
read-three s p v c k N h g A =
    (read_as s p 3 v c N (decimal k) (decimal-digits k) A (omega (arith, three k h g)) (λ l. absurd (omega (arith, three k h g)))).1 ∙ decimal-worth k

-- A REPORT'S NUMBER: at most nine digits, and `|` behind
pub read-nine : (s : Bytes) (p v c k : ℕ) → Number s p 9 v c → 1 ≤ k → k < 1_000_000_000 → At s p (decimal k) → get_or s (p + length (decimal k)) 0 ≡ 1
    → (c ≡ length (decimal k)) × (v ≡ k)
read-nine s p v c k N h g A bar =
    let R =
    read_as s p 9 v c N (decimal k) (decimal-digits k) A (decimal-written 8 k h g).few
    (λ l D. let E = subst Digit bar D in absurd (omega (arith, E.0))) in
    (R.0, R.1 ∙ decimal-worth k)

-- what was read are the digits that the bytes begin with there
leading_is : (n c : ℕ) (l : Bytes) → c ≤ n → c ≤ length l → all digit (take c l) ≡ true → (c < n → c < length l → digit (get_or l c 0) ≡ false) → leading n l ≡ take c l
leading_is zero zero l h k a s = refl
leading_is zero (suc c) l h k a s = absurd (omega arith)
leading_is (suc n) zero [] h k a s = refl
leading_is (suc n) zero (x ∷ l) h k a s = rw (s (omega arith) (omega arith))
leading_is (suc n) (suc c) [] h k a s = absurd (omega arith)
leading_is (suc n) (suc c) (x ∷ l) h k a s =
    let w = both (digit x) (all digit (take c l)) a in
    rw w.0 (ap (λ (r : Bytes). x ∷ r) (leading_is n c l (omega arith) (omega arith) w.1 (λ i j. s (omega arith) (omega arith))))

pub leading_all : (s : Bytes) (p most v c : ℕ) → Number s p most v c → leading most (drop p s) ≡ take c (drop p s)
leading_all s p most v c N =
    leading_is most c (drop p s) N.few (omega (arith, N.within, length-drop p s)) (read-digits s p most v c N) (λ h l. go h l (digit (get_or (drop p s) c 0)) refl)
  where
    go : c < most → c < length (drop p s) → (b : Bool) → digit (get_or (drop p s) c 0) ≡ b → b ≡ false
    go h l true e = absurd (N.stop h (omega (arith, l, length-drop p s)) (subst Digit (get_or-drop p s c 0) (digit_is (get_or (drop p s) c 0) e)))
    go h l false e = refl
