-- Numbers in decimal digits, over the way they are written: what such a number is, part by part, what digits are worth, and what digits that were read make.
use Rattle.std.proofs.Common.{◌≡◌, ℕ, zero, suc, ◌+◌, ◌-◌, ◌*◌, ◌%◌, ◌^◌, ◌<◌, ◌≤◌, Bool, true, false, not, ◌&&◌, ◌||◌, eqb, leb, [], ◌∷◌, ◌++◌, length, get_or, take, drop, sym, refl, ap, ◌∙◌, ap₂, add-zero, add-suc, suc-add, zero-add, add-one, arith, length-drop, get_or-drop, take_all, get_or-take, eq-eqb, ne_eqb, eqb-true, le-leb, leb-true}
use native.Mathlib.Nat.{pow-le-pow_right}
use native.Mathlib.Decide.{dec_lt}
use mathlib.Core.List.{head-eq_of_cons-eq, tail-eq_of_cons-eq}
use mathlib.Core.Bool.{false≢true, and-false}
use borrow.Author.Tests.{lt-leb, eqb-false}
use Rattle.octets.specs.Bytes.{Bytes, fix, starts, all, digit, digits, within, value, value_from, Writing, no_zeros, writes, Digit}
use Rattle.octets.specs.code.Leaf.{Number}
use Rattle.octets.proofs.Tests.{both, both_true}
use Rattle.octets.proofs.Lists.{part_length, pow_more, few_digits}

pub within_is : (a b n : ℕ) → within a b n ≡ true → (a ≤ n) × (n ≤ b)
within_is a b n e = let w = both (leb a n) (leb n b) e in (leb-true a n w.0, leb-true n b w.1)

pub is_within : (a b n : ℕ) → a ≤ n → n ≤ b → within a b n ≡ true
is_within a b n h k = both_true (leb a n) (leb n b) (le-leb a n h) (le-leb n b k)

-- a digit, as a test and as two orders
pub is_digit : (d : ℕ) → Digit d → digit d ≡ true
is_digit d h = is_within 48 57 d h.0 h.1

pub digit_is : (d : ℕ) → digit d ≡ true → Digit d
digit_is d h = within_is 48 57 d h

pub all_digits : (l : Bytes) → ((i : ℕ) → i < length l → Digit (get_or l i 0)) → all digit l ≡ true
all_digits [] f = refl
all_digits (d ∷ l) f = rw (is_digit d (f 0 (omega arith)), all_digits l (λ i h. f (suc i) (omega arith)))

-- a number that is written so, part by part
pub record Written (w : Writing) (l : Bytes) : Type 0 where
  pub some_digit : 1 ≤ length l
  pub few : length l ≤ w.most
  pub whole : all digit l ≡ true
  pub no_zero : w.zeros ≡ false → get_or l 0 0 ≡ 48 → ⊥

pub written_true : (w : Writing) (l : Bytes) → Written w l → writes w l ≡ true
unfolding writes
written_true w [] h = absurd (omega (arith, h.some_digit))
written_true w (d ∷ l) h =
    rw (le-leb 1 (length (d ∷ l)) h.some_digit, le-leb (length (d ∷ l)) w.most h.few, h.whole) (go w.zeros refl)
  where
    go : (b : Bool) → w.zeros ≡ b → (b || not (eqb 48 d && true)) ≡ true
    go true e = refl
    go false e = rw (ne_eqb 48 d (λ z. h.no_zero e (sym z)))

pub written_means : (w : Writing) (l : Bytes) → writes w l ≡ true → Written w l
unfolding writes
written_means w l h =
    let a = both (digits w.most l) (w.zeros || not (starts (fix "0") l)) h in
    let b = both (leb 1 (length l) && leb (length l) w.most) (all digit l) a.0 in
    let c = both (leb 1 (length l)) (leb (length l) w.most) b.0 in
    record {
      some_digit = leb-true 1 (length l) c.0;
      few = leb-true (length l) w.most c.1;
      whole = b.1;
      no_zero = λ n e. zero_first l e (sym (ap (λ (z : Bool). z || not (starts (fix "0") l)) n) ∙ a.1) (leb-true 1 (length l) c.0);
    }
  where
    zero_first : (k : Bytes) → get_or k 0 0 ≡ 48 → not (starts (fix "0") k) ≡ true → 1 ≤ length k → ⊥
    zero_first [] e g s = omega arith
    zero_first (d ∷ k) e g s = false≢true (sym (ap (λ (b : Bool). not (b && true)) (eq-eqb 48 d (sym e))) ∙ g)

-- a digit is a byte that is at most 9 above `0`, the difference taken modulo 256
pub above_zero : (b r : ℕ) → (r + 48) % 2 ^ 8 ≡ b → r ≤ 9 → Digit b × (r ≡ b - 48)
above_zero b r e h = ((omega arith, omega arith), omega arith)

pub not_above : (b r : ℕ) → (r + 48) % 2 ^ 8 ≡ b → r < 256 → 9 < r → Digit b → ⊥
not_above b r e h k d = omega arith

pub digit_by : (b r : ℕ) → (r + 48) % 2 ^ 8 ≡ b → r < 256 → digit b ≡ leb r 9
digit_by b r e h = go (dec_lt 9 r)
  where
    go : Dec (9 < r) → digit b ≡ leb r 9
    go (yes k) = rw (lt-leb r 9 k) (not_digit (digit b) refl)
      where
        not_digit : (c : Bool) → digit b ≡ c → c ≡ false
        not_digit true p = absurd (not_above b r e h k (digit_is b p))
        not_digit false p = refl
    go (no k) = is_digit b (above_zero b r e (omega arith)).0 ∙ sym (le-leb r 9 (omega arith))

-- the digits that were read where no more bytes are left
pub read_to_end : (s : Bytes) (p left n v c : ℕ) → length s ≤ p + left → left ≤ n → Number s p left v c → Number s p n v c
read_to_end s p left n v c h k N =
    record {
      within = N.within;
      few = omega (arith, N.few);
      digits = N.digits;
      worth = N.worth;
      small = N.small;
      stop = λ l m. N.stop (omega arith) m;
    }

-- the digits that were read
pub read-digits : (s : Bytes) (p n v c : ℕ) → Number s p n v c → all digit (take c (drop p s)) ≡ true
read-digits s p n v c N =
    all_digits (take c (drop p s))
    (λ i h. let j : i < c = omega (arith, part_length s p c N.within) in rw (get_or-take c (drop p s) i 0 j, get_or-drop p s i 0) (N.digits i j))

digits_broken : (l : Bytes) (i : ℕ) → i < length l → (Digit (get_or l i 0) → ⊥) → all digit l ≡ false
digits_broken [] i h n = absurd (omega arith)
digits_broken (d ∷ l) zero h n = go (digit d) refl
  where
    go : (b : Bool) → digit d ≡ b → (b && all digit l) ≡ false
    go true e = absurd (n (digit_is d e))
    go false e = refl
digits_broken (d ∷ l) (suc i) h n = rw (digits_broken l i (omega arith) n) (and-false (digit d))

-- where the reading could go to the end, it went there if all bytes are digits
pub read_is : (s : Bytes) (p n v c : ℕ) → Number s p n v c → length s ≤ p + n → eqb (p + c) (length s) ≡ all digit (drop p s)
read_is s p n v c N h = go (eqb (p + c) (length s)) refl
  where
    go : (b : Bool) → eqb (p + c) (length s) ≡ b → b ≡ all digit (drop p s)
    go true e =
        let k : p + c ≡ length s = eqb-true (p + c) (length s) e in
        sym (ap (all digit) (sym (take_all c (drop p s) (omega (arith, length-drop p s)))) ∙ read-digits s p n v c N)
    go false e =
        let k = eqb-false (p + c) (length s) e in
        let l : p + c < length s = omega (arith, N.within) in
        sym (digits_broken (drop p s) c (omega (arith, length-drop p s)) (λ d. N.stop (omega arith) l (rw (get_or-drop p s c 0) at d)))

-- c digits are worth less than 10 to the c
pub value_grows : (l : Bytes) (n k : ℕ) → all digit l ≡ true → n < 10 ^ k → value_from n l < 10 ^ (k + length l)
value_grows [] n k h g = rw add-zero g
value_grows (d ∷ l) n k h g =
    let w = both (digit d) (all digit l) h in
    let D = digit_is d w.0 in
    rw (add-suc, ← suc-add, ← add-one k)
    (value_grows l (n * 10 + (d - 48)) (k + 1) w.1 (omega (arith, pow_more 10 k)))

-- a numeral of at most n digits is worth less than 10 to the n
pub value_below : (n : ℕ) (l : Bytes) → all digit l ≡ true → length l ≤ n → value l < 10 ^ n
value_below n l h k = few_digits n (length l) (value l) k (rw zero-add at (value_grows l 0 0 h (omega arith)))

-- so what at most n digits that were read are worth
pub read_below : (s : Bytes) (p n v c : ℕ) → Number s p n v c → v < 10 ^ n
read_below s p n v c N =
    let h = value_below n (take c (drop p s)) (read-digits s p n v c N) (omega (arith, N.few, part_length s p c N.within)) in
    omega (arith, N.worth)

-- a numeral is worth 1 or more
pub value_from_lem : (n : ℕ) (l : Bytes) → n ≤ value_from n l
value_from_lem n [] = omega arith
value_from_lem n (d ∷ l) = let h = value_from_lem (n * 10 + (d - 48)) l in omega arith

pub value-above : (n : ℕ) (l : Bytes) → Written (no_zeros n) l → 1 ≤ value l
value-above n [] N = absurd (omega (arith, N.some_digit))
value-above n (d ∷ l) N =
    let D = digit_is d (both (digit d) (all digit l) N.whole).0 in
    let z : d ≡ 48 → ⊥ = N.no_zero refl in
    let h = value_from_lem (0 * 10 + (d - 48)) l in
    omega arith

-- digits behind a number of more than k digits make one of more than k digits and theirs
value_keeps : (l : Bytes) (n k : ℕ) → 10 ^ k ≤ n → 10 ^ (k + length l) ≤ value_from n l
value_keeps [] n k g = rw add-zero g
value_keeps (d ∷ l) n k g = rw (add-suc, ← suc-add, ← add-one k) (value_keeps l (n * 10 + (d - 48)) (k + 1) (omega (arith, pow_more 10 k)))

-- a number below 10 to the n without a leading zero has at most n digits
pub few_enough : (most n : ℕ) (l : Bytes) → Written (no_zeros most) l → value l < 10 ^ n → length l ≤ n
few_enough most n [] N h = omega arith
few_enough most n (d ∷ l) N h = go (dec_lt (length l) n)
  where
    go : Dec (length l < n) → suc (length l) ≤ n
    go (yes k) = omega arith
    go (no k) =
        let D = digit_is d (both (digit d) (all digit l) N.whole).0 in
        let z : d ≡ 48 → ⊥ = N.no_zero refl in
        let p : 10 ^ n ≤ 10 ^ length l = pow-le-pow_right (omega arith) {j = length l} (omega arith) in
        let w = rw (zero-add (length l)) at (value_keeps l (0 * 10 + (d - 48)) 0 (omega arith)) in
        absurd (omega arith)

-- ---- a row of digits, digit by digit
abbrev pub Digits : Bytes → Type 0
Digits [] = Unit {0}
Digits (d ∷ ds) = Digit d × Digits ds

pub row_digits : (ds : Bytes) → all digit ds ≡ true → Digits ds
row_digits [] e = tt
row_digits (d ∷ ds) e = let w = both (digit d) (all digit ds) e in (digit_is d w.0, row_digits ds w.1)

pub digits_row : (ds : Bytes) → Digits ds → all digit ds ≡ true
digits_row [] h = refl
digits_row (d ∷ ds) h = both_true (digit d) (all digit ds) (is_digit d h.0) (digits_row ds h.1)

pub digit_at : (ds : Bytes) → Digits ds → (i : ℕ) → i < length ds → Digit (get_or ds i 0)
digit_at [] h i l = absurd (omega arith)
digit_at (d ∷ ds) h zero l = h.0
digit_at (d ∷ ds) h (suc i) l = digit_at ds h.1 i (omega arith)

pub digits_of : (l : Bytes) (c : ℕ) → c ≤ length l → ((i : ℕ) → i < c → Digit (get_or l i 0)) → Digits (take c l)
digits_of l zero h f = tt
digits_of [] (suc c) h f = absurd (omega arith)
digits_of (x ∷ l) (suc c) h f = (f 0 (omega arith), digits_of l c (omega arith) (λ i k. f (suc i) (omega arith)))

pub digits_append : (ds es : Bytes) → Digits ds → Digits es → Digits (ds ++ es)
digits_append [] es h k = k
digits_append (d ∷ ds) es h k = (h.0, digits_append ds es h.1 k)

-- digits up to the first `|`
pub split_digits : (ds es a b : Bytes) → Digits ds → Digits es → ds ++ (1 ∷ a) ≡ es ++ (1 ∷ b) → ds ≡ es
split_digits [] [] a b _ _ e = refl
split_digits [] (d ∷ es) a b _ h e = let k : 1 ≡ d = head-eq_of_cons-eq e in absurd (omega arith)
split_digits (d ∷ ds) [] a b h _ e = let k : d ≡ 1 = head-eq_of_cons-eq e in absurd (omega arith)
split_digits (d ∷ ds) (d' ∷ es) a b h k e =
    ap₂ (λ (x : ℕ) (l : Bytes). x ∷ l) (head-eq_of_cons-eq e) (split_digits ds es a b h.1 k.1 (tail-eq_of_cons-eq e))
