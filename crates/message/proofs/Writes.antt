-- What stands in a buffer after bytes were written into it, one behind the other; and the digits of a number, one by one.
use Prim.Native.Nat.{ℕ, zero, suc, ◌+◌, ◌-◌, ◌*◌, ◌/◌, ◌^◌, ◌≤◌, ◌<◌, max}
use native.Mathlib.Nat.{add-zero, add-suc, suc-add, pow-succ', one-le-pow}
use native.Mathlib.Numerals.{add-one}
use native.Mathlib.Omega.{arith}
use mathlib.Core.Path.{◌≡◌, refl, sym, ap, ◌∙◌, subst}
use mathlib.Core.List.{List, [], ◌∷◌, ◌++◌, append_assoc}
use lib.ListN.{length, take, drop, get_or, set, length-append}
use lib.Seq.{sets, sets-eq, take-suc, drop_at, length-take-le, take-append_seam}
use Rattle.octets.specs.Bytes.{Bytes, decimal}
use Rattle.octets.proofs.Decimals.{decimal-written}
use Rattle.octets.proofs.Rightmost.{length_small, length-step}
use Rattle.message.specs.Message.{Field, field, row}
use Rattle.message.specs.Wrote.{Wrote}

-- xs and behind them ys
sets_append : (xs ys l : Bytes) (i : ℕ) → sets (sets l i xs) (i + length xs) ys ≡ sets l i (xs ++ ys)
sets_append [] ys l i = ap (λ (k : ℕ). sets l k ys) (add-zero i)
sets_append (x ∷ xs) ys l i =
    ap (λ (k : ℕ). sets (sets (set l i x) (suc i) xs) k ys) (add-suc i (length xs) ∙ sym (suc-add i (length xs))) ∙ sets_append xs ys (set l i x) (suc i)

pub chain : {d d₁ d₂ : Bytes} {at t₁ t₂ : ℕ} {xs ys : Bytes} → Wrote d d₁ at t₁ xs → Wrote d₁ d₂ t₁ t₂ ys → Wrote d d₂ at t₂ (xs ++ ys)
chain {d} {d₁} {d₂} {at} {t₁} {t₂} {xs} {ys} a b =
    record {
      next = omega (arith, length-append xs ys, a.next, b.next);
      bytes = b.bytes ∙ ap (λ (l : Bytes). sets l t₁ ys) a.bytes ∙ ap (λ (k : ℕ). sets (sets d at xs) k ys) a.next ∙ sets_append xs ys d at;
    }

-- nothing written
pub nothing : {d : Bytes} {at : ℕ} → Wrote d d at at []
nothing {d} {at} = record { next = omega arith; bytes = refl }

-- the same bytes, said otherwise
pub reword : {d d' : Bytes} {at to : ℕ} {xs ys : Bytes} → xs ≡ ys → Wrote d d' at to xs → Wrote d d' at to ys
reword e w = rw e at w

-- a part of the buffer, and all of it
pub spliced : {d d' : Bytes} {at to : ℕ} {xs : Bytes} → Wrote d d' at to xs → at + length xs ≤ length d → d' ≡ take at d ++ xs ++ drop (at + length xs) d
spliced {d} {d'} {at} {to} {xs} w h = w.bytes ∙ sets-eq xs d at h

pub part_of : {d d' : Bytes} {at to : ℕ} {xs : Bytes} → Wrote d d' at to xs → to ≤ length d → take (to - at) (drop at d') ≡ xs
part_of {d} {d'} {at} {to} {xs} w h =
    let room : at + length xs ≤ length d = omega (arith, w.next) in
    let e : to - at ≡ length xs = omega (arith, w.next) in
    let s : at ≤ length d = omega arith in
    rw (e, spliced w room, append_assoc, drop_at (take at d) (xs ++ drop (at + length xs) d) at (length-take-le at d s), take-append_seam)

pub front_of : {d d' : Bytes} {to : ℕ} {xs : Bytes} → Wrote d d' 0 to xs → to ≤ length d → take to d' ≡ xs
front_of {d} {d'} {to} {xs} w h = let e : to ≡ to - 0 = omega arith in ap (λ (k : ℕ). take k d') e ∙ part_of w h

-- one byte more of what is copied
pub byte_more : {d d₁ : Bytes} {at i : ℕ} (s : Bytes) → i < length s → Wrote d d₁ at (at + i) (take i s) → Wrote d (set d₁ (at + i) (get_or s i 0)) at (at + (i + 1)) (take (i + 1) s)
byte_more {d} {d₁} {at} {i} s h w =
    reword (sym (rw (add-one, take-suc s i 0 h))) (chain {ys = get_or s i 0 ∷ []} w (record { next = omega arith; bytes = refl }))

-- fields behind fields
pub row_append : (xs ys : List Field) → row (xs ++ ys) ≡ row xs ++ row ys
row_append [] ys = refl
row_append (f ∷ xs) ys = ap (λ (l : Bytes). field f ++ l) (row_append xs ys) ∙ sym (append_assoc (field f) (row xs) (row ys))

pub more : {d d₁ d₂ : Bytes} {at t₁ t₂ : ℕ} (xs ys : List Field) → Wrote d d₁ at t₁ (row xs) → Wrote d₁ d₂ t₁ t₂ (row ys) → Wrote d d₂ at t₂ (row (xs ++ ys))
more xs ys a b = reword (sym (row_append xs ys)) (chain a b)

-- DIGITS
-- a number below 10 to the k + 1 has at most k + 1 digits
pub few_digits : (k n : ℕ) → n < 10 ^ suc k → (1 ≤ length (decimal n)) × (length (decimal n) ≤ suc k)
unfolding decimal
few_digits k zero h = (omega arith, omega arith)
few_digits k (suc n) h = let N = decimal-written k (suc n) (omega arith) h in (N.some_digit, N.few)

-- how many there are, by the powers of ten around the number
counted : (k n : ℕ) → 10 ^ k ≤ n → n < 10 * 10 ^ k → 1 + k ≡ length (decimal n)
counted zero n l h = omega (arith, length_small n (omega arith))
counted (suc k) n l h =
    let p : 10 ^ suc k ≡ 10 * 10 ^ k = pow-succ' 10 k in
    let o : 1 ≤ 10 ^ k = one-le-pow k 10 (omega arith) in
    omega (arith, p, o, length-step n (omega (arith, p, o)), counted k (n / 10) (omega (arith, p)) (omega (arith, p)))

-- 0 has as many as 1
pub many : (n m k : ℕ) → m ≡ max n 1 → 10 ^ k ≤ m → m < 10 * 10 ^ k → 1 + k ≡ length (decimal n)
many zero m k e l h = omega (arith, counted k m l h, e, length_small 0 (omega arith), length_small m (omega (arith, e)))
many (suc n) m k e l h = let w : m ≡ suc n = omega (arith, e) in subst (λ (x : ℕ). 1 + k ≡ length (decimal x)) w (counted k m l h)

-- the four sizes of a body's length, where they matter
pub digits_3 : (n : ℕ) → 100 ≤ n → n < 1000 → n + 24 ≡ n + length (decimal n) + 21
digits_3 n l h = omega (arith, length-step n (omega arith), length-step (n / 10) (omega arith), length_small (n / 10 / 10) (omega arith))
