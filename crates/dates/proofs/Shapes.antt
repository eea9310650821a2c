-- The shapes of days and times: a shape joined of two, of letters alone, and compared one byte at a time as the code does.
use Rattle.std.proofs.Common.{◌≡◌, ℕ, zero, suc, ◌+◌, ◌<◌, ◌≤◌, Bool, true, false, cond, ◌&&◌, eqb, leb, [], ◌∷◌, ◌++◌, length, get_or, take, drop, sym, refl, ap, ◌∙◌, not-suc-le-zero, add-one, arith, drop-cons}
use mathlib.Core.Bool.{and-true, and-false, false≢true}
use lib.Dec.{eqb-suc-suc, eqb-zero-suc, eqb-suc-zero}
use Rattle.octets.specs.Bytes.{Bytes, all, digit, Digit}
use Rattle.octets.proofs.Tests.{both}
use Rattle.octets.proofs.Numerals.{digit_is}
use Rattle.dates.specs.Date.{like}
use Rattle.dates.specs.code.Scan.{stands_for}

-- n bytes from place i on, one by one
abbrev pub bytes_from : ℕ → ℕ → Bytes → Bytes
bytes_from i zero v = []
bytes_from i (suc n) v = get_or v i 0 ∷ bytes_from (suc i) n v

pub bytes_are : (i n : ℕ) (v : Bytes) → i + n ≤ length v → take n (drop i v) ≡ bytes_from i n v
bytes_are i zero v h = refl
bytes_are i (suc n) v h = rw (drop-cons v i 0 (omega arith)) (ap (λ (l : Bytes). get_or v i 0 ∷ l) (bytes_are (suc i) n v (omega arith)))

-- a shape joined of two
pub like-append : (s t v : Bytes) → like (s ++ t) v ≡ (like s (take (length s) v) && like t (drop (length s) v))
like-append [] t v = refl
like-append (x ∷ s) t [] = refl
like-append (x ∷ s) t (y ∷ v) = go (cond (leb 65 x) (digit y) (eqb y x)) (like-append s t v)
  where
    go : (c : Bool) → like (s ++ t) v ≡ (like s (take (length s) v) && like t (drop (length s) v))
        → (c && like (s ++ t) v) ≡ ((c && like s (take (length s) v)) && like t (drop (length s) v))
    go true e = e
    go false e = refl

-- a shape that is longer or shorter than the bytes
pub like-long : (s v : Bytes) → (length s ≡ length v → ⊥) → like s v ≡ false
like-long [] [] n = absurd (n refl)
like-long [] (y ∷ v) n = refl
like-long (x ∷ s) [] n = refl
like-long (x ∷ s) (y ∷ v) n = rw (like-long s v (λ e. n (ap suc e))) (and-false (cond (leb 65 x) (digit y) (eqb y x)))

-- a shape of letters alone
pub like_letters : (s v : Bytes) → all (leb 65) s ≡ true → like s v ≡ (eqb (length v) (length s) && all digit v)
like_letters [] [] h = refl
like_letters [] (y ∷ v) h = rw (eqb-suc-zero (length v))
like_letters (x ∷ s) [] h = rw (eqb-zero-suc (length s))
like_letters (x ∷ s) (y ∷ v) h =
    let w = both (leb 65 x) (all (leb 65) s) h in
    rw (w.0, like_letters s v w.1, eqb-suc-suc (length v) (length s)) (go (digit y) (eqb (length v) (length s)))
  where
    go : (c d : Bool) → (c && (d && all digit v)) ≡ (d && (c && all digit v))
    go true d = refl
    go false true = refl
    go false false = refl

-- bytes of a shape are as long as it is
pub like-length : (s v : Bytes) → like s v ≡ true → length v ≡ length s
like-length [] [] h = refl
like-length [] (y ∷ v) h = absurd (false≢true h)
like-length (x ∷ s) [] h = absurd (false≢true h)
like-length (x ∷ s) (y ∷ v) h = ap suc (like-length s v (both (cond (leb 65 x) (digit y) (eqb y x)) (like s v) h).1)

-- letters in the middle of a shape
pub like_middle : (a b c v : Bytes) → all (leb 65) b ≡ true → like (a ++ (b ++ c)) v ≡ true → all digit (take (length b) (drop (length a) v)) ≡ true
like_middle a b c v l h =
    let w = drop (length a) v in
    let from = (both (like a (take (length a) v)) (like (b ++ c) w) (sym (like-append a (b ++ c) v) ∙ h)).1 in
    let here = (both (like b (take (length b) w)) (like c (drop (length b) w)) (sym (like-append b c w) ∙ from)).0 in
    (both (eqb (length (take (length b) w)) (length b)) (all digit (take (length b) w)) (sym (like_letters b (take (length b) w) l) ∙ here)).1

-- a shape whose beginning is known
pub like-rest : (s t v : Bytes) → like s (take (length s) v) ≡ true → like (s ++ t) v ≡ like t (drop (length s) v)
like-rest s t v h = like-append s t v ∙ ap (λ (b : Bool). b && like t (drop (length s) v)) h

-- the beginning of a shape
pub like-front : (s t v : Bytes) → like (s ++ t) v ≡ true → like s (take (length s) v) ≡ true
like-front s t v h = (both (like s (take (length s) v)) (like t (drop (length s) v)) (sym (like-append s t v) ∙ h)).0

-- where the shape has a letter there is a digit
pub like-digit : (s v : Bytes) → like s v ≡ true → (i : ℕ) → leb 65 (get_or s i 0) ≡ true → Digit (get_or v i 0)
like-digit [] v h i l = absurd (false≢true l)
like-digit (x ∷ s) [] h i l = absurd (false≢true h)
like-digit (x ∷ s) (y ∷ v) h zero l = digit_is y (both (digit y) (like s v) (rw l at h)).0
like-digit (x ∷ s) (y ∷ v) h (suc i) l = like-digit s v (both (cond (leb 65 x) (digit y) (eqb y x)) (like s v) h).1 i l

-- one byte more
like-step : (s v : Bytes) (k : ℕ) → k < length s → k < length v
    → like (take (suc k) s) (take (suc k) v) ≡ (like (take k s) (take k v) && stands_for (get_or s k 0) (get_or v k 0))
like-step [] v k h g = absurd (not-suc-le-zero h)
like-step (x ∷ s) [] k h g = absurd (not-suc-le-zero g)
like-step (x ∷ s) (y ∷ v) zero h g = and-true (stands_for x y)
like-step (x ∷ s) (y ∷ v) (suc k) h g = go (stands_for x y) (like-step s v k (omega arith) (omega arith))
  where
    go : (c : Bool) → like (take (suc k) s) (take (suc k) v) ≡ (like (take k s) (take k v) && stands_for (get_or s k 0) (get_or v k 0))
        → (c && like (take (suc k) s) (take (suc k) v)) ≡ ((c && like (take k s) (take k v)) && stands_for (get_or s k 0) (get_or v k 0))
    go true e = e
    go false e = refl

-- the flag behind it
pub flag_next : (s v : Bytes) (k : ℕ) {f b : Bool} {x y : ℕ} → (k < length s) × (k < length v) × ((d : ℕ) → x ≡ get_or s k d) × ((d : ℕ) → y ≡ get_or v k d)
    → f ≡ like (take k s) (take k v) → b ≡ stands_for x y → (f && b) ≡ like (take (k + 1) s) (take (k + 1) v)
flag_next s v k z p q = rw (p, q, z.2 0, z.3 0, add-one) (sym (like-step s v k z.0 z.1))
