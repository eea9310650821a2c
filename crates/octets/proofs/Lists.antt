-- Laws of byte lists: one more byte of a part and what its digits are worth, and what stands at a place.
use Rattle.std.proofs.Common.{◌≡◌, ℕ, ◌+◌, ◌-◌, ◌*◌, ◌^◌, ◌<◌, ◌≤◌, [], ◌∷◌, ◌++◌, length, get_or, take, drop, sym, refl, ap, ◌∙◌, add_assoc, pow-suc, add-one, arith, length-append, length-drop, length-take-le, get_or-drop, get_or-take, take-suc, ext_get_or}
use native.Mathlib.Nat.{pow-le-pow_right}
use lib.ListN.{get_or-append}
use lib.Seq.{drop-append-le, take-append-le}
use Rattle.octets.specs.Bytes.{Bytes, value, value_from, At}
use Rattle.octets.specs.code.Leaf.{Matched}

-- one more byte of a part
pub take_more : (s : Bytes) (a n : ℕ) → a + n < length s → take (n + 1) (drop a s) ≡ take n (drop a s) ++ (get_or s (a + n) 0 ∷ [])
take_more s a n h =
    let e : n < length (drop a s) = simp length-drop (omega arith) in
    rw (add-one, take-suc (drop a s) n 0 e, get_or-drop)

pub value_from-append : (v : ℕ) (xs ys : Bytes) → value_from v (xs ++ ys) ≡ value_from (value_from v xs) ys
value_from-append v [] ys = refl
value_from-append v (x ∷ xs) ys = value_from-append (v * 10 + (x - 48)) xs ys

pub value_more : (s : Bytes) (a n : ℕ) → a + n < length s → value (take (n + 1) (drop a s)) ≡ value (take n (drop a s)) * 10 + (get_or s (a + n) 0 - 48)
value_more s a n h =
    ap value (take_more s a n h) ∙ value_from-append 0 (take n (drop a s)) (get_or s (a + n) 0 ∷ [])

pub pow_more : (b c : ℕ) → b ^ (c + 1) ≡ b ^ c * b
pow_more b c = rw add-one (pow-suc b c)

-- at most k digits are worth less than 10 to the k
pub few_digits : (k c v : ℕ) → c ≤ k → v < 10 ^ c → v < 10 ^ k
few_digits k c v l h =
    let p : 10 ^ c ≤ 10 ^ k = pow-le-pow_right (omega arith) {j = k} l in
    omega arith

-- what stands at a place, byte by byte
pub at_byte : (s : Bytes) (p : ℕ) (l : Bytes) → At s p l → (i : ℕ) → i < length l → get_or s (p + i) 0 ≡ get_or l i 0
at_byte s p l h i k =
    sym (get_or-drop p s i 0) ∙ sym (get_or-take (length l) (drop p s) i 0 k) ∙ ap (λ (xs : Bytes). get_or xs i 0) h.1

pub bytes_at : (s : Bytes) (p : ℕ) (l : Bytes) → p + length l ≤ length s → ((i : ℕ) → i < length l → get_or s (p + i) 0 ≡ get_or l i 0) → At s p l
bytes_at s p l h f =
    let e : length (take (length l) (drop p s)) ≡ length l = length-take-le (length l) (drop p s) (simp length-drop (omega arith)) in
    (h, ext_get_or 0 (take (length l) (drop p s)) l e (λ i k. let j : i < length l = omega arith in get_or-take (length l) (drop p s) i 0 j ∙ get_or-drop p s i 0 ∙ f i j))

pub matched_at : (s : Bytes) (p : ℕ) (l : Bytes) (r : ℕ) → Matched s p l r → r ≡ length l → At s p l
matched_at s p l r m e = bytes_at s p l (omega (arith, m.within)) (λ i k. m.same i (omega arith))

pub unmatched_at : (s : Bytes) (p : ℕ) (l : Bytes) (r : ℕ) → Matched s p l r → (r ≡ length l → ⊥) → At s p l → ⊥
unmatched_at s p l r m n h =
    let k : r < length l = omega (arith, m.most) in
    m.stop k (omega (arith, h.0)) (at_byte s p l h r k)

-- where bytes stand: in a part, in the whole, in a longer list
pub part_length : (s : Bytes) (p n : ℕ) → p + n ≤ length s → length (take n (drop p s)) ≡ n
part_length s p n h = length-take-le n (drop p s) (simp length-drop (omega arith))

pub at_part : (s : Bytes) (p n q : ℕ) (l : Bytes) → p + n ≤ length s → q + length l ≤ n → At s (p + q) l → At (take n (drop p s)) q l
at_part s p n q l h k a =
    let e : length (take n (drop p s)) ≡ n = part_length s p n h in
    bytes_at (take n (drop p s)) q l (omega arith)
    (λ i j. get_or-take n (drop p s) (q + i) 0 (omega arith) ∙ get_or-drop p s (q + i) 0 ∙ ap (λ (x : ℕ). get_or s x 0) (sym (add_assoc p q i)) ∙ at_byte s (p + q) l a i j)

pub at_whole : (s : Bytes) (p n q : ℕ) (l : Bytes) → p + n ≤ length s → At (take n (drop p s)) q l → At s (p + q) l
at_whole s p n q l h a =
    let e : length (take n (drop p s)) ≡ n = part_length s p n h in
    let k : q + length l ≤ n = omega (arith, a.0) in
    bytes_at s (p + q) l (omega arith)
    (λ i j. ap (λ (x : ℕ). get_or s x 0) (add_assoc p q i) ∙ sym (get_or-drop p s (q + i) 0) ∙ sym (get_or-take n (drop p s) (q + i) 0 (omega arith)) ∙ at_byte (take n (drop p s)) q l a i j)

pub at_more : (s t : Bytes) (q : ℕ) (l : Bytes) → At s q l → At (s ++ t) q l
at_more s t q l a =
    bytes_at (s ++ t) q l (omega (arith, a.0, length-append s t))
    (λ i j. get_or-append s t 0 (q + i) (omega (arith, a.0)) ∙ at_byte s q l a i j)

-- a part of s that lies in s is the same part of a longer list
pub part_more : (s t : Bytes) (p n : ℕ) → p + n ≤ length s → take n (drop p (s ++ t)) ≡ take n (drop p s)
part_more s t p n h =
    let k : n ≤ length (drop p s) = simp length-drop (omega arith) in
    ap (λ (l : Bytes). take n l) (drop-append-le p s t (omega arith)) ∙ take-append-le n (drop p s) t k
