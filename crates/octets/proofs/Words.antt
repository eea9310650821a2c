-- Eight bytes as one number: equal numbers, equal bytes. So 8 to 16 bytes are compared by two of them.
use Rattle.std.proofs.Common.{◌≡◌, ℕ, zero, suc, ◌+◌, ◌-◌, ◌*◌, ◌<◌, ◌≤◌, length, get_or, sym, refl, ap, ◌∙◌, add-zero, add_assoc, zero-add, arith}
use native.Mathlib.Decide.{dec_lt}
use Rattle.octets.specs.Bytes.{Bytes, At}
use Rattle.octets.specs.code.Leaf.{word_at, Matched}
use Rattle.octets.proofs.Lists.{at_byte, bytes_at}

low : (a b x y : ℕ) → a < 256 → b < 256 → a + x * 256 ≡ b + y * 256 → a ≡ b
low a b x y p q e = omega arith

high : (a b x y : ℕ) → a < 256 → b < 256 → a + x * 256 ≡ b + y * 256 → x ≡ y
high a b x y p q e = omega arith

-- n bytes as one number, the first one least
abbrev joint : ℕ → (ℕ → ℕ) → ℕ
joint zero f = 0
joint (suc n) f = f zero + joint n (λ k. f (suc k)) * 256

joint-same : (n : ℕ) (f g : ℕ → ℕ) → ((k : ℕ) → f k < 256) → ((k : ℕ) → g k < 256) → joint n f ≡ joint n g → (k : ℕ) → k < n → f k ≡ g k
joint-same zero f g p q e k h = absurd (omega arith)
joint-same (suc n) f g p q e zero h = low (f zero) (g zero) (joint n (λ k. f (suc k))) (joint n (λ k. g (suc k))) (p zero) (q zero) e
joint-same (suc n) f g p q e (suc k) h =
    joint-same n (λ k. f (suc k)) (λ k. g (suc k)) (λ k. p (suc k)) (λ k. q (suc k))
    (high (f zero) (g zero) (joint n (λ k. f (suc k))) (joint n (λ k. g (suc k))) (p zero) (q zero) e)
    k (omega arith)

-- the sum of eight, byte by byte
joined : (a b c d e f g h : ℕ)
    → a + (b + (c + (d + (e + (f + (g + (h + 0 * 256) * 256) * 256) * 256) * 256) * 256) * 256) * 256
    ≡ a + b * 256 + c * 65536 + d * 16777216 + e * 4294967296 + f * 1099511627776 + g * 281474976710656 + h * 72057594037927936
joined a b c d e f g h = omega arith

word-joint : (s : Bytes) (i : ℕ) → joint 8 (λ k. get_or s (i + k) 0) ≡ word_at s i
word-joint s i =
    joined (get_or s (i + 0) 0) (get_or s (i + 1) 0) (get_or s (i + 2) 0) (get_or s (i + 3) 0) (get_or s (i + 4) 0) (get_or s (i + 5) 0) (get_or s (i + 6) 0) (get_or s (i + 7) 0)
    ∙ ap (λ (z : ℕ). get_or s z 0 + get_or s (i + 1) 0 * 256 + get_or s (i + 2) 0 * 65536 + get_or s (i + 3) 0 * 16777216 + get_or s (i + 4) 0 * 4294967296 + get_or s (i + 5) 0 * 1099511627776 + get_or s (i + 6) 0 * 281474976710656 + get_or s (i + 7) 0 * 72057594037927936) (add-zero i)

module _ (s t : Bytes) (small : (k : ℕ) → get_or s k 0 < 256) (small' : (k : ℕ) → get_or t k 0 < 256) where
  -- equal numbers, equal bytes
  pub same_bytes : (i j : ℕ) → word_at s i ≡ word_at t j → (k : ℕ) → k < 8 → get_or s (i + k) 0 ≡ get_or t (j + k) 0
  same_bytes i j e =
      joint-same 8 (λ k. get_or s (i + k) 0) (λ k. get_or t (j + k) 0) (λ k. small (i + k)) (λ k. small' (j + k)) (word-joint s i ∙ e ∙ sym (word-joint t j))

joint_of : (n : ℕ) (f g : ℕ → ℕ) → ((k : ℕ) → k < n → f k ≡ g k) → joint n f ≡ joint n g
joint_of zero f g h = refl
joint_of (suc n) f g h =
    let e₁ : f zero ≡ g zero = h zero (omega arith) in
    let e₂ : joint n (λ k. f (suc k)) ≡ joint n (λ k. g (suc k)) = joint_of n (λ k. f (suc k)) (λ k. g (suc k)) (λ k l. h (suc k) (omega arith)) in
    ap (λ (x : ℕ). x + joint n (λ k. f (suc k)) * 256) e₁ ∙ ap (λ (x : ℕ). g zero + x * 256) e₂

-- equal bytes, equal numbers
pub same_word : (s t : Bytes) (i j : ℕ) → ((k : ℕ) → k < 8 → get_or s (i + k) 0 ≡ get_or t (j + k) 0) → word_at s i ≡ word_at t j
same_word s t i j h =
    sym (word-joint s i) ∙ joint_of 8 (λ k. get_or s (i + k) 0) (λ k. get_or t (j + k) 0) h ∙ word-joint t j

-- what stands at a place by its first eight bytes and its last eight
module _ (s l : Bytes) (p : ℕ) (long : 8 ≤ length l) where
  pub at_words : ((k : ℕ) → get_or s k 0 < 256) → ((k : ℕ) → get_or l k 0 < 256) → length l ≤ 16 → p + length l ≤ length s
      → word_at s p ≡ word_at l 0 → word_at s (p + (length l - 8)) ≡ word_at l (length l - 8) → At s p l
  at_words small small' short h e₁ e₂ = bytes_at s p l h (λ i k. go i k (dec_lt i 8))
    where
      go : (i : ℕ) → i < length l → Dec (i < 8) → get_or s (p + i) 0 ≡ get_or l i 0
      go i k (yes y) = same_bytes s l small small' p 0 e₁ i y ∙ ap (λ (z : ℕ). get_or l z 0) (zero-add i)
      go i k (no y) =
          let n : ℕ = length l - 8 in
          let w : p + i ≡ p + (length l - 8) + (i - (length l - 8)) = omega arith in
          let w' : length l - 8 + (i - (length l - 8)) ≡ i = omega arith in
          ap (λ (z : ℕ). get_or s z 0) w
          ∙ same_bytes s l small small' (p + (length l - 8)) (length l - 8) e₂ (i - (length l - 8)) (omega arith)
          ∙ ap (λ (z : ℕ). get_or l z 0) w'

  pub words_first : At s p l → word_at s p ≡ word_at l 0
  words_first A = same_word s l p 0 (λ k h. at_byte s p l A k (omega arith) ∙ ap (λ (z : ℕ). get_or l z 0) (sym (zero-add k)))

  pub words_last : At s p l → word_at s (p + (length l - 8)) ≡ word_at l (length l - 8)
  words_last A =
      same_word s l (p + (length l - 8)) (length l - 8)
      (λ k h. ap (λ (z : ℕ). get_or s z 0) (add_assoc p (length l - 8) k) ∙ at_byte s p l A (length l - 8 + k) (omega arith))

-- a literal that stands whole is matched to its end
pub matched_whole : (s : Bytes) (p : ℕ) (l : Bytes) → At s p l → Matched s p l (length l)
matched_whole s p l A =
    record { within = A.0; most = omega arith; same = λ i k. at_byte s p l A i k; stop = λ k. absurd (omega arith) }
