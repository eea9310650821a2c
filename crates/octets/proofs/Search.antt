-- Laws of looking for a byte, and for a row of bytes by its fifth byte: what was passed, and what is there.
use Rattle.std.proofs.Common.{◌≡◌, ℕ, ◌+◌, ◌-◌, ◌<◌, ◌≤◌, Bool, false, length, get_or, sym, ap, ◌∙◌, arith}
use native.Mathlib.Decide.{dec_lt}
use Rattle.octets.specs.Bytes.{Bytes, At}
use Rattle.octets.specs.code.Leaf.{FirstByte, NextStart, Around, Stands, Searched}
use Rattle.octets.proofs.Lists.{at_byte}

-- a byte that is in none of the places from a to i, and in none of n places from i on, is in none from a to i + n
pub none_further : (s : Bytes) (a i n x : ℕ) → ((q : ℕ) → q < i → a ≤ q → get_or s q 0 ≡ x → ⊥) → ((k : ℕ) → k < n → get_or s (i + k) 0 ≡ x → ⊥)
    → (q : ℕ) → q < i + n → a ≤ q → get_or s q 0 ≡ x → ⊥
none_further s a i n x f g q h k e = go (dec_lt q i)
  where
    go : Dec (q < i) → ⊥
    go (yes l) = f q l k e
    go (no l) =
        let w : q ≡ i + (q - i) = omega arith in
        g (q - i) (omega arith) (ap (λ (z : ℕ). get_or s z 0) (sym w) ∙ e)

-- the same of one place
pub none_one : (s : Bytes) (a i j x : ℕ) → j ≡ i + 1 → ((q : ℕ) → q < i → a ≤ q → get_or s q 0 ≡ x → ⊥) → (get_or s i 0 ≡ x → ⊥)
    → (q : ℕ) → q < j → a ≤ q → get_or s q 0 ≡ x → ⊥
none_one s a i j x w f g q h k e = go (dec_lt q i)
  where
    go : Dec (q < i) → ⊥
    go (yes l) = f q l k e
    go (no l) = let v : i ≡ q = omega arith in g (ap (λ (z : ℕ). get_or s z 0) v ∙ e)

-- the same from i to e
pub none_to_end : (s : Bytes) (a i e x : ℕ) → ((q : ℕ) → q < i → a ≤ q → get_or s q 0 ≡ x → ⊥) → ((q : ℕ) → q < e → i ≤ q → get_or s q 0 ≡ x → ⊥)
    → (q : ℕ) → q < e → a ≤ q → get_or s q 0 ≡ x → ⊥
none_to_end s a i e x f g q h k w = go (dec_lt q i)
  where
    go : Dec (q < i) → ⊥
    go (yes l) = f q l k w
    go (no l) = g q h (omega arith) w

-- the first from i on is the first from a on, where there is none between
pub first-further : (s : Bytes) (a i e x r : ℕ) → a ≤ i → ((q : ℕ) → q < i → a ≤ q → get_or s q 0 ≡ x → ⊥) → FirstByte s i e x r → FirstByte s a e x r
first-further s a i e x r h f F = record { low = omega (arith, F.low); high = F.high; none = none; found = F.found }
  where
    none : (q : ℕ) → q < r → a ≤ q → get_or s q 0 ≡ x → ⊥
    none q l k w = go (dec_lt q i)
      where
        go : Dec (q < i) → ⊥
        go (yes y) = f q y k w
        go (no y) = F.none q l (omega arith) w

-- what stands nowhere in the last n bytes before e stands nowhere from i on
pub free_tail : (s : Bytes) (i e n x : ℕ) → n ≤ e → e ≤ i + n → ((k : ℕ) → k < n → get_or s (e - n + k) 0 ≡ x → ⊥) → (q : ℕ) → q < e → i ≤ q → get_or s q 0 ≡ x → ⊥
free_tail s i e n x h l f q k y w =
    let z : e - n + (q - (e - n)) ≡ q = omega arith in
    f (q - (e - n)) (omega arith) (ap (λ (j : ℕ). get_or s j 0) z ∙ w)

pub next_from : (s : Bytes) (p x j : ℕ) → FirstByte s (p + 4) (length s) x j → NextStart s p x (j - 4)
next_from s p x j F =
    record {
      low = omega (arith, F.low);
      high = omega (arith, F.high);
      inside = λ q l h. omega (arith, F.high, F.low);
      none = λ q l h. F.none (q + 4) (omega (arith, F.low)) (omega arith);
    }

-- the same where the first place is looked at by itself
pub next_behind : (s : Bytes) (p x j : ℕ) → (get_or s (p + 4) 0 ≡ x → ⊥) → FirstByte s (p + 4 + 1) (length s) x j → NextStart s p x (j - 4)
next_behind s p x j f F = next_from s p x j (first-further s (p + 4) (p + 4 + 1) (length s) x j (omega arith) none F)
  where
    none : (q : ℕ) → q < p + 4 + 1 → p + 4 ≤ q → get_or s q 0 ≡ x → ⊥
    none q l h e = let w : p + 4 ≡ q = omega arith in f (ap (λ (z : ℕ). get_or s z 0) w ∙ e)

-- ---- a literal looked for by its fifth byte
module _ (s : Bytes) (a e : ℕ) (lit : Bytes) (five : 5 ≤ length lit) where
  -- it stands nowhere between a and e with its fifth byte before i
  abbrev pub NoneTo : ℕ → Type 0
  NoneTo i = (q : ℕ) → q + 4 < i → a ≤ q → q + length lit ≤ e → At s q lit → ⊥

  pub none_to : (i j x : ℕ) → x ≡ get_or lit 4 0 → FirstByte s i e x j → NoneTo i → NoneTo j
  none_to i j x w F none q h k l A = go (dec_lt (q + 4) i)
    where
      go : Dec (q + 4 < i) → ⊥
      go (yes y) = none q y k l A
      go (no y) = F.none (q + 4) h (omega arith) (at_byte s q lit A 4 (omega arith) ∙ sym w)

  pub none_past : (j : ℕ) (r : Bool) → r ≡ false → Around s a e j lit r → NoneTo j → NoneTo (j + 1)
  none_past j r t B none q h k l A = go (dec_lt (q + 4) j)
    where
      go : Dec (q + 4 < j) → ⊥
      go (yes y) = none q y k l A
      go (no y) = B.none t q (omega arith) k l A

  pub none_end : (i : ℕ) → e ≤ i → NoneTo i → (q : ℕ) → q < e → a ≤ q → q + length lit ≤ e → At s q lit → ⊥
  none_end i h none q _ k l A = none q (omega arith) k l A

  pub none_at_all : (r : ℕ) → Searched s a e lit r → (r < e → ⊥) → Stands s a e lit → ⊥
  none_at_all r F h S = F.none S.place (omega (arith, S.high)) S.low S.high S.there
