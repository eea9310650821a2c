-- Decisions: of two facts, of a number or a row of bytes that has a property among finitely many.
use Prim.Native.Nat.{ℕ, zero, suc, ◌+◌, ◌≤◌, ◌<◌}
use native.Mathlib.Omega.{arith}
use native.Mathlib.Decide.{dec_lt, dec_le, ℕ_discrete}
use mathlib.Core.Path.{◌≡◌, refl, sym, ap, ap₂, subst}
use mathlib.Core.Logic.{◌⊎◌, inl, inr}
use mathlib.Core.Bool.{Bool, true, false}
use mathlib.Core.List.{[], ◌∷◌, head-eq_of_cons-eq, tail-eq_of_cons-eq}
use lib.Dec.{T}
use lib.ListN.{length, take, drop, get_or, get_or-eq_default}
use Rattle.octets.specs.Bytes.{Bytes, At}

pub both? : {A B : Type 0} → Dec A → Dec B → Dec (A × B)
both? (yes a) (yes b) = yes (a, b)
both? (yes a) (no f) = no (λ w. f w.1)
both? (no f) _ = no (λ w. f w.0)

pub neither : {A : Type 0} → Dec A → Dec (A → ⊥)
neither (yes a) = no (λ f. f a)
neither (no f) = yes f

pub turn : {A B : Type 0} → (A → B) → (B → A) → Dec A → Dec B
turn f g (yes a) = yes (f a)
turn f g (no h) = no (λ b. h (g b))

pub lists : (x y : Bytes) → Dec (x ≡ y)
lists [] [] = yes refl
lists [] (b ∷ y) = no (λ e. let z : 0 ≡ suc (length y) = ap length e in omega arith)
lists (a ∷ x) [] = no (λ e. let z : suc (length x) ≡ 0 = ap length e in omega arith)
lists (a ∷ x) (b ∷ y) =
    turn (λ w. ap₂ (λ (i : ℕ) (l : Bytes). i ∷ l) w.0 w.1) (λ e. (head-eq_of_cons-eq e, tail-eq_of_cons-eq e)) (both? (ℕ_discrete a b) (lists x y))

pub holds? : (b : Bool) → Dec (b ≡ true)
holds? true = yes refl
holds? false = no (λ e. subst T (sym e) tt)

-- the least number below k of which P holds, or none
pub record Least (P : ℕ → Type 0) (k : ℕ) : Type 0 where
  pub at : ℕ
  pub below : at < k
  pub here : P at
  pub first : (m : ℕ) → m < at → P m → ⊥

pub least : (P : ℕ → Type 0) → ((n : ℕ) → Dec (P n)) → (k : ℕ) → Least P k ⊎ ((n : ℕ) → n < k → P n → ⊥)
least P d zero = inr (λ n l p. omega arith)
least P d (suc k) = go (least P d k) (d k)
  where
    go : Least P k ⊎ ((n : ℕ) → n < k → P n → ⊥) → Dec (P k) → Least P (suc k) ⊎ ((n : ℕ) → n < suc k → P n → ⊥)
    go (inl w) _ = inl (record { at = w.at; below = omega (arith, w.below); here = w.here; first = w.first })
    go (inr f) (yes h) = inl (record { at = k; below = omega arith; here = h; first = f })
    go (inr f) (no h) = inr late
      where
        late : (n : ℕ) → n < suc k → P n → ⊥
        late n l p = pick (dec_lt n k)
          where
            pick : Dec (n < k) → ⊥
            pick (yes y) = f n y p
            pick (no y) = let e : n ≡ k = omega arith in h (subst P e p)

-- some number, where none from k on has P; some bytes of a given number
pub some_below : (P : ℕ → Type 0) → ((n : ℕ) → Dec (P n)) → (k : ℕ) → ((n : ℕ) → P n → n < k) → Dec ((n : ℕ) × P n)
some_below P d k b = go (least P d k)
  where
    go : Least P k ⊎ ((n : ℕ) → n < k → P n → ⊥) → Dec ((n : ℕ) × P n)
    go (inl w) = yes (w.at, w.here)
    go (inr f) = no (λ w. f w.0 (b w.0 w.1) w.1)

abbrev pub Small : Bytes → Type 0
Small l = (i : ℕ) → i < length l → get_or l i 0 < 256

pub record Some (k : ℕ) (P : Bytes → Type 0) : Type 0 where
  pub bytes : Bytes
  pub many : length bytes ≡ k
  pub small : Small bytes
  pub here : P bytes

pub some_bytes : (k : ℕ) (P : Bytes → Type 0) → ((l : Bytes) → Dec (P l)) → Dec (Some k P)
some_bytes zero P d = turn to from (d [])
  where
    to : P [] → Some zero P
    to h = record { bytes = []; many = refl; small = λ i l. absurd (omega arith); here = h }

    empty : (l : Bytes) → length l ≡ 0 → P l → P []
    empty [] e h = h
    empty (x ∷ l) e h = absurd (omega arith)

    from : Some zero P → P []
    from w = empty w.bytes w.many w.here
some_bytes (suc k) P d =
    turn to from
    (some_below (λ b. (b < 256) × Some k (λ l. P (b ∷ l))) (λ b. both? (dec_lt b 256) (some_bytes k (λ l. P (b ∷ l)) (λ l. d (b ∷ l)))) 256 (λ b w. w.0))
  where
    small : (b : ℕ) (l : Bytes) → b < 256 → Small l → Small (b ∷ l)
    small b l h s zero y = h
    small b l h s (suc i) y = s i (omega arith)

    to : (b : ℕ) × ((b < 256) × Some k (λ l. P (b ∷ l))) → Some (suc k) P
    to w =
        let S = w.1.1 in
        record { bytes = w.0 ∷ S.bytes; many = ap suc S.many; small = small w.0 S.bytes w.1.0 S.small; here = S.here }

    split : (l : Bytes) → length l ≡ suc k → Small l → P l → (b : ℕ) × ((b < 256) × Some k (λ l. P (b ∷ l)))
    split [] e s h = absurd (omega arith)
    split (b ∷ l) e s h =
        (b, (s 0 (omega arith), record { bytes = l; many = omega arith; small = λ i y. s (suc i) (omega arith); here = h }))

    from : Some (suc k) P → (b : ℕ) × ((b < 256) × Some k (λ l. P (b ∷ l)))
    from w = split w.bytes w.many w.small w.here

pub small? : (b : Bytes) → Dec ((i : ℕ) → get_or b i 0 < 256)
small? b = go (some_below (λ i. 256 ≤ get_or b i 0) (λ i. dec_le 256 (get_or b i 0)) (length b) inside)
  where
    inside : (i : ℕ) → 256 ≤ get_or b i 0 → i < length b
    inside i h = pick (dec_lt i (length b))
      where
        pick : Dec (i < length b) → i < length b
        pick (yes y) = y
        pick (no y) = absurd (omega (arith, get_or-eq_default b 0 {n = i} (omega arith)))

    go : Dec ((i : ℕ) × (256 ≤ get_or b i 0)) → Dec ((i : ℕ) → get_or b i 0 < 256)
    go (yes w) = no (λ f. omega (arith, f w.0, w.1))
    go (no f) = yes (λ i. one i (dec_lt (get_or b i 0) 256))
      where
        one : (i : ℕ) → Dec (get_or b i 0 < 256) → get_or b i 0 < 256
        one i (yes y) = y
        one i (no y) = absurd (f (i, omega arith))

pub at? : (s : Bytes) (p : ℕ) (l : Bytes) → Dec (At s p l)
at? s p l = both? (dec_le (p + length l) (length s)) (lists (take (length l) (drop p s)) l)
