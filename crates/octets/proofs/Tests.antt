-- Laws of tests: of two of them, of a list, of each number below another, and of a list that is looked through from the left.
use Rattle.std.proofs.Common.{◌≡◌, ℕ, zero, suc, ◌+◌, ◌<◌, ◌≤◌, Bool, true, false, ◌&&◌, ◌||◌, eqb, List, [], ◌∷◌, ◌++◌, map, length, get_or, drop, sym, refl, ap, add-one, arith, drop_of_length-le, drop-cons, eq-eqb, ne_eqb}
use mathlib.Core.Bool.{false≢true}
use Rattle.octets.specs.Bytes.{any, all, has}

-- OF TWO TESTS both pass, or none, or the last
pub both : (a b : Bool) → (a && b) ≡ true → (a ≡ true) × (b ≡ true)
both true b e = (refl, e)
both false b e = absurd (false≢true e)

pub both_true : (a b : Bool) → a ≡ true → b ≡ true → (a && b) ≡ true
both_true true b p q = q
both_true false b p q = p

pub neither : (a b : Bool) → (a || b) ≡ false → (a ≡ false) × (b ≡ false)
neither true b e = absurd (false≢true (sym e))
neither false b e = (refl, e)

pub or_last : (a b : Bool) → b ≡ true → (a || b) ≡ true
or_last true b e = refl
or_last false b e = e

-- AT EACH NUMBER below n
abbrev pub all_below : ℕ → (ℕ → Bool) → Bool
all_below zero f = true
all_below (suc n) f = f zero && all_below n (λ k. f (suc k))

pub at_below : (n : ℕ) (f : ℕ → Bool) → all_below n f ≡ true → (k : ℕ) → k < n → f k ≡ true
at_below zero f t k h = absurd (omega arith)
at_below (suc n) f t zero h = (both (f zero) (all_below n (λ j. f (suc j))) t).0
at_below (suc n) f t (suc k) h = at_below n (λ j. f (suc j)) (both (f zero) (all_below n (λ j. f (suc j))) t).1 k (omega arith)

-- OF A LIST
module _ {A : Type 0} (p : A → Bool) where
  pub all_at : (d : A) (l : List A) → all p l ≡ true → (i : ℕ) → i < length l → p (get_or l i d) ≡ true
  all_at d [] h i k = absurd (omega arith)
  all_at d (x ∷ l) h zero k = (both (p x) (all p l) h).0
  all_at d (x ∷ l) h (suc i) k = all_at d l (both (p x) (all p l) h).1 i (omega arith)

  pub all_append : (k l : List A) → all p (k ++ l) ≡ (all p k && all p l)
  all_append [] l = refl
  all_append (x ∷ k) l = go (p x) (all_append k l)
    where
      go : (c : Bool) → all p (k ++ l) ≡ (all p k && all p l) → (c && all p (k ++ l)) ≡ ((c && all p k) && all p l)
      go true e = e
      go false e = refl

  pub any_append : (k l : List A) → any p (k ++ l) ≡ (any p k || any p l)
  any_append [] l = refl
  any_append (x ∷ k) l = go (p x) (any_append k l)
    where
      go : (c : Bool) → any p (k ++ l) ≡ (any p k || any p l) → (c || any p (k ++ l)) ≡ ((c || any p k) || any p l)
      go true e = refl
      go false e = e

pub map_at : {A B : Type 0} (f : A → B) (d : A) (e : B) (l : List A) (i : ℕ) → i < length l → get_or (map f l) i e ≡ f (get_or l i d)
map_at f d e [] i h = absurd (omega arith)
map_at f d e (x ∷ l) zero h = refl
map_at f d e (x ∷ l) (suc i) h = map_at f d e l i (omega arith)

-- IS x IN A LIST: at the place looked at, behind it, or nowhere
pub has_at : (l : List ℕ) (i : ℕ) → i < length l → has l (get_or l i 0) ≡ true
has_at [] i h = absurd (omega (arith, h))
has_at (x ∷ l) zero h = ap (λ (b : Bool). b || has l x) (eq-eqb x x refl)
has_at (x ∷ l) (suc i) h = or_last (eqb x (get_or l i 0)) (has l (get_or l i 0)) (has_at l i (omega (arith, h)))

pub has_here : (l : List ℕ) (i x : ℕ) → i < length l → get_or l i 0 ≡ x → has (drop i l) x ≡ true
has_here l i x h e = rw (drop-cons l i 0 h, eq-eqb _ x e)

pub has_next : (l : List ℕ) (i x : ℕ) → i < length l → (get_or l i 0 ≡ x → ⊥) → has (drop i l) x ≡ has (drop (i + 1) l) x
has_next l i x h n = rw (drop-cons l i 0 h, ne_eqb _ x n, add-one)

pub has_end : (l : List ℕ) (i x : ℕ) → length l ≤ i → has (drop i l) x ≡ false
has_end l i x h = rw (drop_of_length-le l {i = i} h)
