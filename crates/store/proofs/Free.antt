-- The place for a new report: the lowest of some numbers, and the table as far as its places were looked at.
-- Assumes nothing.
use Prim.Native.Nat.{ℕ, zero, suc, ◌≤◌, ◌<◌}
use native.Mathlib.Omega.{arith}
use mathlib.Core.Path.{◌≡◌, refl, sym, ap}
use mathlib.Core.List.{List, [], ◌∷◌}
use mathlib.Core.Option.{none, some}
use mathlib.Core.Bool.{Bool, true, false, cond, ◌||◌, false≢true}
use lib.Dec.{eqb, ltb}
use lib.ListN.{length, get_or}
use borrow.Author.Tests.{eqb-true, ltb-true, ltb-false, ne_eqb, eq-eqb}
use Rattle.octets.specs.Bytes.{has}
use Rattle.octets.proofs.Tests.{has_at}
use Rattle.store.specs.Store.{Table, numbers, place_of, full, least, lowest}
use Rattle.std.specs.Prelude.{nat_lt}
use Rattle.std.specs.List.{IsFirstBest}

-- THE LOWEST of the first n numbers, and the first of these
record Lowest (numbers : List ℕ) (n i : ℕ) : Type 0 where
  among : i < n
  low : (j : ℕ) → j < n → get_or numbers i 0 ≤ get_or numbers j 0
  first : (j : ℕ) → j < i → get_or numbers i 0 < get_or numbers j 0

lowest_of : (l : List ℕ) (n i : ℕ) → IsFirstBest nat_lt l n i → Lowest l n i
lowest_of l n i B = record { among = B.0; low = λ j h. ltb-false _ _ (B.1 j 0 h); first = λ j h. ltb-true _ _ (B.2 j 0 h) }

-- the lowest number is what stands there
least_above : (x v : ℕ) (l : List ℕ) → v ≤ x → ((j : ℕ) → j < length l → v ≤ get_or l j 0) → v ≤ least x l
least_above x v [] h k = h
least_above x v (y ∷ l) h k = go (ltb y x) (λ z p. least_above z v l p (λ j q. k (suc j) (omega (arith, q))))
  where
    go : (b : Bool) → ((z : ℕ) → v ≤ z → v ≤ least z l) → v ≤ least (cond b y x) l
    go true rest = rest y (k 0 (omega arith))
    go false rest = rest x h

least_under : (x : ℕ) (l : List ℕ) → (least x l ≤ x) × ((n : ℕ) → has l n ≡ true → least x l ≤ n)
least_under x [] = (omega arith, λ n h. absurd (false≢true h))
least_under x (y ∷ l) = go (ltb y x) refl (λ z. least_under z l)
  where
    go : (b : Bool) → ltb y x ≡ b → ((z : ℕ) → (least z l ≤ z) × ((n : ℕ) → has l n ≡ true → least z l ≤ n))
        → (least (cond b y x) l ≤ x) × ((n : ℕ) → has (y ∷ l) n ≡ true → least (cond b y x) l ≤ n)
    go true p rest = let q = ltb-true y x p in let a = (rest y).0 in (omega (arith, a, q), λ n. at n (eqb y n) refl)
      where
        at : (n : ℕ) (b : Bool) → eqb y n ≡ b → (b || has l n) ≡ true → least y l ≤ n
        at n true e h = let a = (rest y).0 in let m = eqb-true y n e in omega (arith, a, m)
        at n false e h = (rest y).1 n h
    go false p rest = ((rest x).0, λ n. at n (eqb y n) refl)
      where
        at : (n : ℕ) (b : Bool) → eqb y n ≡ b → (b || has l n) ≡ true → least x l ≤ n
        at n true e h = let q = ltb-false y x p in let a = (rest x).0 in let m = eqb-true y n e in omega (arith, a, m, q)
        at n false e h = (rest x).1 n h

pub lowest_under : (l : List ℕ) (n : ℕ) → has l n ≡ true → lowest l ≤ n
lowest_under [] n h = absurd (false≢true h)
lowest_under (x ∷ l) n h = go (eqb x n) refl h
  where
    go : (b : Bool) → eqb x n ≡ b → (b || has l n) ≡ true → least x l ≤ n
    go true e h = let a = (least_under x l).0 in let m = eqb-true x n e in omega (arith, a, m)
    go false e h = (least_under x l).1 n h

lowest_is : (l : List ℕ) (i : ℕ) → Lowest l (length l) i → lowest l ≡ get_or l i 0
lowest_is [] i L = let a = L.among in absurd (omega (arith, a))
lowest_is (x ∷ l) i L =
    let a = least_above x (get_or (x ∷ l) i 0) l (L.low 0 (omega arith)) (λ j h. L.low (suc j) (omega (arith, h))) in
    let b = lowest_under (x ∷ l) (get_or (x ∷ l) i 0) (has_at (x ∷ l) i L.among) in
    omega (arith, a, b)

-- where it stands in a full table
place-full : (l : Table) (n i : ℕ) → full l ≡ true → i < length (numbers l) → ((j : ℕ) → j < i → get_or (numbers l) j 0 ≡ n → ⊥) → get_or (numbers l) i 0 ≡ n → i ≡ place_of n l
place-full [] n i u h before e = absurd (omega (arith, h))
place-full (none ∷ l) n i u h before e = absurd (false≢true u)
place-full (some r ∷ l) n zero u h before e = sym (rw (eq-eqb r.number n e))
place-full (some r ∷ l) n (suc i) u h before e =
    rw (ne_eqb r.number n (before 0 (omega arith))) (ap suc (place-full l n i u (omega (arith, h)) (λ j k. before (suc j) (omega (arith, k))) e))

pub lowest_stands : (l : Table) (i : ℕ) → full l ≡ true → IsFirstBest nat_lt (numbers l) (length (numbers l)) i → i ≡ place_of (lowest (numbers l)) l
lowest_stands l i u B =
    let L = lowest_of (numbers l) (length (numbers l)) i B in
    let e = lowest_is (numbers l) i L in
    place-full l (lowest (numbers l)) i u L.among (λ j h f. let x = L.first j h in omega (arith, x, e, f)) (sym e)
