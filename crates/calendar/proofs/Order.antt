-- The order of times: of lists of numbers, where the first that differ decide, and so of moments.
use Rattle.std.proofs.Common.{Option, Some, Ordering, Less, Equal, Greater, cond}
use Rattle.std.specs.Ordering.{is_some_and, is_lt, nat_cmp, partial_ordering_then}
use Rattle.octets.specs.Tests.{◌=?◌, ◌<?◌}
use native.Mathlib.Decide.{dec_lt}
use Prim.Native.Nat.{ℕ, ◌+◌, ◌<◌}
use native.Mathlib.Omega.{arith}
use mathlib.Core.Path.{◌≡◌, refl, sym, ap, ap₂, ◌∙◌}
use mathlib.Core.List.{List, [], ◌∷◌, ◌++◌}
use mathlib.Core.Bool.{Bool, true, false, ◌&&◌, ◌||◌, and-false, false≢true}
use lib.Dec.{eqb, ltb}
use lib.ListN.{get_or}
use borrow.Author.Tests.{ltb-true, ltb-false, lt-ltb, le-ltb, eqb-true, eq-eqb, ne_eqb}
use Rattle.octets.proofs.Tests.{both, neither, or_last}
use Rattle.calendar.specs.declared.moments.Moment.{Moment}
use Rattle.calendar.specs.Later.{parts, above, later}
use Rattle.calendar.specs.Promise.{at}

-- LISTS: the first number is greater, or it is the same and the rest decides
module _ (x y : ℕ) (k l : List ℕ) where
  pub first_differs : {P : Type 0} → (y < x → P) → (x ≡ y → above k l ≡ true → P) → above (x ∷ k) (y ∷ l) ≡ true → P
  first_differs {P} f g h = go (ltb y x) refl h
    where
      go : (b : Bool) → ltb y x ≡ b → (b || (eqb x y && above k l)) ≡ true → P
      go true e q = f (ltb-true y x e)
      go false e q = let w = both (eqb x y) (above k l) q in g (eqb-true x y w.0) w.1

  pub greater : y < x → above (x ∷ k) (y ∷ l) ≡ true
  greater h = rw (lt-ltb y x h)

  pub same_first : x ≡ y → above k l ≡ true → above (x ∷ k) (y ∷ l) ≡ true
  same_first e h = or_last (ltb y x) (eqb x y && above k l) (rw (eq-eqb x y e, h))

above_itself : (k : List ℕ) → above k k ≡ false
above_itself [] = refl
above_itself (x ∷ k) = rw (le-ltb x x (omega arith), above_itself k) (and-false (eqb x x))

above-onward : (k l m : List ℕ) → above k l ≡ true → above l m ≡ true → above k m ≡ true
above-onward [] l m p q = absurd (false≢true p)
above-onward (x ∷ k) [] m p q = absurd (false≢true q)
above-onward (x ∷ k) (y ∷ l) [] p q = refl
above-onward (x ∷ k) (y ∷ l) (z ∷ m) p q =
    first_differs x y k l
    (λ h. first_differs y z l m (λ i. greater x z k m (omega arith)) (λ e r. greater x z k m (omega arith)) q)
    (λ e r. first_differs y z l m (λ i. greater x z k m (omega arith)) (λ f s. same_first x z k m (e ∙ f) (above-onward k l m r s)) q)
    p

above_else_same : (k l : List ℕ) → above k l ≡ false → above l k ≡ false → k ≡ l
above_else_same [] [] p q = refl
above_else_same [] (y ∷ l) p q = absurd (false≢true (sym q))
above_else_same (x ∷ k) [] p q = absurd (false≢true (sym p))
above_else_same (x ∷ k) (y ∷ l) p q =
    let a = neither (ltb y x) (eqb x y && above k l) p in
    let b = neither (ltb x y) (eqb y x && above l k) q in
    let e : x ≡ y = omega (arith, ltb-false y x a.0, ltb-false x y b.0) in
    ap₂ (λ (z : ℕ) (m : List ℕ). z ∷ m) e (above_else_same k l (rw (eq-eqb x y e) at a.1) (rw (eq-eqb y x (sym e)) at b.1))

-- MOMENTS
pub not_itself : (a : Moment) → later a a ≡ false
unfolding later
not_itself a = above_itself (parts a)

pub onward : (a b c : Moment) → later a b ≡ true → later b c ≡ true → later a c ≡ true
unfolding later
onward a b c p q = above-onward (parts a) (parts b) (parts c) p q

pub not_both : (a b : Moment) → later a b ≡ true → later b a ≡ false
not_both a b p = go (later b a) refl
  where
    go : (t : Bool) → later b a ≡ t → t ≡ false
    go true q = sym (onward a b a p q) ∙ not_itself a
    go false q = refl

pub else_same : (a b : Moment) → later a b ≡ false → later b a ≡ false → a ≡ b
unfolding later
else_same a b p q =
    ap
    (λ (l : List ℕ). record { year = get_or l 0 0; month = get_or l 1 0; day = get_or l 2 0; hour = get_or l 3 0; minute = get_or l 4 0; second = get_or l 5 0; micros = get_or l 6 0 })
    (above_else_same (parts a) (parts b) p q)

-- THE ORDER OF THE CODE, part by part: the first that differs decides, and the others only behind one that is the same
pub first_decides : (x y : ℕ) (p : Option Ordering) {q : Bool} → is_some_and is_lt p ≡ q → is_some_and is_lt (partial_ordering_then (Some (nat_cmp y x)) p) ≡ (y <? x || x =? y && q)
first_decides x y p {q} e = go (dec_lt y x) (dec_lt x y)
  where
    go : Dec (y < x) → Dec (x < y) → is_some_and is_lt (partial_ordering_then (Some (nat_cmp y x)) p) ≡ (y <? x || x =? y && q)
    go (yes h) k = rw (lt-ltb y x h)
    go (no h) (yes k) = rw (le-ltb y x (omega arith), ne_eqb y x (λ f. omega arith), ne_eqb x y (λ f. omega arith))
    go (no h) (no k) = rw (le-ltb y x (omega arith), eq-eqb y x (omega arith), eq-eqb x y (omega arith)) e

pub last_decides : (x y : ℕ) → is_some_and is_lt (Some (nat_cmp y x)) ≡ (y <? x || x =? y && false)
last_decides x y = go (ltb y x) (eqb y x) (eqb x y)
  where
    go : (b c d : Bool) → is_some_and is_lt (Some (cond b Less (cond c Equal Greater))) ≡ (b || (d && false))
    go true c d = refl
    go false true d = sym (and-false d)
    go false false d = sym (and-false d)

-- SECOND 60 and the next minute: the parts before them are the same
same-front : (p k l : List ℕ) → above k l ≡ true → above (p ++ k) (p ++ l) ≡ true
same-front [] k l h = h
same-front (x ∷ p) k l h = same_first x x (p ++ k) (p ++ l) refl (same-front p k l h)

module _ (y m d h i : ℕ) where
  pub second_60 : (u w : ℕ) → later (at y m d h i 60 u) (at y m d h i 59 w) ≡ true
  unfolding later
  second_60 u w = same-front (y ∷ m ∷ d ∷ h ∷ i ∷ []) (60 ∷ u ∷ []) (59 ∷ w ∷ []) refl

  pub next_minute : (s u w : ℕ) → later (at y m d h (i + 1) 0 u) (at y m d h i s w) ≡ true
  unfolding later
  next_minute s u w = same-front (y ∷ m ∷ d ∷ h ∷ []) ((i + 1) ∷ 0 ∷ u ∷ []) (i ∷ s ∷ w ∷ []) (greater (i + 1) i (0 ∷ u ∷ []) (s ∷ w ∷ []) (omega arith))
