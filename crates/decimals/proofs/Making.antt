-- The decimal that a row of digits, a point and another row make.
use Prim.Native.Nat.{ℕ, suc, ◌+◌, ◌-◌, ◌*◌, ◌<◌, ◌≤◌}
use native.Mathlib.Numerals.{add-one}
use native.Mathlib.Omega.{arith}
use borrow.Author.Tests.{le-leb, lt-leb, eq-eqb, ne_eqb, leb-true, leb-false}
use Rattle.std.proofs.Common.{Result, Ok, Err}
use mathlib.Core.Path.{◌≡◌, refl, ap, sym, ◌∙◌}
use mathlib.Core.List.{[], ◌∷◌, ◌++◌, append-nil}
use mathlib.Core.Bool.{Bool, true, false, cond, not, ◌&&◌, ◌||◌, and-false, false≢true}
use lib.Dec.{eqb, leb}
use lib.ListN.{length, get_or, drop, drop_of_length-le, length-drop}
use lib.Seq.{drop-cons}
use Rattle.octets.specs.Bytes.{Bytes, all, starts, fix, digit, value, value_from}
use Rattle.decimals.specs.Decimal.{leading, trailing, plain, pointed, is_decimal, ranged_of, decimal_of}
use Rattle.decimals.specs.code.Scan.{Capped, Ran, Leads}
use Rattle.decimals.specs.declared.Decimal.{Decimal}
use Rattle.fault.specs.declared.Fault.{Fault}
use Rattle.fault.specs.declared.Fault.TheVariants.{Value, Form}
use Rattle.decimals.specs.declared.Run.{Run}

-- the range
pub too_large : (w p : ℕ) → 1_000_000_000_000_000 ≤ w → Err Value ≡ ranged_of w p
too_large w p h = rw (le-leb 0 w (omega arith), lt-leb w 999_999_999_999_999 (omega arith))

pub too_long : (w p : ℕ) → w < 1_000_000_000_000_000 → 8 < p → Err Value ≡ ranged_of w p
too_long w p h k = rw (le-leb 0 w (omega arith), le-leb w 999_999_999_999_999 (omega arith), le-leb 0 p (omega arith), lt-leb p 8 k)

pub in_range : (w p : ℕ) → w < 1_000_000_000_000_000 → p ≤ 8 → Ok (record { whole = w; places = p }) ≡ ranged_of w p
in_range w p h k = rw (le-leb 0 w (omega arith), le-leb w 999_999_999_999_999 (omega arith), le-leb 0 p (omega arith), le-leb p 8 k)

capped_ranged : (w x p : ℕ) → Capped w x → ranged_of w p ≡ ranged_of x p
capped_ranged w x p K = go (leb 1_000_000_000_000_000 x) refl
  where
    go : (b : Bool) → leb 1_000_000_000_000_000 x ≡ b → ranged_of w p ≡ ranged_of x p
    go true e =
        let h = leb-true 1_000_000_000_000_000 x e in
        sym (too_large w p (K.large h)) ∙ too_large x p h
    go false e = ap (λ (y : ℕ). ranged_of y p) (K.small (leb-false 1_000_000_000_000_000 x e))

-- digits and no other
all_leading : (l : Bytes) → all digit l ≡ true → length (leading l) ≡ length l
all_leading [] h = refl
all_leading (x ∷ l) h = go (digit x) h (all_leading l)
  where
    go : (b : Bool) → (b && all digit l) ≡ true → (all digit l ≡ true → length (leading l) ≡ length l) → length (cond b (x ∷ leading l) []) ≡ suc (length l)
    go true e ih = ap suc (ih e)
    go false e ih = absurd (false≢true e)

leading-whole : (l : Bytes) → length (leading l) ≡ length l → (leading l ≡ l) × (all digit l ≡ true)
leading-whole [] h = (refl, refl)
leading-whole (x ∷ l) h = go (digit x) h (leading-whole l)
  where
    go : (b : Bool) → length (cond b (x ∷ leading l) []) ≡ suc (length l) → (length (leading l) ≡ length l → (leading l ≡ l) × (all digit l ≡ true)) → (cond b (x ∷ leading l) [] ≡ (x ∷ l)) × ((b && all digit l) ≡ true)
    go true e ih = let y = ih (omega arith) in (ap (λ (k : Bytes). x ∷ k) y.0, y.1)
    go false e ih = absurd (omega arith)

value_from-append : (n : ℕ) (k l : Bytes) → value_from n (k ++ l) ≡ value_from (value_from n k) l
value_from-append n [] l = refl
value_from-append n (x ∷ k) l = value_from-append (n * 10 + (x - 48)) k l

leading-head : (v : Bytes) → 0 < length (leading v) → starts (fix "0") (leading v) ≡ eqb 48 (get_or v 0 0)
leading-head [] h = absurd (omega arith)
leading-head (x ∷ v) h = go (digit x) h
  where
    go : (b : Bool) → 0 < length (cond b (x ∷ leading v) []) → starts (fix "0") (cond b (x ∷ leading v) []) ≡ eqb 48 x
    go true e = go2 (eqb 48 x)
      where
        go2 : (c : Bool) → (c && true) ≡ c
        go2 true = refl
        go2 false = refl
    go false e = absurd (omega arith)

-- THE DIGITS BEFORE THE POINT
module _ (v : Bytes) where
  not_plain : plain (leading v) ≡ false → Err Form ≡ decimal_of v
  unfolding decimal_of is_decimal
  not_plain e = rw e

  module _ {r : Run} (R : Ran v 0 0 r) where
    pub no_digits : r.end ≡ 0 → Err Form ≡ decimal_of v
    no_digits z = not_plain (rw (eq-eqb (length (leading v)) 0 (omega (arith, R.end))))

    head : (r.end ≡ 0 → ⊥) → starts (fix "0") (leading v) ≡ eqb 48 (get_or v 0 0)
    head n = leading-head v (omega (arith, R.end, n))

    pub zero_leads : (r.end ≡ 0 → ⊥) → get_or v 0 0 ≡ 48 → (r.end ≡ 1 → ⊥) → Err Form ≡ decimal_of v
    zero_leads n e k =
        not_plain (rw (ne_eqb (length (leading v)) 0 (λ z. n (omega (arith, R.end))), head n, eq-eqb 48 (get_or v 0 0) (sym e), ne_eqb (length (leading v)) 1 (λ z. k (omega (arith, R.end)))))

    nothing : Capped 0 0
    nothing = record { small = λ h. refl; large = λ h. absurd (omega arith); bound = omega arith }

    leads_with : plain (leading v) ≡ true → Leads v r.end r.value
    leads_with p = record { end = omega (arith, R.end); within = R.within; rest = R.rest; plainly = p; worth = R.worth 0 nothing }

    pub lone_zero : (r.end ≡ 0 → ⊥) → r.end ≡ 1 → Leads v r.end r.value
    lone_zero n k = leads_with (rw (ne_eqb (length (leading v)) 0 (λ z. n (omega (arith, R.end))), eq-eqb (length (leading v)) 1 (omega (arith, R.end))) (go (starts (fix "0") (leading v))))
      where
        go : (b : Bool) → (not b || true) ≡ true
        go true = refl
        go false = refl

    pub no_zero : (r.end ≡ 0 → ⊥) → (get_or v 0 0 ≡ 48 → ⊥) → Leads v r.end r.value
    no_zero n e = leads_with (rw (ne_eqb (length (leading v)) 0 (λ z. n (omega (arith, R.end))), head n, ne_eqb 48 (get_or v 0 0) (λ x. e (sym x))))

-- WHAT STANDS BEHIND THEM
module _ {v : Bytes} {k w : ℕ} (L : Leads v k w) where
  not_pointed : pointed (trailing v) ≡ false → Err Form ≡ decimal_of v
  unfolding decimal_of is_decimal
  not_pointed e = rw (e, and-false (plain (leading v)))

  pub whole_alone : k ≡ length v → {r : Result Decimal Fault} → r ≡ ranged_of w 0 → r ≡ decimal_of v
  unfolding decimal_of is_decimal
  whole_alone e {r} q =
      let t : trailing v ≡ [] = sym L.rest ∙ drop_of_length-le v {i = k} (omega arith) in
      q ∙ capped_ranged w _ 0 L.worth ∙ rw (L.plainly, t, append-nil (leading v))

  module _ (n : k ≡ length v → ⊥) where
    inside : k < length v
    inside = omega (arith, L.within, n)

    there : trailing v ≡ get_or v k 0 ∷ drop (k + 1) v
    there = sym L.rest ∙ drop-cons v k 0 inside ∙ rw add-one

    pub no_point : (get_or v k 0 ≡ 46 → ⊥) → Err Form ≡ decimal_of v
    no_point p = not_pointed (rw (there, ne_eqb (get_or v k 0) 46 p))

    module _ (p : get_or v k 0 ≡ 46) {r : Run} (R : Ran v (k + 1) w r) where
      long : length (drop (k + 1) v) ≡ length v - (k + 1)
      long = length-drop (k + 1) v

      pub other_places : (r.end ≡ length v → ⊥) → Err Form ≡ decimal_of v
      other_places e = not_pointed (rw there (go (all digit (drop (k + 1) v)) refl))
        where
          go : (b : Bool) → all digit (drop (k + 1) v) ≡ b → (eqb (get_or v k 0) 46 && (not (eqb (length (drop (k + 1) v)) 0) && b)) ≡ false
          go true h = absurd (e (omega (arith, R.end, all_leading (drop (k + 1) v) h, long, inside)))
          go false h = rw (and-false (not (eqb (length (drop (k + 1) v)) 0)), and-false (eqb (get_or v k 0) 46))

      pub no_places : r.end ≡ length v → r.end ≡ k + 1 → Err Form ≡ decimal_of v
      no_places e z = not_pointed (rw (there, eq-eqb (length (drop (k + 1) v)) 0 (omega (arith, long)), and-false (eqb (get_or v k 0) 46)))

      pub with_places : r.end ≡ length v → (r.end ≡ k + 1 → ⊥) → {q : Result Decimal Fault} → q ≡ ranged_of r.value (r.end - (k + 1)) → q ≡ decimal_of v
      unfolding decimal_of is_decimal
      with_places e z {q} h =
          let f = leading-whole (drop (k + 1) v) (omega (arith, R.end, long, R.behind)) in
          let K = R.worth _ L.worth in
          let m : length (drop (k + 1) v) ≡ r.end - (k + 1) = omega (arith, long) in
          let x : value_from (value_from 0 (leading v)) (leading (drop (k + 1) v)) ≡ value (leading v ++ drop (k + 1) v) = ap (value_from (value_from 0 (leading v))) f.0 ∙ sym (value_from-append 0 (leading v) (drop (k + 1) v)) in
          h ∙ capped_ranged r.value _ (r.end - (k + 1)) K ∙ ap (λ (y : ℕ). ranged_of y (r.end - (k + 1))) x
          ∙ rw (L.plainly, there, eq-eqb (get_or v k 0) 46 p, ne_eqb (length (drop (k + 1) v)) 0 (λ y. z (omega (arith, long, R.behind))), f.1) (ap (ranged_of (value (leading v ++ drop (k + 1) v))) (sym m))

pub ruleset zeros = (zero_leads, lone_zero)
