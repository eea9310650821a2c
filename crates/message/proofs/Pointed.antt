-- How long a decimal in range can be: fifteen digits and a point.
use Prim.Native.Nat.{suc, ◌+◌, ◌^◌, ◌≤◌, ◌<◌}
use native.Mathlib.Omega.{arith}
use mathlib.Core.Path.{◌≡◌, refl, sym, ap, ◌∙◌}
use mathlib.Core.List.{[], ◌∷◌, ◌++◌}
use mathlib.Core.Bool.{Bool, true, false, cond, not, ◌&&◌, ◌||◌, false≢true}
use lib.Dec.{eqb}
use lib.ListN.{length, get_or, length-append}
use borrow.Author.Tests.{eqb-true, eqb-false, eq-eqb, not-true}
use Rattle.octets.specs.Bytes.{Bytes, fix, all, starts, within, digit, value}
use Rattle.octets.proofs.Tests.{both, all_append}
use Rattle.octets.proofs.Numerals.{within_is, few_enough}
use Rattle.decimals.specs.Decimal.{leading, trailing, plain, pointed, is_decimal, places_of, whole_of, in_range}

pub leading-digits : (v : Bytes) → all digit (leading v) ≡ true
leading-digits [] = refl
leading-digits (x ∷ v) = go (digit x) refl (leading-digits v)
  where
    go : (b : Bool) → digit x ≡ b → all digit (leading v) ≡ true → all digit (cond b (x ∷ leading v) []) ≡ true
    go true e ih = rw (e, ih)
    go false e ih = refl

both_parts : (v : Bytes) → length v ≡ length (leading v) + length (trailing v)
both_parts [] = refl
both_parts (x ∷ v) = go (digit x) (both_parts v)
  where
    go : (b : Bool) → length v ≡ length (leading v) + length (trailing v) → suc (length v) ≡ length (cond b (x ∷ leading v) []) + length (cond b (trailing v) (x ∷ v))
    go true e = omega arith
    go false e = omega arith

-- a point and the places behind it, or nothing
record Places (v : Bytes) : Type 0 where
  pub some : length (trailing v) ≤ length (places_of v) + 1
  pub whole : all digit (places_of v) ≡ true

places : (v : Bytes) → pointed (trailing v) ≡ true → Places v
places v = go (trailing v) refl
  where
    go : (t : Bytes) → trailing v ≡ t → pointed t ≡ true → Places v
    go [] e h = record { some = omega (arith, ap length e); whole = rw e }
    go (x ∷ l) e h =
        let w = (both (eqb x 46) (not (eqb (length l) 0) && all digit l) h).1 in
        record { some = rw e (omega arith); whole = rw e (both (not (eqb (length l) 0)) (all digit l) w).1 }

-- digits that are no lone zero, with others behind them
no_zero : (l r : Bytes) → (length l ≡ 0 → ⊥) → starts (fix "0") l ≡ false → get_or (l ++ r) 0 0 ≡ 48 → ⊥
no_zero [] r n s e = n refl
no_zero (x ∷ l) r n s e = false≢true (sym s ∙ rw (eq-eqb 48 x (sym e)))

numeral_short : (l r : Bytes) → (length l ≡ 0 → ⊥) → starts (fix "0") l ≡ false → all digit (l ++ r) ≡ true → value (l ++ r) < 10 ^ 15 → length (l ++ r) ≤ 15
numeral_short l r n s d h =
    few_enough (length (l ++ r)) 15 (l ++ r)
    (record { some_digit = omega (arith, n, length-append l r); few = omega arith; whole = d; no_zero = λ _. no_zero l r n s }) h

pub decimal-length : (v : Bytes) → is_decimal v ≡ true → in_range (whole_of v) (length (places_of v)) ≡ true → length v ≤ 16
unfolding is_decimal
decimal-length v f a =
    let c = both (plain (leading v)) (pointed (trailing v)) f in
    let p = both (not (eqb (length (leading v)) 0)) (not (starts (fix "0") (leading v)) || eqb (length (leading v)) 1) c.0 in
    let r = both (within 0 999_999_999_999_999 (whole_of v)) (within 0 8 (length (places_of v))) a in
    go (starts (fix "0") (leading v)) refl (places v c.1) (eqb-false _ 0 (not-true _ p.0)) p.1 (within_is 0 _ _ r.0).1 (within_is 0 8 _ r.1).1
  where
    go : (z : Bool) → starts (fix "0") (leading v) ≡ z → Places v → (length (leading v) ≡ 0 → ⊥) → (not z || eqb (length (leading v)) 1) ≡ true → whole_of v ≤ 999_999_999_999_999 → length (places_of v) ≤ 8 → length v ≤ 16
    go true e P n o w k = omega (arith, both_parts v, P.some, eqb-true (length (leading v)) 1 o)
    go false e P n o w k =
        let d : all digit (leading v ++ places_of v) ≡ true = all_append digit (leading v) (places_of v) ∙ rw (leading-digits v, P.whole) in
        omega (arith, both_parts v, P.some, length-append (leading v) (places_of v), numeral_short (leading v) (places_of v) n e d (omega arith))
