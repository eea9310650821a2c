-- Laws of a gap: its ranges are kept by what becomes of it; a frame that does not ask finds it open for E, asked for lately.
-- Assumes nothing.
use Prim.Native.Nat.{ℕ, ◌-◌, ◌≤◌, ◌<◌}
use native.Mathlib.Omega.{arith}
use mathlib.Core.Path.{◌≡◌, refl, sym, ap, ◌∙◌}
use mathlib.Core.Bool.{Bool, true, false, cond, not, ◌&&◌, ◌||◌, false≢true}
use lib.Dec.{eqb, leb, ltb}
use borrow.Author.Tests.{eqb-true, eqb-false, ltb-false, leb-false, le-ltb}
use Rattle.octets.proofs.Numerals.{within_is, is_within}
use Rattle.octets.proofs.Tests.{both, both_true}
use Rattle.gap.specs.Gap.{Gap, no_gap, re_ask, passed, asks, asked_for, seen, unless_past, numbered, bounded}

-- THE RANGES, of an open one
pub record OpenBounded (g : Gap) : Type 0 where
  pub for_low : 1 ≤ g.for
  pub for_high : g.for ≤ 999_999_999
  pub low : 1 ≤ g.highest
  pub high : g.highest ≤ 999_999_999

pub open_bounded : (g : Gap) → g.is_open ≡ 1 → bounded g ≡ true → OpenBounded g
unfolding bounded
open_bounded g o e =
    let k : (numbered g.for && numbered g.highest) ≡ true = rw o at e in
    let b = both (numbered g.for) (numbered g.highest) k in
    let f = within_is 1 999_999_999 g.for b.0 in
    let h = within_is 1 999_999_999 g.highest b.1 in
    record { for_low = f.0; for_high = f.1; low = h.0; high = h.1 }

pub bounded_open : (g : Gap) → g.is_open ≡ 1 → OpenBounded g → bounded g ≡ true
unfolding bounded
bounded_open g o B =
    rw o (both_true (numbered g.for) (numbered g.highest) (is_within 1 999_999_999 g.for B.for_low B.for_high) (is_within 1 999_999_999 g.highest B.low B.high))

-- and of none
pub none_bounded : bounded no_gap ≡ true
unfolding bounded
none_bounded = refl

-- a gap within its ranges is open, or there is none
pub is_none : (g : Gap) → bounded g ≡ true → (g.is_open ≡ 1 → ⊥) → g ≡ no_gap
unfolding bounded
is_none g e n = go (eqb g.is_open 1) refl e
  where
    go : (b : Bool) → eqb g.is_open 1 ≡ b
        → cond b (numbered g.for && numbered g.highest) (eqb g.is_open 0 && eqb g.for 0 && eqb g.highest 0 && eqb g.asked 0) ≡ true → g ≡ no_gap
    go true p q = absurd (n (eqb-true _ _ p))
    go false p q =
        let a = both (eqb g.is_open 0 && eqb g.for 0 && eqb g.highest 0) (eqb g.asked 0) q in
        let b = both (eqb g.is_open 0 && eqb g.for 0) (eqb g.highest 0) a.0 in
        let c = both (eqb g.is_open 0) (eqb g.for 0) b.0 in
        ap (λ (i : ℕ). record { is_open = i; for = g.for; highest = g.highest; asked = g.asked }) (eqb-true _ _ c.0)
        ∙ ap (λ (i : ℕ). record { is_open = 0; for = i; highest = g.highest; asked = g.asked }) (eqb-true _ _ c.1)
        ∙ ap (λ (i : ℕ). record { is_open = 0; for = 0; highest = i; asked = g.asked }) (eqb-true _ _ b.1)
        ∙ ap (λ (i : ℕ). record { is_open = 0; for = 0; highest = 0; asked = i }) (eqb-true _ _ a.1)

pub highest_bounded : (g : Gap) → bounded g ≡ true → g.highest ≤ 999_999_999
highest_bounded g e = go (eqb g.is_open 1) refl
  where
    go : (b : Bool) → eqb g.is_open 1 ≡ b → g.highest ≤ 999_999_999
    go true p = (open_bounded g (eqb-true _ _ p) e).high
    go false p = let z = ap (λ (x : Gap). x.highest) (is_none g e (eqb-false _ _ p)) in omega (arith, z)

-- WHAT BECOMES OF IT keeps them
pub asked-bounded : (t E N : ℕ) (g : Gap) → 1 ≤ E → E ≤ 999_999_999 → 1 ≤ N → N ≤ 999_999_999 → bounded g ≡ true → bounded (asked_for t E N g) ≡ true
asked-bounded t E N g a b c d e =
    let h = highest_bounded g e in
    bounded_open (asked_for t E N g) refl (record { for_low = a; for_high = b; low = omega (arith, c); high = omega (arith, h, d) })

-- a frame that does not ask finds a gap open for E, asked for before and lately
pub record Unasked (t E : ℕ) (g : Gap) : Type 0 where
  pub is_open : g.is_open ≡ 1
  pub for_E : g.for ≡ E
  pub before : g.asked ≤ t
  pub lately : t - g.asked < re_ask

pub unasked : (t E : ℕ) (g : Gap) → asks t E g ≡ false → Unasked t E g
unfolding asks passed
unasked t E g e = go (eqb g.is_open 1) (eqb g.for E) (ltb t g.asked) (leb re_ask (t - g.asked)) refl refl refl refl e
  where
    go : (a b c d : Bool) → eqb g.is_open 1 ≡ a → eqb g.for E ≡ b → ltb t g.asked ≡ c → leb re_ask (t - g.asked) ≡ d → (not a || not b || (c || d)) ≡ false → Unasked t E g
    go true true false false p q r s k = record { is_open = eqb-true _ _ p; for_E = eqb-true _ _ q; before = ltb-false _ _ r; lately = leb-false _ _ s }
    go true true false true p q r s k = absurd (false≢true (sym k))
    go true true true d p q r s k = absurd (false≢true (sym k))
    go true false c d p q r s k = absurd (false≢true (sym k))
    go false b c d p q r s k = absurd (false≢true (sym k))

pub seen-bounded : (t E N : ℕ) (g : Gap) → asks t E g ≡ false → N ≤ 999_999_999 → bounded g ≡ true → bounded (seen N g) ≡ true
seen-bounded t E N g a n e =
    let o = (unasked t E g a).is_open in
    let B = open_bounded g o e in
    let l = B.low in
    let h = B.high in
    bounded_open (seen N g) o (record { for_low = B.for_low; for_high = B.for_high; low = omega (arith, l); high = omega (arith, h, n) })

pub past-bounded : (E : ℕ) (g : Gap) → bounded g ≡ true → bounded (unless_past E g) ≡ true
unfolding unless_past
past-bounded E g e = go (ltb g.highest E)
  where
    go : (b : Bool) → bounded (cond b no_gap g) ≡ true
    go true = none_bounded
    go false = e

-- CLOSING
pub past_none : (E : ℕ) → unless_past E no_gap ≡ no_gap
unfolding unless_past
past_none E = go (ltb 0 E)
  where
    go : (b : Bool) → cond b no_gap no_gap ≡ no_gap
    go true = refl
    go false = refl

pub past_stays : (E : ℕ) (g : Gap) → E ≤ g.highest → unless_past E g ≡ g
unfolding unless_past
past_stays E g l = rw (le-ltb g.highest E l)
