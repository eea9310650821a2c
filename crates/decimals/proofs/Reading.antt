-- One digit more, a row of digits, and the decimal that they make.
use Prim.Native.Nat.{ℕ, ◌+◌, ◌-◌, ◌*◌, ◌<◌, ◌≤◌}
use native.Mathlib.Numerals.{add-one}
use native.Mathlib.Omega.{arith}
use borrow.Author.Tests.{leb-true, leb-false}
use mathlib.Core.Path.{◌≡◌, refl, ap, sym, ◌∙◌, subst}
use mathlib.Core.List.{[], ◌∷◌}
use mathlib.Core.Bool.{Bool, true, false}
use lib.Dec.{leb}
use lib.ListN.{length, get_or, drop, drop_of_length-le}
use lib.Seq.{drop-cons}
use Rattle.octets.specs.Bytes.{Bytes, digit, value_from}
use Rattle.decimals.specs.Decimal.{leading, trailing}
use Rattle.decimals.specs.code.Scan.{Capped, More, Ran}

-- ONE DIGIT MORE
below : (w x : ℕ) → Capped w x → w < 1_000_000_000_000_000 → w ≡ x
below w x K h = go (leb 1_000_000_000_000_000 x) refl
  where
    go : (b : Bool) → leb 1_000_000_000_000_000 x ≡ b → w ≡ x
    go true e = absurd (omega (arith, K.large (leb-true 1_000_000_000_000_000 x e)))
    go false e = K.small (leb-false 1_000_000_000_000_000 x e)

above : (w x : ℕ) → Capped w x → 1_000_000_000_000_000 ≤ w → 1_000_000_000_000_000 ≤ x
above w x K h = go (leb 1_000_000_000_000_000 x) refl
  where
    go : (b : Bool) → leb 1_000_000_000_000_000 x ≡ b → 1_000_000_000_000_000 ≤ x
    go true e = leb-true 1_000_000_000_000_000 x e
    go false e = absurd (omega (arith, K.small (leb-false 1_000_000_000_000_000 x e), leb-false 1_000_000_000_000_000 x e))

module _ {w c : ℕ} (h : 48 ≤ c) (k : c ≤ 57) where
  pub more_in : w < 1_000_000_000_000_000 → More w c (w * 10 + (c - 48))
  more_in l = record {
    is = λ x K.
        let e = below w x K l in
        record { small = λ s. omega (arith, e); large = λ s. omega (arith, e); bound = omega arith };
    bound = omega arith;
  }

  pub more_out : w < 10_000_000_000_000_000 → 1_000_000_000_000_000 ≤ w → More w c w
  more_out b l = record {
    is = λ x K.
        let e = above w x K l in
        record { small = λ s. absurd (omega (arith, e)); large = λ s. l; bound = b };
    bound = b;
  }

-- A ROW OF DIGITS
pub record Running (v : Bytes) (from before i w : ℕ) : Type 0 where
  pub behind : from ≤ i
  pub within : i ≤ length v
  pub bound : w < 10_000_000_000_000_000
  pub end : from + length (leading (drop from v)) ≡ i + length (leading (drop i v))
  pub rest : trailing (drop from v) ≡ trailing (drop i v)
  pub worth : (x : ℕ) → Capped before x → (y : ℕ) × (Capped w y × (value_from x (leading (drop from v)) ≡ value_from y (leading (drop i v))))

pub row_starts : (v : Bytes) (from before : ℕ) → from ≤ length v → before < 10_000_000_000_000_000 → Running v from before from before
row_starts v from before h b = record { behind = omega arith; within = h; bound = b; end = refl; rest = refl; worth = λ x K. (x, (K, refl)) }

module _ {v : Bytes} {from before i w : ℕ} (R : Running v from before i w) where
  stops : leading (drop i v) ≡ [] → drop i v ≡ trailing (drop i v) → Ran v from before (record { end = i; value = w })
  stops a b =
      let n : length (leading (drop i v)) ≡ 0 = ap length a in
      record {
        end = omega (arith, R.end, n);
        within = R.within;
        behind = R.behind;
        rest = b ∙ sym R.rest;
        worth = λ x K. let y = R.worth x K in subst (Capped w) (sym (y.1.1 ∙ ap (value_from y.0) a)) y.1.0;
        bound = R.bound;
      }

  pub row_whole : length v ≤ i → Ran v from before (record { end = i; value = w })
  row_whole h = let e = drop_of_length-le v {i = i} h in stops (ap leading e) (e ∙ sym (ap trailing e))

  module _ (l : i < length v) where
    pub row_ends : digit (get_or v i 0) ≡ false → Ran v from before (record { end = i; value = w })
    row_ends n = let e = drop-cons v i 0 l in stops (ap leading e ∙ rw n) (e ∙ sym (ap trailing e ∙ rw n))

    pub row_next : {w2 : ℕ} → digit (get_or v i 0) ≡ true → More w (get_or v i 0) w2 → Running v from before (i + 1) w2
    row_next d M =
        let a : leading (drop i v) ≡ get_or v i 0 ∷ leading (drop (i + 1) v) = ap leading (drop-cons v i 0 l) ∙ rw (d, add-one) in
        let t : trailing (drop i v) ≡ trailing (drop (i + 1) v) = ap trailing (drop-cons v i 0 l) ∙ rw (d, add-one) in
        record {
          behind = omega (arith, R.behind);
          within = omega arith;
          bound = M.bound;
          end = omega (arith, R.end, ap length a);
          rest = R.rest ∙ t;
          worth = λ x K. let y = R.worth x K in (y.0 * 10 + (get_or v i 0 - 48), (M.is y.0 y.1.0, y.1.1 ∙ ap (value_from y.0) a));
        }
