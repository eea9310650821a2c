-- A place holds a report exactly if the strict reader reads that report from the place without the zeros behind.
-- Assumes nothing.
use Prim.Native.Nat.{ℕ, zero, suc, ◌+◌, ◌-◌}
use native.Mathlib.Omega.{arith}
use mathlib.Core.Path.{◌≡◌, refl, sym, ap, ◌∙◌}
use mathlib.Core.List.{[], ◌∷◌, ◌++◌}
use mathlib.Core.Option.{some}
use mathlib.Core.Bool.{Bool, true, false, cond}
use lib.Dec.{eqb}
use lib.ListN.{length, replicate}
use borrow.Author.Tests.{eqb-true}
use Rattle.octets.specs.Bytes.{Bytes}
use Rattle.places.specs.Places.{padded}
use Rattle.report.specs.Report.{Report, sent, read}
use Rattle.report.proofs.Promise.{promise}
use Rattle.kept.specs.Kept.{unless_zero, trimmed, Holds, held}

-- ZEROS BEHIND
trim_zeros : (k : ℕ) → trimmed (replicate k 0) ≡ []
trim_zeros zero = refl
trim_zeros (suc k) = ap (unless_zero 0) (trim_zeros k)

unless_more : (x : ℕ) (m : Bytes) → unless_zero x (m ++ (1 ∷ [])) ≡ x ∷ (m ++ (1 ∷ []))
unless_more x [] = refl
unless_more x (y ∷ m) = refl

trim_padded : (m : Bytes) (k : ℕ) → trimmed ((m ++ (1 ∷ [])) ++ replicate k 0) ≡ m ++ (1 ∷ [])
trim_padded [] k = ap (unless_zero 1) (trim_zeros k)
trim_padded (x ∷ m) k = ap (unless_zero x) (trim_padded m k) ∙ unless_more x m

-- the zeros that were behind it
record Back (l r : Bytes) : Type 0 where
  zeros : ℕ
  is : l ≡ r ++ replicate zeros 0
  long : length r + zeros ≡ length l

trim_back : (l : Bytes) → Back l (trimmed l)
trim_back [] = record { zeros = 0; is = refl; long = refl }
trim_back (x ∷ l) = go (trimmed l) (trim_back l)
  where
    zero_is : (b : Bool) → eqb x 0 ≡ b → Back l [] → Back (x ∷ l) (cond b [] (x ∷ []))
    zero_is true p B =
        record { zeros = suc B.zeros; is = ap (λ (y : ℕ). y ∷ l) (eqb-true x 0 p) ∙ ap (λ (y : Bytes). 0 ∷ y) B.is; long = omega (arith, B.long) }
    zero_is false p B = record { zeros = B.zeros; is = ap (λ (y : Bytes). x ∷ y) B.is; long = omega (arith, B.long) }

    go : (r : Bytes) → Back l r → Back (x ∷ l) (unless_zero x r)
    go [] B = zero_is (eqb x 0) refl B
    go (y ∷ r) B = record { zeros = B.zeros; is = ap (λ (z : Bytes). x ∷ z) B.is; long = omega (arith, B.long) }

module _ (us them place : Bytes) (r : Report) where
  pub held_is : length place ≡ 512 → held us them place ≡ some r → Holds us them place r
  unfolding held
  held_is l e =
      let O = promise.only us them (trimmed place) r e in
      let B = trim_back place in
      let z : B.zeros ≡ 512 - length (trimmed place) = omega (arith, B.long, l) in
      record { sends = O.0; bytes = B.is ∙ ap (λ (k : ℕ). trimmed place ++ replicate k 0) z ∙ ap padded O.1 }

  pub is_held : Holds us them place r → held us them place ≡ some r
  unfolding held
  is_held H =
      let W = promise.written us them r H.sends in
      let k = 512 - length (sent us them r) in
      let e : trimmed place ≡ sent us them r =
      ap trimmed H.bytes ∙ ap (λ (m : Bytes). trimmed (m ++ replicate k 0)) W.bar.1 ∙ trim_padded W.bar.0 k ∙ sym W.bar.1 in
      ap (read us them) e ∙ W.back
