-- Every function that this crate hands out and that asks nothing has one outcome: any two that its contract allows, for the same input, are equal in
-- all that the call answers. (The contract of `checksum` is an equation of the result.) Assumes nothing.
use Rattle.std.proofs.Common.{◌≡◌, ℕ, ◌<◌, ◌≤◌, length, take, drop, sym, ap, ◌∙◌, ap₂, arith}
use native.Mathlib.Decide.{dec_lt}
use Rattle.octets.specs.Bytes.{Bytes, value}
use Rattle.octets.specs.code.Leaf.{digit_limit, Number, Digits}
use Rattle.octets.specs.declared.numbers.Num.{Num}

-- `digits`
number_one : {s : Bytes} {p most v c v' c' : ℕ} → Number s p most v c → Number s p most v' c' → (v ≡ v') × (c ≡ c')
number_one {s} {p} {most} {c = c} {c' = c'} A B =
    let e : c ≡ c' = omega (arith, not_more A B, not_more B A) in
    (A.worth ∙ ap (λ (n : ℕ). value (take n (drop p s))) e ∙ sym B.worth, e)
  where
    not_more : {v v' c c' : ℕ} → Number s p most v c → Number s p most v' c' → c' ≤ c
    not_more {c = c} {c' = c'} X Y = go (dec_lt c c')
      where
        go : Dec (c < c') → c' ≤ c
        go (yes l) = absurd (X.stop (omega (arith, Y.few)) (omega (arith, Y.within)) (Y.digits c l))
        go (no l) = omega arith

pub digits_one : {s : Bytes} {p most : ℕ} {r r' : Num} → Digits s p most r → Digits s p most r' → r ≡ r'
digits_one {s} {p} {most} {r} {r'} A B = same (go (dec_lt (length s) p) (dec_lt digit_limit most))
  where
    same : (r.value ≡ r'.value) × (r.count ≡ r'.count) → r ≡ r'
    same e = ap₂ (λ (v c : ℕ). record { value = v; count = c }) e.0 e.1

    go : Dec (length s < p) → Dec (digit_limit < most) → (r.value ≡ r'.value) × (r.count ≡ r'.count)
    go (yes l) d = ((A.behind l).0 ∙ sym (B.behind l).0, (A.behind l).1 ∙ sym (B.behind l).1)
    go (no l) (yes h) = ((A.above h).0 ∙ sym (B.above h).0, (A.above h).1 ∙ sym (B.above h).1)
    go (no l) (no h) = number_one (A.inside (omega arith) (omega arith)) (B.inside (omega arith) (omega arith))
