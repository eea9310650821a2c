-- The text of an amount as the code puts it: the last digits first, then the point, then the digits before it.
use Prim.Native.Nat.{ℕ, zero, suc, ◌+◌, ◌-◌, ◌/◌, ◌^◌, ◌≤◌, ◌<◌}
use native.Mathlib.Decide.{dec_lt}
use native.Mathlib.Nat.{div-one}
use native.Mathlib.Omega.{arith}
use mathlib.Core.Path.{◌≡◌, refl, sym, ap, ◌∙◌}
use mathlib.Core.List.{[], ◌∷◌, ◌++◌}
use lib.ListN.{length, set}
use lib.Seq.{sets}
use Rattle.octets.specs.Bytes.{Bytes, decimal, padded}
use Rattle.octets.proofs.Decimals.{some_digit}
use Rattle.octets.proofs.Rightmost.{length_small, length-step, all_padded}
use Rattle.message.specs.Wrote.{Wrote}
use Rattle.message.proofs.Leftward.{set_before, rest_more}
use Rattle.message.proofs.Writes.{chain, reword, few_digits}
use Rattle.amounts.specs.Amount.{without, pointing}

pub fifteen : (w : ℕ) → w ≤ 999_999_999_999_999 → length (decimal w) ≤ 15
fifteen w h = omega (arith, few_digits 14 w (omega arith))

-- the number without its last k digits, divided
pub without_last : (k n : ℕ) → n / 10 ^ k ≡ without k n
without_last zero n = div-one n
without_last (suc k) n = sym (rest_more (suc k) k n (n / 10 ^ suc k) refl refl) ∙ without_last k (n / 10)

-- THE DIGITS BEFORE THE POINT: a lone 0 if no other
front_length : (p w : ℕ) → length (decimal (without p w)) ≡ length (decimal w) - p - 1 + 1
front_length zero w = omega (arith, some_digit w)
front_length (suc p) w = go (dec_lt w 10) (front_length p (w / 10))
  where
    go : Dec (w < 10) → length (decimal (without p (w / 10))) ≡ length (decimal (w / 10)) - p - 1 + 1 → length (decimal (without p (w / 10))) ≡ length (decimal w) - suc p - 1 + 1
    go (yes l) f = omega (arith, length_small w l, length_small (w / 10) (omega arith))
    go (no l) f = omega (arith, length-step w (omega arith))

-- WHAT STANDS BEHIND, PUT FIRST
sets_before : (xs ys l : Bytes) (i k : ℕ) → i + length xs ≤ k → sets (sets l k ys) i xs ≡ sets (sets l i xs) k ys
sets_before [] ys l i k h = refl
sets_before (x ∷ xs) ys l i k h =
    ap (λ (z : Bytes). sets z (suc i) xs) (set_before ys l i k x (omega arith)) ∙ sets_before xs ys (set l i x) (suc i) k (omega arith)

before : {d d₁ d₂ : Bytes} {at mid to : ℕ} {xs ys : Bytes} → Wrote d d₁ mid to ys → Wrote d₁ d₂ at mid xs → Wrote d d₂ at to (xs ++ ys)
before {d} {d₁} {d₂} {at} {mid} {to} {xs} {ys} a b =
    let A : Wrote d (sets d at xs) at mid xs = record { next = b.next; bytes = refl } in
    let B : Wrote (sets d at xs) d₂ mid to ys =
    record {
      next = a.next;
      bytes = b.bytes ∙ ap (λ (l : Bytes). sets l at xs) a.bytes ∙ sets_before xs ys d at mid (omega (arith, b.next));
    } in
    chain A B

-- the whole text
pub pointed : {d d₁ d₂ d₃ : Bytes} {at mid from to : ℕ} (f p w r : ℕ) → 1 ≤ p → f ≡ length (decimal w) - p - 1 + 1 → r ≡ w / 10 ^ p → Wrote d d₁ from to (padded p w)
    → Wrote d₁ d₂ mid from (46 ∷ []) → Wrote d₂ d₃ at mid (padded f r) → Wrote d d₃ at to (pointing w p)
pointed f zero w r h e q a b c = absurd (omega arith)
pointed f (suc p) w r h e q a b c =
    let s : r ≡ without (suc p) w = q ∙ without_last (suc p) w in
    let n : f ≡ length (decimal (without (suc p) w)) = e ∙ sym (front_length (suc p) w) in
    before (before a b) (reword (ap (padded f) s ∙ all_padded f (without (suc p) w) n) c)
