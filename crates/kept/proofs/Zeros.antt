-- All bytes from a place on are zero: byte by byte, and as zeros that stand there.
-- Assumes nothing.
use borrow.Author.Count.{below_more}
use Prim.Native.Nat.{ℕ, ◌+◌, ◌-◌, ◌≤◌, ◌<◌}
use native.Mathlib.Omega.{arith}
use mathlib.Core.Path.{◌≡◌, sym, ap, ◌∙◌}
use mathlib.Core.Bool.{Bool, true, false, false≢true}
use mathlib.Core.Logic.{◌⊎◌, inl, inr}
use lib.ListN.{length, get_or, replicate, length-replicate, get_or-replicate}
use Rattle.octets.specs.Bytes.{Bytes}
use Rattle.octets.specs.code.Leaf.{Standing}
use Rattle.octets.proofs.Lists.{at_byte, bytes_at}

-- whether all bytes from n to i are zero
abbrev pub Zeros : Bytes → ℕ → ℕ → Bool → Type 0
Zeros s n i b = (b ≡ true → (q : ℕ) → q < i → n ≤ q → get_or s q 0 ≡ 0) × (((q : ℕ) → q < i → n ≤ q → get_or s q 0 ≡ 0) → b ≡ true)

module _ (s : Bytes) (n : ℕ) where
  pub zeros_more : (i : ℕ) (b b' : Bool) → n ≤ i → Zeros s n i b → ((get_or s i 0 ≡ 0 → ⊥) × (b' ≡ false)) ⊎ ((get_or s i 0 ≡ 0) × (b' ≡ b)) → Zeros s n (i + 1) b'
  zeros_more i b b' h Z (inl w) = (λ e. absurd (false≢true (sym w.1 ∙ e)), λ f. absurd (w.0 (f i (omega arith) h)))
  zeros_more i b b' h Z (inr w) = (λ e. below_more _ _ (Z.0 (sym w.1 ∙ e)) (λ k. w.0), λ f. w.1 ∙ Z.1 (λ q l k. f q (omega arith) k))

  pub zeros_stand : (b : Bool) → n ≤ length s → Zeros s n (length s) b → Standing s n (replicate (length s - n) 0) b
  zeros_stand b h Z =
      let m = length s - n in
      let z = length-replicate {A = ℕ} m 0 in
      record {
        found = λ e.
            bytes_at s n (replicate m 0) (omega arith)
            (λ i k. let l : i < m = omega arith in Z.0 e (n + i) (omega arith) (omega arith) ∙ sym (get_or-replicate m i 0 0 l));
        none = λ e A.
            false≢true
            (sym e
            ∙ Z.1
            (λ q l k. let r : n + (q - n) ≡ q = omega arith in
            ap (λ (j : ℕ). get_or s j 0) (sym r) ∙ at_byte s n (replicate m 0) A (q - n) (omega arith) ∙ get_or-replicate m (q - n) 0 0 (omega arith)));
      }
