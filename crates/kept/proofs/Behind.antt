-- What stands at a place, piece by piece: pieces that stand one behind the other are one piece, and the other way; and what a test of one tells.
-- Assumes nothing.
use Prim.Native.Nat.{ℕ, ◌+◌}
use native.Mathlib.Nat.{add_assoc}
use native.Mathlib.Omega.{arith}
use mathlib.Core.Path.{◌≡◌, refl, sym, ap, ap₂, ◌∙◌}
use mathlib.Core.List.{◌++◌}
use mathlib.Core.Bool.{Bool, true, false, false≢true}
use lib.ListN.{length, take, drop, get_or, length-append, get_or-append}
use lib.Seq.{take-length, take-add, drop-drop, get_or-append-add}
use Rattle.octets.specs.Bytes.{Bytes, At}
use Rattle.octets.specs.code.Leaf.{Standing}
use Rattle.octets.proofs.Lists.{at_byte, bytes_at}
use Rattle.kept.specs.code.Walk.{Tells}

module _ (s : Bytes) (p : ℕ) (l m : Bytes) (q : ℕ) (e : q ≡ p + length l) where
  pub at_join : At s p l → At s q m → At s p (l ++ m)
  at_join A B =
      let d : drop (length l) (drop p s) ≡ drop q s = drop-drop (length l) p s ∙ ap (λ (k : ℕ). drop k s) (sym e) in (
        omega (arith, B.0, length-append l m),
        ap (λ (k : ℕ). take k (drop p s)) (length-append l m)
            ∙ take-add (length l) (length m) (drop p s)
            ∙ ap₂ (λ (x y : Bytes). x ++ y) A.1 (ap (λ (x : Bytes). take (length m) x) d ∙ B.1),
      )

  pub at_second : At s p (l ++ m) → At s q m
  at_second A =
      bytes_at s q m (omega (arith, A.0, length-append l m))
      (λ i h. ap (λ (k : ℕ). get_or s k 0) (ap (λ (k : ℕ). k + i) e ∙ add_assoc p (length l) i)
      ∙ at_byte s p (l ++ m) A (length l + i) (omega (arith, length-append l m))
      ∙ get_or-append-add l m i 0)

pub at_first : (s : Bytes) (p : ℕ) (l m : Bytes) → At s p (l ++ m) → At s p l
at_first s p l m A =
    bytes_at s p l (omega (arith, A.0, length-append l m))
    (λ i h. at_byte s p (l ++ m) A i (omega (arith, length-append l m)) ∙ get_or-append l m 0 i h)

-- all of it
pub at_all : (s l : Bytes) → s ≡ l → At s 0 l
at_all s l e = (omega (arith, ap length e), ap (λ (x : Bytes). take (length l) x) e ∙ take-length l)

pub all_at : (s l : Bytes) → At s 0 l → length s ≡ length l → s ≡ l
all_at s l A e = sym (take-length s) ∙ ap (λ (k : ℕ). take k s) e ∙ A.1

-- a test that was passed, and one that was not
pub seen : {s l : Bytes} {p : ℕ} (b : Bool) → Standing s p l b → b ≡ true → At s p l
seen b S e = S.found e

pub missed : {s l : Bytes} {p : ℕ} (b : Bool) → Standing s p l b → b ≡ false → At s p l → ⊥
missed b S e = S.none e

pub stood : {s l : Bytes} {p : ℕ} (b : Bool) → Standing s p l b → At s p l → b ≡ true
stood true S A = refl
stood false S A = absurd (S.none refl A)

pub refuted : {A : Type 0} → (A → ⊥) → Tells A false
refuted n = record { yes = λ e. absurd (false≢true e); no = λ a. absurd (n a) }
