-- F2: any two readings of a byte string are equal; and what a reading says of bytes that are one good frame.
use Prim.Native.Nat.{ℕ, ◌≤◌, ◌<◌}
use native.Mathlib.Omega.{arith}
use native.Mathlib.Decide.{dec_lt}
use mathlib.Core.Path.{◌≡◌, sym, ap, ap₂, ◌∙◌, subst}
use mathlib.Core.Logic.{◌⊎◌, inl, inr}
use lib.ListN.{length, take, drop}
use lib.Seq.{take-length}
use Rattle.octets.specs.Bytes.{Bytes}
use Rattle.octets.proofs.Lists.{part_length}
use Rattle.frame.specs.Frame.{Rule, Good, GoodAt, Live}
use Rattle.frame.specs.Reading.{Answer, frame, refusal, Leftmost, Unfinished, Reads, HandedOut}
use Rattle.frame.proofs.Good.{good_unique, good_whole}

-- what holds at p, and for no place before q
pub not_before : (p q : ℕ) (P : ℕ → Type 0) → P p → ((k : ℕ) → k < q → P k → ⊥) → q ≤ p
not_before p q P h none = go (dec_lt p q)
  where
    go : Dec (p < q) → q ≤ p
    go (yes l) = absurd (none p l h)
    go (no l) = omega arith

module _ (R : Rule) (s : Bytes) where
  pub left_one : {p n q m : ℕ} → Leftmost R s p n → Leftmost R s q m → (p ≡ q) × (n ≡ m)
  left_one {p} {n} {q} {m} A B =
      let h₁ : q ≤ p = not_before p q (λ (k : ℕ). (i : ℕ) × GoodAt R s k i) (n, A.here) (λ k l w. B.left k w.0 l w.1) in
      let h₂ : p ≤ q = not_before q p (λ (k : ℕ). (i : ℕ) × GoodAt R s k i) (m, B.here) (λ k l w. A.left k w.0 l w.1) in
      let e : p ≡ q = omega arith in
      (e, good_unique R (subst (λ (x : ℕ). GoodAt R s x n) e A.here) B.here)

  pub stop_bound : {d : ℕ} → Unfinished R s d → d ≤ length s
  stop_bound {d} A = go A.stop
    where
      go : (d ≡ length s) ⊎ ((d < length s) × Live R s d) → d ≤ length s
      go (inl e) = omega arith
      go (inr w) = omega (arith, w.0)

  least : {d f : ℕ} → Unfinished R s d → Unfinished R s f → f ≤ d
  least {d} {f} A B = go A.stop
    where
      go : (d ≡ length s) ⊎ ((d < length s) × Live R s d) → f ≤ d
      go (inl e) = omega (arith, stop_bound B)
      go (inr w) = not_before d f (λ (k : ℕ). Live R s k) w.1 B.dead

  pub unfinished_one : {d f : ℕ} → Unfinished R s d → Unfinished R s f → d ≡ f
  unfinished_one A B = omega (arith, least A B, least B A)

  -- F2 in this paper's numbers
  pub reads_one : (a b : Answer) → Reads R s a → Reads R s b → a ≡ b
  reads_one (frame p n) (frame q m) A B = let e = left_one A B in ap₂ frame e.0 e.1
  reads_one (frame p n) (refusal k d) A B = absurd (B.1.none p n A.here)
  reads_one (refusal k d) (frame p n) A B = absurd (A.1.none p n B.here)
  reads_one (refusal k d) (refusal j f) A B = ap₂ refusal (A.0 ∙ sym B.0) (unfinished_one A.1 B.1)

  -- ---- s is one good frame just where the reading hands out all of it
  whole_read : Good R s → Reads R s (frame 0 (length s))
  whole_read G = record { here = good_whole R s G; left = λ q m l. absurd (omega arith) }

  pub whole_found : {p n : ℕ} → Leftmost R s p n → Good R s → (p ≡ 0) × (n ≡ length s)
  whole_found A G = left_one A (whole_read G)

  pub whole_refused : {d : ℕ} → Reads R s (refusal 1 d) → Good R s → ⊥
  whole_refused A G = A.1.none 0 (length s) (good_whole R s G)

  pub found_whole : {p n : ℕ} → Leftmost R s p n → p ≡ 0 → n ≡ length s → Good R s
  found_whole A e k =
      subst (λ (l : Bytes). Good R l) (ap₂ (λ (n i : ℕ). take n (drop i s)) k e ∙ take-length s) A.here.good

  -- the part of s that is handed out
  pub found_part : (p n : ℕ) → Leftmost R s p n → HandedOut R s (take n (drop p s)) p
  found_part p n L =
      let k : length (take n (drop p s)) ≡ n = part_length s p n L.here.inside in
      record { part = ap (λ (i : ℕ). take i (drop p s)) (sym k); reads = subst (λ (i : ℕ). Leftmost R s p i) (sym k) L }
