-- The digits of a number put from the right: one more in front of those that stand.
use Prim.Native.Nat.{ℕ, suc, ◌+◌, ◌/◌, ◌%◌, ◌^◌, ◌≤◌, ◌<◌}
use native.Mathlib.Nat.{add-zero, add-suc, pow-succ', div-div-eq-div-mul}
use native.Mathlib.Omega.{arith}
use mathlib.Core.Path.{◌≡◌, refl, sym, ap, ◌∙◌, subst}
use mathlib.Core.List.{[], ◌∷◌, ◌++◌, append_cancel_left}
use lib.ListN.{length, take, drop, get_or, set, drop_of_length-le}
use lib.Seq.{sets, set_comm, take-suc, take_all, drop-cons, length-take-le}
use Rattle.octets.specs.Bytes.{Bytes, padded}
use Rattle.octets.proofs.Rightmost.{padded-length}
use Rattle.frame.proofs.Good.{same_start}
use Rattle.message.specs.Wrote.{Wrote}

-- ONE MORE in front: j of the digits l are still to come, those of r, and the others stand behind
pub record Left (d d' l : Bytes) (at j r : ℕ) : Type 0 where
  pub within : j ≤ length l
  pub coming : take j l ≡ padded j r
  pub bytes : d' ≡ sets d (at + j) (drop j l)

pub left_all : (d : Bytes) (at k n : ℕ) → Left d d (padded k n) at k n
left_all d at k n =
    record {
      within = omega (arith, padded-length k n);
      coming = take_all k (padded k n) (omega (arith, padded-length k n));
      bytes = ap (λ (x : Bytes). sets d (at + k) x) (sym (drop_of_length-le (padded k n) {i = k} (omega (arith, padded-length k n))));
    }

pub set_before : (ys l : Bytes) (i k v : ℕ) → i < k → set (sets l k ys) i v ≡ sets (set l i v) k ys
set_before [] l i k v h = refl
set_before (y ∷ ys) l i k v h =
    set_before ys (set l k y) i (suc k) v (omega arith) ∙ ap (λ (z : Bytes). sets z (suc k) ys) (set_comm l k i y v (λ e. omega (arith, e)))

left_suc : (d d' l : Bytes) (at j r : ℕ) → Left d d' l at (suc j) r → Left d (set d' (at + j) (48 + r % 10)) l at j (r / 10)
left_suc d d' l at j r F =
    let h : j < length l = omega (arith, F.within) in
    let e : take j l ++ (get_or l j 0 ∷ []) ≡ padded j (r / 10) ++ ((48 + r % 10) ∷ []) = sym (take-suc l j 0 h) ∙ F.coming in
    let n : length (take j l) ≡ length (padded j (r / 10)) = length-take-le j l (omega arith) ∙ sym (padded-length j (r / 10)) in
    let s : take j l ≡ padded j (r / 10) = same_start (take j l) (padded j (r / 10)) _ _ n e in
    let t : (get_or l j 0 ∷ []) ≡ ((48 + r % 10) ∷ []) =
    append_cancel_left (take j l) _ _ (e ∙ ap (λ (x : Bytes). x ++ ((48 + r % 10) ∷ [])) (sym s)) in
    let g : get_or l j 0 ≡ 48 + r % 10 = ap (λ (x : Bytes). get_or x 0 0) t in
    let w : at + suc j ≡ suc (at + j) = add-suc at j in
    record {
      within = omega arith;
      coming = s;
      bytes =
          ap (λ (x : Bytes). set x (at + j) (48 + r % 10)) F.bytes
          ∙ set_before (drop (suc j) l) d (at + j) (at + suc j) (48 + r % 10) (omega arith)
          ∙ ap (λ (x : ℕ). sets (set d (at + j) (48 + r % 10)) x (drop (suc j) l)) w
          ∙ ap (λ (x : ℕ). sets d (at + j) (x ∷ drop (suc j) l)) (sym g)
          ∙ ap (λ (x : Bytes). sets d (at + j) x) (sym (drop-cons l j 0 h));
    }

pub left_more : (d d' l : Bytes) (at i j r : ℕ) → i ≡ suc j → Left d d' l at i r → Left d (set d' (at + j) (48 + r % 10)) l at j (r / 10)
left_more d d' l at i j r e F = left_suc d d' l at j r (subst (λ (x : ℕ). Left d d' l at x r) e F)

pub left_none : (d d' : Bytes) (at k n r : ℕ) → Left d d' (padded k n) at 0 r → Wrote d d' at (at + k) (padded k n)
left_none d d' at k n r F =
    record {
      next = ap (λ (x : ℕ). at + x) (sym (padded-length k n));
      bytes = F.bytes ∙ ap (λ (x : ℕ). sets d x (padded k n)) (add-zero at);
    }

-- WHAT IS LEFT of the number, divided once for each digit that stands
pub rest_more : (i j r w : ℕ) → i ≡ suc j → r / 10 ^ i ≡ w → r / 10 / 10 ^ j ≡ w
rest_more i j r w e h = div-div-eq-div-mul r 10 (10 ^ j) ∙ ap (λ (x : ℕ). r / x) (sym (ap (λ (x : ℕ). 10 ^ x) e ∙ pow-succ' 10 j)) ∙ h
