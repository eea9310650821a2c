-- Bytes that are stored one behind the other, and what stands before them and behind.
-- Assumes nothing.
use Prim.Native.Nat.{ℕ, suc, ◌+◌, ◌≤◌, ◌<◌}
use native.Mathlib.Nat.{add-zero, add-suc, suc-add}
use native.Mathlib.Omega.{arith}
use mathlib.Core.Path.{◌≡◌, refl, sym, ap, ◌∙◌}
use mathlib.Core.List.{[], ◌∷◌, ◌++◌}
use lib.ListN.{length, take, drop, set, get_or, replicate, length-replicate}
use lib.Seq.{sets, length-sets, take-set-le, drop-set-add}
use borrow.Rule.Slice.PartMut.{put_mid}
use Rattle.std.proofs.lemmas.Slice.{put_mid-paste}
use Rattle.std.proofs.lemmas.List.Edits.{paste_all, sets-eq}
use Rattle.octets.specs.Bytes.{Bytes}
use Rattle.octets.proofs.Lists.{part_length}
use Rattle.std.proofs.Common.{append_assoc, add-one, length-take-le, take-suc}

-- xs and behind them ys
pub sets_append : (xs ys l : Bytes) (at : ℕ) → sets (sets l at xs) (at + length xs) ys ≡ sets l at (xs ++ ys)
sets_append [] ys l at = ap (λ (k : ℕ). sets l k ys) (add-zero at)
sets_append (x ∷ xs) ys l at =
    ap (λ (k : ℕ). sets (sets (set l at x) (suc at) xs) k ys) (add-suc at (length xs) ∙ sym (suc-add at (length xs))) ∙ sets_append xs ys (set l at x) (suc at)

-- what stands before the stored bytes, and what stands from a place before them on
pub take_sets : (n : ℕ) (xs l : Bytes) (at : ℕ) → n ≤ at → take n (sets l at xs) ≡ take n l
take_sets n [] l at h = refl
take_sets n (x ∷ xs) l at h = take_sets n xs (set l at x) (suc at) (omega arith) ∙ take-set-le n l at x h

pub drop_sets : (n : ℕ) (xs l : Bytes) (at : ℕ) → drop n (sets l (n + at) xs) ≡ sets (drop n l) at xs
drop_sets n [] l at = refl
drop_sets n (x ∷ xs) l at =
    ap (λ (k : ℕ). drop n (sets (set l (n + at) x) k xs)) (sym (add-suc n at))
    ∙ drop_sets n xs (set l (n + at) x) (suc at)
    ∙ ap (λ (d : Bytes). sets d (suc at) xs) (drop-set-add n l at x)

-- a part of l that is written over
pub mid_sets : (l xs ys : Bytes) (at k : ℕ) → ys ≡ xs → k ≡ length xs → at + k ≤ length l → put_mid at k l ys ≡ sets l at xs
mid_sets l xs ys at k e n h =
    put_mid-paste at k l ys xs k e refl n
    ∙ paste_all l at xs k n
    ∙ ap (λ (j : ℕ). take at l ++ (xs ++ drop (at + j) l)) n
    ∙ sym (sets-eq xs l at (omega arith) ∙ append_assoc (take at l) xs (drop (at + length xs) l))

-- one byte more of those that are stored
pub byte_more : (l l' : Bytes) (at k : ℕ) (m : Bytes) → k < length m → l' ≡ sets l at (take k m) → set l' (at + k) (get_or m k 0) ≡ sets l at (take (k + 1) m)
byte_more l l' at k m h e =
    let n : length (take k m) ≡ k = length-take-le k m (omega arith) in
    let t : take (k + 1) m ≡ take k m ++ (get_or m k 0 ∷ []) = rw (add-one, take-suc m k 0 h) in
    ap (λ (d : Bytes). set d (at + k) (get_or m k 0)) e
    ∙ ap (λ (i : ℕ). set (sets l at (take k m)) (at + i) (get_or m k 0)) (sym n)
    ∙ sets_append (take k m) (get_or m k 0 ∷ []) l at
    ∙ ap (λ (d : Bytes). sets l at d) (sym t)

-- and the zeros behind them
pub zeros_behind : (l p xs zs : Bytes) (at r : ℕ) → p ≡ sets l at xs → at + length xs + r ≤ length l
    → zs ≡ replicate (length (take r (drop (at + length xs) p))) 0
    → put_mid (at + length xs) r p zs ≡ sets l at (xs ++ replicate r 0)
zeros_behind l p xs zs at r e h z =
    let w : length p ≡ length l = ap length e ∙ length-sets l at xs in
    let k : length (take r (drop (at + length xs) p)) ≡ r = part_length p (at + length xs) r (omega arith) in
    mid_sets p (replicate r 0) zs (at + length xs) r (z ∙ ap (λ (i : ℕ). replicate i 0) k) (sym (length-replicate r 0)) (omega arith)
    ∙ ap (λ (d : Bytes). sets d (at + length xs) (replicate r 0)) e
    ∙ sets_append xs (replicate r 0) l at
