-- The store's places: how many they are, what stands in each, and what a message that is put into one leaves; a store stays a store.
-- Assumes nothing.
use Prim.Native.Nat.{ℕ, zero, suc, ◌+◌, ◌-◌, ◌*◌, ◌≤◌, ◌<◌}
use native.Mathlib.Omega.{arith}
use mathlib.Core.Path.{◌≡◌, refl, sym, ap, ap₂, ◌∙◌}
use mathlib.Core.List.{List, [], ◌∷◌, ◌++◌}
use mathlib.Core.Bool.{true}
use lib.ListN.{length, take, drop, get_or, set, replicate, length-append, length-drop, length-replicate, replicate-append-replicate}
use lib.Seq.{sets, sets-eq, length-sets, take_at, drop_at, drop-drop}
use borrow.Author.Tests.{eq-eqb, eqb-true}
use Rattle.octets.specs.Bytes.{Bytes}
use Rattle.octets.proofs.Lists.{part_length}
use Rattle.places.specs.Places.{is_store, cut, places, padded, put_at, zeroed}
use Rattle.places.proofs.Filling.{take_sets, drop_sets}

-- A STORE has 32,768 bytes
pub store_is : (store : Bytes) → is_store store ≡ true → length store ≡ 32_768
unfolding is_store
store_is store h = eqb-true (length store) 32_768 h

pub is_store_lem : (store : Bytes) → length store ≡ 32_768 → is_store store ≡ true
unfolding is_store
is_store_lem store h = eq-eqb (length store) 32_768 h

-- THE PLACES of any bytes
cut_length : (k : ℕ) (l : Bytes) → length (cut k l) ≡ k
cut_length zero l = refl
cut_length (suc k) l = ap suc (cut_length k (drop 512 l))

cut_at : (k : ℕ) (l : Bytes) (i : ℕ) → i < k → get_or (cut k l) i [] ≡ take 512 (drop (512 * i) l)
cut_at zero l i h = absurd (omega arith)
cut_at (suc k) l zero h = refl
cut_at (suc k) l (suc i) h =
    let e : 512 + 512 * i ≡ 512 * suc i = omega arith in
    cut_at k (drop 512 l) i (omega arith) ∙ ap (λ (d : Bytes). take 512 d) (drop-drop (512 * i) 512 l ∙ ap (λ (n : ℕ). drop n l) e)

pub places-length : (store : Bytes) → length (places store) ≡ 64
unfolding places
places-length store = cut_length 64 store

pub place_at : (store : Bytes) (i : ℕ) → i < 64 → get_or (places store) i [] ≡ take 512 (drop (512 * i) store)
unfolding places
place_at store i h = cut_at 64 store i h

-- the same as the code's slice has it
pub slice_at : (store : Bytes) (i : ℕ) → i < 64 → get_or (places store) i [] ≡ take (512 * i + 512 - 512 * i) (drop (512 * i) store)
slice_at store i h =
    let e : 512 ≡ 512 * i + 512 - 512 * i = omega arith in
    place_at store i h ∙ ap (λ (n : ℕ). take n (drop (512 * i) store)) e

pub place-length : (store : Bytes) (i : ℕ) → is_store store ≡ true → i < 64 → length (get_or (places store) i []) ≡ 512
place-length store i s h =
    ap length (place_at store i h) ∙ part_length store (512 * i) 512 (omega (arith, store_is store s))

-- A MESSAGE in a place
pub padded-length : (m : Bytes) → length m ≤ 512 → length (padded m) ≡ 512
padded-length m h = let z : length (replicate {A = ℕ} (512 - length m) 0) ≡ 512 - length m = length-replicate (512 - length m) 0 in omega (arith, length-append m (replicate (512 - length m) 0))

cut_sets : (k : ℕ) (p l : Bytes) (i : ℕ) → length p ≡ 512 → i < k → 512 * k ≤ length l → cut k (sets l (512 * i) p) ≡ set (cut k l) i p
cut_sets zero p l i e h r = absurd (omega arith)
cut_sets (suc k) p l zero e h r =
    let z : 0 + length p ≡ length p = omega arith in
    let s : sets l 0 p ≡ p ++ drop (length p) l = sets-eq p l 0 (omega arith) ∙ ap (λ (n : ℕ). p ++ drop n l) z in
    ap₂ (λ (a b : Bytes). a ∷ cut k b) (ap (take 512) s ∙ take_at p (drop (length p) l) 512 e) (ap (drop 512) s ∙ drop_at p (drop (length p) l) 512 e ∙ ap (λ (n : ℕ). drop n l) e)
cut_sets (suc k) p l (suc i) e h r =
    let n : 512 * suc i ≡ 512 + 512 * i = omega arith in
    let w : 512 * k ≤ length (drop 512 l) = omega (arith, length-drop 512 l) in
    ap₂ (λ (a : Bytes) (b : List Bytes). a ∷ b)
    (take_sets 512 p l (512 * suc i) (omega arith))
    (ap (λ (j : ℕ). cut k (drop 512 (sets l j p))) n ∙ ap (cut k) (drop_sets 512 p l (512 * i)) ∙ cut_sets k p (drop 512 l) i e (omega arith) w)

pub put_places : (store m : Bytes) (i : ℕ) → is_store store ≡ true → i < 64 → length m ≤ 512 → places (put_at i m store) ≡ set (places store) i (padded m)
unfolding places put_at
put_places store m i s h k = cut_sets 64 (padded m) store i (padded-length m k) h (omega (arith, store_is store s))

pub put_store : (store m : Bytes) (i : ℕ) → is_store store ≡ true → is_store (put_at i m store) ≡ true
unfolding put_at
put_store store m i s = is_store_lem (sets store (512 * i) (padded m)) (length-sets store (512 * i) (padded m) ∙ store_is store s)

-- ZEROS in every place
take-zeros : (n m : ℕ) → take n (replicate {A = ℕ} (n + m) 0) ≡ replicate n 0
take-zeros n m = ap (take n) (sym (replicate-append-replicate n m 0)) ∙ take_at (replicate n 0) (replicate m 0) n (length-replicate n 0)

drop-zeros : (n m : ℕ) → drop n (replicate {A = ℕ} (n + m) 0) ≡ replicate m 0
drop-zeros n m = ap (drop n) (sym (replicate-append-replicate n m 0)) ∙ drop_at (replicate n 0) (replicate m 0) n (length-replicate n 0)

cut_zeros : (k n : ℕ) → n ≡ 512 * k → cut k (replicate n 0) ≡ replicate k (replicate 512 0)
cut_zeros zero n e = refl
cut_zeros (suc k) n e =
    let s : n ≡ 512 + 512 * k = omega arith in
    ap (λ (j : ℕ). cut (suc k) (replicate j 0)) s
    ∙ ap₂ (λ (a : Bytes) (b : List Bytes). a ∷ b) (take-zeros 512 (512 * k)) (ap (cut k) (drop-zeros 512 (512 * k)) ∙ cut_zeros k (512 * k) refl)

pub zeroed-places : (store : Bytes) → is_store store ≡ true → places (zeroed store) ≡ replicate 64 (replicate 512 0)
unfolding places zeroed
zeroed-places store s = cut_zeros 64 (length store) (omega (arith, store_is store s))

pub zeroed_store : (store : Bytes) → is_store store ≡ true → is_store (zeroed store) ≡ true
unfolding zeroed
zeroed_store store s = is_store_lem (replicate (length store) 0) (length-replicate (length store) 0 ∙ store_is store s)
