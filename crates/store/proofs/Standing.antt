-- The reports of a store by its bytes: the report of a number stands where `place_of` says, and a new one has a place.
-- Assumes nothing.
use Prim.Native.Nat.{ℕ, ◌*◌, ◌≤◌, ◌<◌}
use native.Mathlib.Omega.{arith}
use mathlib.Core.Path.{◌≡◌, ◌∙◌, subst}
use mathlib.Core.List.{[]}
use mathlib.Core.Option.{none}
use lib.ListN.{length, take, drop}
use Rattle.octets.specs.Bytes.{Bytes}
use Rattle.places.specs.Places.{places}
use Rattle.places.proofs.Cuts.{places-length, place_at}
use Rattle.store.specs.Store.{numbers, find, place_of, takes, kept}
use Rattle.store.proofs.Counting.{Once, takes-within, length_counted, Stands, stands, stands_not, counted_once}

module _ (us them store : Bytes) where
  pub kept_length : length (kept us them store) ≡ 64
  unfolding kept
  kept_length = length_counted us them [] (places store) ∙ places-length store

  pub kept_once : Once (numbers (kept us them store))
  unfolding kept
  kept_once = counted_once us them [] (places store)

  pub takes_place : takes (kept us them store) < 64
  takes_place = let e = kept_length in let h = takes-within (kept us them store) (omega (arith, e)) in omega (arith, e, h)

  -- the report of the number n, and the place with its bytes
  pub found_at : (n : ℕ) → place_of n (kept us them store) < 64
      → Stands us them n (find n (kept us them store)) (take 512 (drop (512 * place_of n (kept us them store)) store))
  unfolding kept
  found_at n l =
      let e = places-length store in
      subst (Stands us them n (find n (kept us them store))) (place_at store (place_of n (kept us them store)) l) (stands us them n [] (places store) (omega (arith, e, l)))

  pub found_none : (n : ℕ) → 64 ≤ place_of n (kept us them store) → find n (kept us them store) ≡ none
  found_none n l = let e = kept_length in stands_not n (kept us them store) (omega (arith, e, l))
