-- The numbers of all places of a store, each read alone. Only the code needs this: nothing here states document 02.
use Rattle.std.specs.Prelude.{ℕ, ◌<◌, ◌≡◌, List, [], length, get_or}
use Rattle.octets.specs.Bytes.{Bytes}
use Rattle.places.specs.Places.{places}
use Rattle.kept.specs.code.Peeked.{Peeked}

-- one number for each place, in their order
pub record AllPeeked (store : Bytes) (ids : ℕ) (numbers : List ℕ) : Type 0 where
  pub long : length numbers ≡ 64
  pub each : (i : ℕ) → i < 64 → Peeked (get_or (places store) i []) ids (get_or numbers i 0)
