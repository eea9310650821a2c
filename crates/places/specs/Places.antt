-- THE STORE as the host lends it (document 02, Q-4): "a store that the host lends, 512 bytes a place, zeros behind".
use Rattle.std.specs.Prelude.{ℕ, zero, suc, ◌-◌, ◌*◌, List, [], ◌∷◌, ◌++◌, Bool, eqb, length, take, drop, replicate}
use Rattle.std.proofs.lemmas.List.Edits.{sets}
use Rattle.octets.specs.Bytes.{Bytes}

-- "Keep the last 64 reports .., 512 bytes a place"
abbrev pub count : ℕ
count = 64

abbrev pub size : ℕ
size = 512

-- "14, store not of 32,768 bytes"
unfoldable pub is_store : Bytes → Bool
is_store store = eqb (length store) 32_768

-- its places, one behind the other
abbrev pub cut : ℕ → Bytes → List Bytes
cut zero l = []
cut (suc k) l = take size l ∷ cut k (drop size l)

unfoldable pub places : Bytes → List Bytes
places store = cut count store

-- "zeros behind"
abbrev pub padded : Bytes → Bytes
padded m = m ++ replicate (size - length m) 0

-- the store with the message m in its place i, counted from 0; all other bytes stay
unfoldable pub put_at : ℕ → Bytes → Bytes → Bytes
put_at i m store = sets store (size * i) (padded m)

-- "An accepted logon with 141=Y zeroes the store; a host lends a new session a zeroed one."
unfoldable pub zeroed : Bytes → Bytes
zeroed store = replicate (length store) 0
