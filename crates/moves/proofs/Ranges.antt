-- What a string and a CompID are, and the CompID that a record holds.
-- Assumes nothing.
use Prim.Native.Nat.{ℕ, ◌≤◌, ◌<◌}
use mathlib.Core.Path.{◌≡◌}
use mathlib.Core.Bool.{true, false, not}
use lib.ListN.{length, take}
use borrow.Author.Tests.{lt-leb, le-leb, not-true}
use Rattle.octets.specs.Bytes.{Bytes, has, within}
use Rattle.octets.proofs.Numerals.{within_is}
use Rattle.octets.proofs.Tests.{both}
use Rattle.message.specs.Unfit.{string_to, comp_id}
use Rattle.moves.specs.Held.{held}

pub string_means : (most : ℕ) (c : Bytes) → string_to most c ≡ true → (1 ≤ length c) × ((length c ≤ most) × (has c 1 ≡ false))
string_means most c e =
    let k = both (within 1 most (length c)) (not (has c 1)) e in
    let l = within_is 1 most (length c) k.0 in
    (l.0, (l.1, not-true (has c 1) k.1))

pub held-long : (n : ℕ) (c : Bytes) → 11 < n → false ≡ comp_id (held n c)
unfolding comp_id
held-long n c h = rw (lt-leb n 11 h)

pub held_is : (n : ℕ) (c : Bytes) → n ≤ 11 → held n c ≡ take n c
held_is n c h = rw (le-leb n 11 h)
