-- One outcome of each call that the crate hands out with no condition, where its contract is a relation. (The contract of `free_place` is an equation.)
use Prim.Native.Nat.{ℕ}
use native.Mathlib.Omega.{arith}
use mathlib.Core.Path.{◌≡◌, sym, ◌∙◌}
use mathlib.Core.List.{List}
use lib.Seq.{ext_get_or}
use Rattle.octets.specs.Bytes.{Bytes}
use Rattle.store.specs.code.Peeked.{AllPeeked}

-- `peeked`
pub all_peeked_one : {store : Bytes} {ids : ℕ} {numbers numbers' : List ℕ} → AllPeeked store ids numbers → AllPeeked store ids numbers' → numbers ≡ numbers'
all_peeked_one {numbers = ns} {numbers' = ms} A B = ext_get_or 0 ns ms (A.long ∙ sym B.long) (λ i h. (A.each i (omega (arith, A.long, h))).is ∙ sym (B.each i (omega (arith, A.long, h))).is)
