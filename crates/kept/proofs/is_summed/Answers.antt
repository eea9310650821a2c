-- `is_summed`: the trailer of the sum.
use native.Mathlib.Omega.{arith}
use Prim.Native.Nat.{ℕ, ◌-◌}
use mathlib.Core.Path.{sym, subst}
use lib.Seq.{length-take-le}
use Rattle.octets.specs.Bytes.{Bytes}
use Rattle.octets.specs.code.Leaf.{Standing}
use Rattle.frame.specs.Frame.{trailer}
use Rattle.kept.proofs.is_summed.Goals as goal

pub slice_bounds-checksum-end : goal.slice_bounds-checksum-end
slice_bounds-checksum-end c = let a = c.args in sym (length-take-le (a.n - 7) a.place.now (omega arith))

pub returns : goal.returns
returns c =
    let a = c.args in
    subst (λ (x : ℕ). Standing a.place.now (a.n - 7) (trailer x) c.stands_at.result) c.checksum-s.ensures
    (subst (λ (l : Bytes). Standing a.place.now (a.n - 7) l c.stands_at.result) c.trailer.ensures c.stands_at.ensures)
