-- `put_frame`: the sum is taken over what stands before the trailer.
use native.Mathlib.Omega.{arith}
use Prim.Native.Nat.{◌%◌}
use mathlib.Core.Path.{ap, ◌∙◌}
use Rattle.octets.specs.Bytes.{Bytes, sum}
use Rattle.frame.specs.Frame.{trailer}
use Rattle.message.specs.Message.{framed}
use Rattle.message.proofs.Writes.{chain, reword, part_of}
use Rattle.message.proofs.put_frame.Goals as goal

pub returns : goal.returns
unfolding framed
returns c =
    let f = c.put_front-a.ensures in
    let e = ap (λ (l : Bytes). trailer (sum l % 256)) (part_of f.bytes (omega arith)) in
    chain f.bytes (reword (c.trailer.ensures ∙ ap trailer c.checksum-sum.ensures ∙ e) c.put_bytes.ensures)
