-- `put_bytes`: the first i bytes stand there, and then all of them.
use Rattle.std.proofs.Common.{◌≡◌, length, refl, arith}
use lib.ListN.{length-set}
use lib.Seq.{take_all}
use Rattle.message.proofs.Writes.{reword, byte_more}
use Rattle.message.proofs.put_bytes.Goals as goal

pub loop-i-init : goal.loop-i-init
loop-i-init c = (refl, search)

pub loop-i-preserved : goal.loop-i-preserved
loop-i-preserved c = let l = c.loop-i in (simp length-set l.invariant.0, byte_more c.args.s.now (omega arith) l.invariant.1)

pub returns : goal.returns
returns c =
    let l = c.loop-i in
    let s = c.args.s.now in
    let e : l.i ≡ length s = omega (arith, c.loop-i-test.false, l.auto.i-end) in
    reword (take_all (length s) s (omega arith)) (rw e at l.invariant.1)
