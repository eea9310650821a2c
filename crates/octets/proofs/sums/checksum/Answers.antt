-- `checksum`: thirty-two eights at a time, the front is a multiple of 256; then each part leaves fewer bytes than it has, and the last seven are all.
use Rattle.std.proofs.Common.{◌≤◌, length, ap, arith, take_all}
use Rattle.octets.specs.Bytes.{sum}
use Rattle.octets.proofs.Parts.{sum_last}
use Rattle.octets.proofs.sums.checksum.Goals as goal

pub add-front-requires : goal.add-front-requires
add-front-requires c = (c.loop-front.invariant.0, omega arith)

pub loop-front-preserved : goal.loop-front-preserved
loop-front-preserved c = (c.add-front.ensures.0, omega arith)

pub add_part-by_128-requires : goal.add_part-by_128-requires
add_part-by_128-requires c = ((c.loop-front.invariant.0, omega arith), omega arith)

pub add-whole-requires : goal.add-whole-requires
add-whole-requires c = (c.add_part-by_8.ensures.0, omega arith)

pub returns : goal.returns
returns c =
    let b = c.add-whole in
    let s = c.args.s.now in
    let e : length s ≤ b.result.at = omega arith in
    sum_last _ _ _ b.ensures.0 (ap sum (take_all b.result.at s e))

pub add_part-by_64-requires : goal.add_part-by_64-requires
add_part-by_64-requires c = (c.add_part-by_128.ensures, omega arith)

pub add_part-by_32-requires : goal.add_part-by_32-requires
add_part-by_32-requires c = (c.add_part-by_64.ensures, omega arith)

pub add_part-by_16-requires : goal.add_part-by_16-requires
add_part-by_16-requires c = (c.add_part-by_32.ensures, omega arith)

pub add_part-by_8-requires : goal.add_part-by_8-requires
add_part-by_8-requires c = (c.add_part-by_16.ensures, omega arith)
