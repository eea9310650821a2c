-- `add_part`: where the length has the bit, n bytes more are as many as are left to the last whole n.
use Rattle.std.proofs.Common.{length, ◌∙◌}
use Rattle.octets.proofs.Parts.{bit_clear, bit_set}
use Rattle.octets.proofs.sums.add_part.Goals as goal

pub returns-then-s-n-eq0 : goal.returns-then-s-n-eq0
returns-then-s-n-eq0 c =
    let a = c.args in
    let p = c.requires in
    (p.0.0, bit_clear (length a.s.now) a.n _ p.0.1 c.if-s-n-eq0.true)

pub add-requires : goal.add-requires
add-requires c =
    let a = c.args in
    let p = c.requires in
    (p.0.0, ((bit_set (length a.s.now) a.n _ p.0.1 c.if-s-n-eq0.false).0, p.1.1))

pub returns : goal.returns
returns c =
    let a = c.args in
    let p = c.requires in
    (c.add.ensures.0, c.add.ensures.1 ∙ (bit_set (length a.s.now) a.n _ p.0.1 c.if-s-n-eq0.false).1)
