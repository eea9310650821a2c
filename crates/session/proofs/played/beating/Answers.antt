-- `beating`: what a tick's one deed leaves.
use Rattle.session.proofs.Playing.{beat-played}
use mathlib.Core.Path.{refl}
use Rattle.session.proofs.played.beating.Goals as goal

pub returns : goal.returns
returns c =
    let a = c.args in
    let w = c.beat-len.ensures in
    beat-played a.r a.time a.buf.now c.requires.0 refl c.requires.1 w.room w.bytes
