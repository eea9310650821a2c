-- `say`: the messages, put, and the time of sending with them.
use Rattle.session.proofs.Playing.{wrote_played}
use Rattle.session.proofs.played.say.Goals as goal

pub returns : goal.returns
returns c =
    let a = c.args in
    let w = c.stamped-len.ensures in
    wrote_played a.r a.p a.time a.body.now a.buf.now c.answer_of.ensures c.next_after.ensures.is c.next_after-next.ensures.is c.requires.ready c.requires.in_bounds.3 c.left.ensures c.requires.in_bounds.0 w.room w.bytes
