-- `play`: no message, and the record alone changes; or what is said.
use Rattle.moves.specs.Held.{session_of}
use Rattle.session.proofs.Playing.{plan_speaks, quiet_played}
use Rattle.session.proofs.played.play.Goals as goal

pub returns-then-is_quiet : goal.returns-then-is_quiet
returns-then-is_quiet c =
    let a = c.args in
    quiet_played a.r a.p a.time a.body.now a.buf.now c.answer_of.ensures c.is_quiet.ensures c.if-is_quiet.true c.left.ensures c.unchanged.ensures

pub say-requires : goal.say-requires
say-requires c =
    let a = c.args in
    record { ready = c.requires.ready; in_bounds = (c.requires.in_bounds.0, c.requires.in_bounds.1, c.requires.in_bounds.2, plan_speaks (session_of a.r) a.body.now a.p c.is_quiet.ensures c.if-is_quiet.false) }

pub returns : goal.returns
returns c = c.say.ensures
