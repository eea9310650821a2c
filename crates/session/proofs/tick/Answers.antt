-- `tick`: a refusal, nothing due, or the Heartbeat.
use mathlib.Core.List.{[], ◌∷◌}
use mathlib.Core.Path.{refl}
use native.Mathlib.Omega.{arith}
use lib.ListN.{length}
use Rattle.message.specs.Message.{absent}
use Rattle.moves.specs.Moves.{Heartbeat, Write}
use Rattle.moves.specs.Held.{session_of}
use Rattle.session.specs.Calls.{unticked, tick}
use Rattle.session.proofs.Ticking.{ticks_by, tick_still}
use Rattle.session.proofs.Venue.{ready_to, own_shut, own_made}
use Rattle.session.proofs.tick.Goals as goal

pub returns-in-Err : goal.returns-in-Err
unfolding tick
returns-in-Err c =
    let a = c.args in
    own_shut a.r (unticked (session_of a.r) a.time (length a.buf.now)) a.time (Write (Heartbeat absent) ∷ []) a.buf.now c.in-Err.ensures c.refused.ensures

pub returns-in-Ok-false : goal.returns-in-Ok-false
returns-in-Ok-false c = tick_still c.args.r c.args.time c.args.buf.now (rw c.in-Ok-false.field-0-test at c.in-Ok-false.ensures) c.unchanged.ensures

pub beating-requires : goal.beating-requires
beating-requires c =
    let S = ticks_by (session_of c.args.r) _ _ (rw c.in-Ok-true.field-0-test at c.in-Ok-true.ensures) in
    (ready_to c.args.r S, omega (arith, S.roomy), S.timed)

pub returns-in-Ok-true : goal.returns-in-Ok-true
unfolding tick
returns-in-Ok-true c =
    let a = c.args in
    own_made a.r (unticked (session_of a.r) a.time (length a.buf.now)) a.time (Write (Heartbeat absent) ∷ []) a.buf.now (rw c.in-Ok-true.field-0-test at c.in-Ok-true.ensures) refl c.beating.ensures
