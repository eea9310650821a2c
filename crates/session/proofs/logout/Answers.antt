-- `logout`: a refusal, or our Logout and Closed.
use native.Mathlib.Omega.{arith}
use mathlib.Core.List.{[]}
use lib.ListN.{length}
use Rattle.moves.specs.Held.{session_of}
use Rattle.session.specs.Calls.{unsendable, logout}
use Rattle.session.proofs.Stepping.{ample}
use Rattle.session.proofs.Playing.{plan-fits, plan-says, plan_makes}
use Rattle.session.proofs.Venue.{sends_by, ready_to, own_shut, own_made, farewell, farewell-plan, farewell_fit}
use Rattle.session.proofs.logout.Goals as goal

pub say-requires : goal.say-requires
say-requires c =
    let a = c.args in
    let S = sends_by (session_of a.r) _ _ c.in-Ok.ensures in
    let R = ready_to a.r S in
    let e = farewell-plan (session_of a.r) c.closing-p.ensures in
    record { ready = R; in_bounds = (omega (arith, S.roomy), S.timed, plan-fits a.time (session_of a.r) [] c.closing-p.result farewell e (farewell_fit a.time _ (ample a.r R)), plan-says (session_of a.r) [] c.closing-p.result farewell e tt) }

pub returns-in-Err : goal.returns-in-Err
unfolding logout
returns-in-Err c =
    let a = c.args in
    own_shut a.r (unsendable (session_of a.r) a.time (length a.buf.now)) a.time farewell a.buf.now c.in-Err.ensures c.refused.ensures

pub returns-in-Ok : goal.returns-in-Ok
unfolding logout
returns-in-Ok c =
    let a = c.args in
    own_made a.r (unsendable (session_of a.r) a.time (length a.buf.now)) a.time farewell a.buf.now c.in-Ok.ensures
    (plan_makes a.time (session_of a.r) [] c.closing-p.result farewell a.buf.now (farewell-plan (session_of a.r) c.closing-p.ensures)) c.say.ensures
