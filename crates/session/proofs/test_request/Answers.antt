-- `test_request`: a refusal, or our Test Request and nothing else.
use native.Mathlib.Omega.{arith}
use mathlib.Core.List.{◌++◌}
use lib.ListN.{length}
use Rattle.moves.specs.Held.{session_of}
use Rattle.session.specs.Calls.{unsendable, test_request}
use Rattle.session.proofs.Stepping.{ample}
use Rattle.session.proofs.Playing.{plan-fits, plan-says, plan_makes}
use Rattle.session.proofs.Venue.{asks_by, ready_to, own_shut, own_made, eighth, asked, asked-plan, asked_fit}
use Rattle.session.proofs.test_request.Goals as goal

pub say-requires : goal.say-requires
say-requires c =
    let a = c.args in
    let S = asks_by (session_of a.r) a.id.now _ _ c.in-Ok.ensures in
    let R = ready_to a.r S.0 in
    let F = asked_fit a.time _ a.id.now (ample a.r R) S.1 (λ i. omega (arith, c.shared_slice_known-1.given i)) in
    let e = asked-plan (session_of a.r) a.id.now c.saying-p.ensures in
    record { ready = R; in_bounds = (omega (arith, S.0.roomy), S.0.timed, plan-fits a.time (session_of a.r) a.id.now c.saying-p.result (asked a.id.now) e F, plan-says (session_of a.r) a.id.now c.saying-p.result (asked a.id.now) e tt) }

pub returns-in-Err : goal.returns-in-Err
unfolding test_request
returns-in-Err c =
    let a = c.args in
    own_shut a.r (unsendable (session_of a.r) a.time (length a.buf.now) ++ eighth a.id.now) a.time (asked a.id.now) a.buf.now c.in-Err.ensures c.refused.ensures

pub returns-in-Ok : goal.returns-in-Ok
unfolding test_request
returns-in-Ok c =
    let a = c.args in
    own_made a.r (unsendable (session_of a.r) a.time (length a.buf.now) ++ eighth a.id.now) a.time (asked a.id.now) a.buf.now c.in-Ok.ensures
    (plan_makes a.time (session_of a.r) a.id.now c.saying-p.result (asked a.id.now) a.buf.now (asked-plan (session_of a.r) a.id.now c.saying-p.ensures)) c.say.ensures
