-- `step`: a refusal before the moves, or the moves.
use native.Mathlib.Omega.{arith}
use mathlib.Core.Path.{refl, sym, ◌∙◌}
use Rattle.moves.specs.Held.{session_of}
use Rattle.session.proofs.Stepping.{passes, ready_of, framed_is, body_in_lem, step_refused, step_moves}
use Rattle.session.proofs.Playing.{made_by}
use Rattle.session.proofs.Storing.{refusal_stays, after_as}
use Rattle.session.proofs.step.Goals as goal

pub unwrap-requires : goal.unwrap-requires
unwrap-requires c = sym c.is_some.ensures ∙ (passes (session_of c.args.r) _ _ _ _ (sym c.in-Ok.ensures)).framed

pub moving-requires : goal.moving-requires
moving-requires c =
    let r = c.args.r in
    let P = passes (session_of r) _ _ _ _ (sym c.in-Ok.ensures) in
    record { ready = (ready_of r P, P.ranged, P.not_closed); in_bounds = (P.roomy, P.timed) }

pub returns-in-Err : goal.returns-in-Err
returns-in-Err c =
    let a = c.args in
    let B = c.body_of-body.ensures in
    let o = c.is_some.ensures ∙ framed_is a.frame.now (λ i. omega (arith, c.type_inv.frame i)) c.body_of-body.result B.some B.none in
    let e = step_refused (session_of a.r) a.frame.now a.buf.now a.store.now a.time c.is_store.ensures o c.in-Err.ensures in
    record {
      leaves = made_by a.r (sym e) (record { answered = c.refused.ensures; buffer = refl });
      stored = after_as (session_of a.r) a.frame.now a.time a.buf.now a.store.now refl e (refusal_stays (session_of a.r) _ a.buf.now a.store.now refl);
    }

pub returns-in-Ok : goal.returns-in-Ok
returns-in-Ok c =
    let a = c.args in
    let B = c.body_of-body.ensures in
    let o = c.is_some.ensures ∙ framed_is a.frame.now (λ i. omega (arith, c.type_inv.frame i)) c.body_of-body.result B.some B.none in
    let P = passes (session_of a.r) _ _ _ _ (sym c.in-Ok.ensures) in
    let i = body_in_lem a.frame.now c.body_of-body.result c.unwrap.result c.unwrap.ensures B.some in
    let e = step_moves (session_of a.r) a.frame.now a.buf.now a.store.now a.time c.is_store.ensures o i c.in-Ok.ensures in
    record {
      leaves = made_by a.r (sym e) c.moving.ensures.moved;
      stored = after_as (session_of a.r) a.frame.now a.time a.buf.now a.store.now i e c.moving.ensures.stored;
    }
