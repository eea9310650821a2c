-- `moving`: by the status, the move that the definition makes.
use native.Mathlib.Omega.{arith}
use mathlib.Core.Path.{refl, sym, ap, ◌∙◌}
use mathlib.Core.Bool.{false≢true}
use Rattle.moves.specs.Moves.{active}
use Rattle.moves.specs.Session.{◌equals◌}
use Rattle.moves.specs.Held.{session_of}
use Rattle.moves.specs.declared.record.Status.{Status}
use Rattle.moves.specs.declared.record.Status.TheVariants.{Active, Closed}
use Rattle.session.proofs.Stepping.{ample, let_in, wait_shut, act}
use Rattle.session.proofs.Fitting.{active_fit}
use Rattle.session.proofs.Playing.{settled_fits, settled_makes, made_by}
use Rattle.session.proofs.Storing.{awake_stays, refusal_stays}
use Rattle.session.proofs.moving.Goals as goal

pub logging_on-requires : goal.logging_on-requires
logging_on-requires c =
    let st = c.in-Waiting.is in
    record { ready = (c.requires.ready.0, c.requires.ready.1, st, let_in (session_of c.args.r) c.args.body.now st c.in-Ok.ensures); in_bounds = c.requires.in_bounds }

pub play-requires : goal.play-requires
play-requires c =
    let a = c.args in
    let f = active_fit a.time (session_of a.r) a.body.now (ample a.r c.requires.ready.0) (λ i. omega (arith, c.shared_slice_known-1.given i)) c.in-Active.is in
    record { ready = c.requires.ready.0; in_bounds = (omega (arith, c.requires.in_bounds.0), c.requires.in_bounds.1, settled_fits a.time (session_of a.r) a.body.now c.active.result (active (session_of a.r) a.body.now a.time) c.settled-p.ensures c.active.ensures f) }

pub returns-in-Err : goal.returns-in-Err
returns-in-Err c =
    let a = c.args in
    let e = wait_shut (session_of a.r) a.body.now a.time a.buf.now c.in-Waiting.is c.in-Err.ensures in
    record { moved = made_by a.r (sym e) (record { answered = c.refused.ensures; buffer = refl }); stored = refusal_stays (session_of a.r) a.body.now a.buf.now a.store.now e }

pub returns-in-Active : goal.returns-in-Active
returns-in-Active c =
    let a = c.args in
    let st = c.in-Active.is in
    let w = settled_makes a.time (session_of a.r) a.body.now c.active.result (active (session_of a.r) a.body.now a.time) c.settled-p.ensures c.active.ensures a.buf.now in
    record { moved = act a.r a.body.now a.time a.buf.now st w c.play.ensures; stored = awake_stays (session_of a.r) a.body.now _ a.store.now Active refl st }

pub returns-in-Closed : goal.returns-in-Closed
returns-in-Closed c = absurd (false≢true (sym c.requires.ready.2 ∙ ap (λ (x : Status). x equals Closed) c.in-Closed.is))
