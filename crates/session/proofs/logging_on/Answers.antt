-- `logging_on`: the answer to the logon; the store is zeroed where it is accepted and asks for it.
use mathlib.Core.Bool.{not}
use mathlib.Core.Path.{sym, ap, ◌∙◌}
use native.Mathlib.Omega.{arith}
use Rattle.moves.specs.Moves.{waiting}
use Rattle.moves.specs.Held.{session_of}
use Rattle.session.proofs.Stepping.{ample, ranged_is, none_waiting, logon-clean, wait_open}
use Rattle.session.proofs.Fitting.{waiting_fit, waiting-speaks}
use Rattle.session.proofs.Playing.{settled_fits, settled_says, settled_makes}
use Rattle.session.proofs.Storing.{active_same, unaccepted_stays, unasked_stays, asked_zeroes}
use Rattle.session.proofs.logging_on.Goals as goal

pub say-left-requires : goal.say-left-requires
say-left-requires c =
    let a = c.args in
    let k = logon-clean (session_of a.r) a.body.now c.requires.ready.2 c.requires.ready.3 in
    let f = waiting_fit a.time (session_of a.r) a.body.now (ample a.r c.requires.ready.0) (λ i. omega (arith, c.shared_slice_known-1.given i)) k.0 k.1 (none_waiting _ (ranged_is _ c.requires.ready.1) c.requires.ready.2) in
    let w = c.settled-p.ensures in
    let e = c.waiting.ensures in
    let p = c.waiting.result in
    let ds = waiting (session_of a.r) a.body.now a.time in
    record { ready = c.requires.ready.0; in_bounds = (omega (arith, c.requires.in_bounds.0), c.requires.in_bounds.1, settled_fits a.time (session_of a.r) a.body.now p ds w e f, settled_says a.time (session_of a.r) a.body.now p ds w e (waiting-speaks (session_of a.r) a.body.now a.time)) }

pub returns-then-ne : goal.returns-then-ne
returns-then-ne c =
    let a = c.args in
    let l = wait_open a.r a.body.now a.time a.buf.now c.requires.ready.2 c.requires.ready.3
    (settled_makes a.time (session_of a.r) a.body.now c.waiting.result (waiting (session_of a.r) a.body.now a.time) c.settled-p.ensures c.waiting.ensures a.buf.now) c.say-left.ensures in
    record { moved = l; stored = unaccepted_stays a.r a.body.now a.store.now c.requires.ready.2 l (active_same c.say-left.result.after.status) (sym c.ne.ensures ∙ c.if-ne.true) }

pub returns-then-not-holds : goal.returns-then-not-holds
returns-then-not-holds c =
    let a = c.args in
    let l = wait_open a.r a.body.now a.time a.buf.now c.requires.ready.2 c.requires.ready.3
    (settled_makes a.time (session_of a.r) a.body.now c.waiting.result (waiting (session_of a.r) a.body.now a.time) c.settled-p.ensures c.waiting.ensures a.buf.now) c.say-left.ensures in
    record { moved = l; stored = unasked_stays a.r a.body.now a.store.now c.requires.ready.2 l (active_same c.say-left.result.after.status) (sym c.ne.ensures ∙ c.if-ne.false) c.holds.ensures (ap not c.if-not-holds.true) }

pub returns : goal.returns
returns c =
    let a = c.args in
    let l = wait_open a.r a.body.now a.time a.buf.now c.requires.ready.2 c.requires.ready.3
    (settled_makes a.time (session_of a.r) a.body.now c.waiting.result (waiting (session_of a.r) a.body.now a.time) c.settled-p.ensures c.waiting.ensures a.buf.now) c.say-left.ensures in
    record { moved = l; stored = asked_zeroes a.r a.body.now a.store.now c.requires.ready.2 l (active_same c.say-left.result.after.status) (sym c.ne.ensures ∙ c.if-ne.false) c.holds.ensures (ap not c.if-not-holds.false) c.zero_store.ensures }
