-- `replay`: 11, 14, 7, 6, nothing due, or the next message.
use mathlib.Core.Path.{refl}
use Rattle.replaying.proofs.Gates.{replay_still, replay_next, passed_by}
use Rattle.replaying.proofs.replay.Goals as goal

pub returns-in-Err : goal.returns-in-Err
returns-in-Err c = let a = c.args in replay_still a.r a.time a.buf.now a.store.now c.is_store.ensures c.in-Err.ensures (record { answered = c.refused.ensures; buffer = refl })

pub returns-in-Ok-false : goal.returns-in-Ok-false
returns-in-Ok-false c =
    let a = c.args in
    replay_still a.r a.time a.buf.now a.store.now c.is_store.ensures (rw c.in-Ok-false.field-0-test at c.in-Ok-false.ensures) (record { answered = c.unchanged.ensures; buffer = refl })

pub play_next-requires : goal.play_next-requires
play_next-requires c =
    let a = c.args in
    let P = passed_by a.r a.time a.buf.now a.store.now c.is_store.ensures (rw c.in-Ok-true.field-0-test at c.in-Ok-true.ensures) in
    (P.ranged, P.is_running, P.stored, P.timed, P.roomy)

pub returns-in-Ok-true : goal.returns-in-Ok-true
returns-in-Ok-true c =
    let a = c.args in
    replay_next a.r a.time a.buf.now a.store.now c.is_store.ensures (rw c.in-Ok-true.field-0-test at c.in-Ok-true.ensures) c.play_next.ensures
