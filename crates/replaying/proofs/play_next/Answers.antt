-- `play_next`: the report that is kept under the place's number, or a gap fill.
use native.Mathlib.Omega.{arith}
use mathlib.Core.Path.{refl, ◌∙◌}
use Rattle.calendar.proofs.Texts.{utc_before}
use Rattle.replaying.proofs.Plays.{plays, place_within, place_number, run_within, play_again, fill_there, play_fill}
use Rattle.replaying.proofs.play_next.Goals as goal

pub invariant_of-ids : goal.invariant_of-ids
invariant_of-ids c = let P = plays c.args.r c.requires.0 c.requires.1 in record { ours = P.ours.right; peers = P.peer.right }

pub place_of-requires : goal.place_of-requires
place_of-requires c = let P = plays c.args.r c.requires.0 c.requires.1 in (P.low, c.peeked-numbers.ensures)

pub put_again-len-requires : goal.put_again-len-requires
put_again-len-requires c =
    record { room = (c.place.ensures.size, c.requires.3, c.requires.4); kept = place_number _ _ _ _ c.in-Some.ensures c.place.ensures.is }

pub moved_on-requires : goal.moved_on-requires
moved_on-requires c = let P = plays c.args.r c.requires.0 c.requires.1 in omega (arith, P.ordered, P.high)

pub returns-in-Some : goal.returns-in-Some
returns-in-Some c =
    play_again c.args.r c.args.time c.args.buf.now (plays c.args.r c.requires.0 c.requires.1) c.args.store.now c.in-Some.ensures c.place.ensures.is c.put_again-len.ensures.bytes (omega (arith, c.put_again-len.ensures.room, c.requires.4)) c.moved_on.ensures

pub overflow_add-e : goal.overflow_add-e
overflow_add-e c =
    let P = plays c.args.r c.requires.0 c.requires.1 in
    let b = run_within _ _ _ _ _ P.ordered c.in_default.ensures in
    omega (arith, c.run_to-e.ensures, b, P.high)

pub shared_ref_as_front-ids : goal.shared_ref_as_front-ids
shared_ref_as_front-ids c = (plays c.args.r c.requires.0 c.requires.1).ours.short

pub shared_ref_as_front-ids-2 : goal.shared_ref_as_front-ids-2
shared_ref_as_front-ids-2 c = (plays c.args.r c.requires.0 c.requires.1).peer.short

pub place-requires : goal.place-requires
place-requires c = place_within _ _ _ _ c.in-Some.ensures

pub unwrap-len-requires : goal.unwrap-len-requires
unwrap-len-requires c =
    let P = plays c.args.r c.requires.0 c.requires.1 in
    let W = fill_there c.args.r c.args.time c.args.buf.now P c.args.store.now c.in_default.ensures c.run_to-e.ensures (c.utc-stamp.ensures ∙ utc_before _ c.requires.3) c.put_reply.ensures c.requires.4 in
    rw W.1 refl

pub returns : goal.returns
returns c =
    play_fill c.args.r c.args.time c.args.buf.now (plays c.args.r c.requires.0 c.requires.1) c.args.store.now c.in_default.ensures c.run_to-e.ensures (c.utc-stamp.ensures ∙ utc_before _ c.requires.3) c.put_reply.ensures c.unwrap-len.ensures c.requires.4 c.moved_on-2.ensures
