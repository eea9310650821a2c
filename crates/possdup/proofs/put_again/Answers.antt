-- `put_again`: what is copied out of the place is the report that it holds, sent again.
use borrow.Author.Rules.{rules}
use native.Mathlib.Omega.{arith}
use mathlib.Core.Path.{refl, sym, ◌∙◌}
use lib.ListN.{length, take}
use lib.Seq.{length-take-le}
use Rattle.calendar.proofs.Texts.{utc_before}
use Rattle.message.proofs.Writes.{few_digits, front_of}
use Rattle.kept.proofs.Few.{short}
use Rattle.possdup.proofs.Resending.{number_fits, within, again_put, frame-fits}
use Rattle.possdup.proofs.put_again.Goals as goal

pub overflow_add-at-2 : goal.overflow_add-at-2
overflow_add-at-2 c =
    omega (arith, short c.args.ids.now.us.now c.args.ids.now.ours, short c.args.ids.now.them.now c.args.ids.now.peers)

pub overflow_add-at-3 : goal.overflow_add-at-3
overflow_add-at-3 c =
    omega (arith, short c.args.ids.now.us.now c.args.ids.now.ours, short c.args.ids.now.them.now c.args.ids.now.peers, (few_digits 8 c.args.n (number_fits c.args.ids.now.us.now c.args.ids.now.them.now c.args.place.now c.args.n c.requires.room.0 c.requires.kept)).1, c.width.ensures)

pub overflow_add-end : goal.overflow_add-end
overflow_add-end c =
    omega (arith, (within c.args.ids.now.us.now c.args.ids.now.them.now c.args.place.now c.args.n c.requires.room.0 c.requires.kept c.number-length.result.value c.number-length.result.count c.number-length.ensures).1)

pub put_body-k-requires : goal.put_body-k-requires
put_body-k-requires c =
    let e = c.number-length in
    let W = within c.args.ids.now.us.now c.args.ids.now.them.now c.args.place.now c.args.n c.requires.room.0 c.requires.kept e.result.value e.result.count e.ensures in
    let w = c.width.ensures in
    (refl, c.requires.room.0, omega arith, omega (arith, W.0, w), omega (arith, W.1), search rules)

pub slice_bounds-body-end : goal.slice_bounds-body-end
slice_bounds-body-end c = omega (arith, c.put_body-k.ensures.room)

pub slice_bounds-put_frame-end : goal.slice_bounds-put_frame-end
slice_bounds-put_frame-end c = sym (length-take-le _ _ (omega (arith, c.put_body-k.ensures.room)))

pub put_frame-requires : goal.put_frame-requires
put_frame-requires c =
    let p = c.put_body-k in
    let e = length-take-le p.result p.new.body (omega (arith, p.ensures.room)) in
    frame-fits (length (take p.result p.new.body)) (length c.args.buf.now) (omega (arith, e, p.ensures.room)) c.requires.room.2

pub returns : goal.returns
returns c =
    let p = c.put_body-k in
    let u = c.utc-stamp in
    let w = c.width in
    let e = c.number-length in
    let W = again_put c.args.ids.now.us.now c.args.ids.now.them.now c.args.place.now c.args.n c.requires.room.0 c.requires.kept e.result.value e.result.count e.ensures c.args.time w.result u.result (take p.result p.new.body) w.ensures (u.ensures ∙ utc_before _ c.requires.room.1) (front_of p.ensures.bytes (omega (arith, p.ensures.room))) c.put_frame.ensures in
    record { bytes = W.0; room = W.1 }
