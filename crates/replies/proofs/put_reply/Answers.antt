-- `put_reply`: nothing where its values do not fit, else the frame around its fields.
use native.Mathlib.Omega.{arith}
use mathlib.Core.Path.{sym, ◌∙◌}
use Rattle.message.proofs.Writes.{reword}
use Rattle.replies.specs.code.Ranges.{code_byte, is_duplicate, headed, own_of}
use Rattle.replies.proofs.Replied.{passed, put, framed_put, framed_room, is_message}
use Rattle.replies.proofs.put_reply.Goals as goal

pub put_head-a-requires : goal.put_head-a-requires
put_head-a-requires c = let P = passed (sym c.is_sendable.ensures ∙ c.if-not-is_sendable.false) in record { ranged = P.ranged; time_len_bound = (P.timed, omega arith) }

pub put_own-k-requires-clause-room : goal.put_own-k-requires-clause-room
put_own-k-requires-clause-room c = let P = passed (sym c.is_sendable.ensures ∙ c.if-not-is_sendable.false) in (P.timed, c.put_head-a.ensures.room, omega arith)

pub put_frame-requires : goal.put_frame-requires
put_frame-requires c =
    let P = passed (sym c.is_sendable.ensures ∙ c.if-not-is_sendable.false) in
    let r = framed_room c.put_own-k.result c.put_own-k.new.body c.put_own-k.ensures.room (omega arith) in
    (omega arith, omega arith)

pub returns : goal.returns
returns c =
    let h = c.args.h.now in
    let r = c.args.reply in
    let P = passed (sym c.is_sendable.ensures ∙ c.if-not-is_sendable.false) in
    let f = framed_room c.put_own-k.result c.put_own-k.new.body c.put_own-k.ensures.room (omega arith) in
    let w = framed_put (headed (code_byte r) h.ours.now h.peers.now h.number (is_duplicate r) h.time.now) (own_of h.time.now r) c.put_head-a.ensures.bytes c.put_own-k.ensures.bytes (omega arith) c.put_frame.ensures in
    put (sym c.is_sendable.ensures ∙ c.if-not-is_sendable.false) (sym c.is_fit.ensures ∙ c.if-not-is_fit.false)
    (reword (is_message h.ours.now h.peers.now h.number h.time.now r) w) (omega (arith, c.put_frame.ensures.next))
