-- `put_message`: refusal 9, or the frame at the front of the buffer.
use Rattle.writer.proofs.Calls.{too_short, put_whole}
use Rattle.writer.proofs.put_message.Goals as goal

pub returns-then-buf-len : goal.returns-then-buf-len
returns-then-buf-len c = too_short _ _ _ c.frame_length-len.ensures c.if-buf-len.true

pub returns : goal.returns
returns c = put_whole _ _ _ c.frame_length-len.ensures _ _ c.if-buf-len.false c.put_frame.ensures
