-- `put_trade`: three fields.
use Rattle.message.specs.Message.{bytes, ◌is◌}
use Rattle.report.specs.Layout.{needed}
use Rattle.report.proofs.Putting.{three_put, first_unfit, second_unfit}
use Rattle.report.proofs.Sides.{has_571, has_828, has_60}
use Rattle.report.proofs.put_trade.Goals as goal

pub returns-in_err-a-clause-bytes : goal.returns-in_err-a-clause-bytes
returns-in_err-a-clause-bytes c =
    let w = c.args.given.words.now in
    let s = c.args.given.text.now in
    first_unfit (571 is bytes (needed w s 0)) (828 is bytes (needed w s 1)) (60 is bytes (needed w s 2)) c.from_residual.ensures (c.in_err-a.ensures.bytes has_571)

pub returns-in_err-b-clause-bytes : goal.returns-in_err-b-clause-bytes
returns-in_err-b-clause-bytes c =
    let w = c.args.given.words.now in
    let s = c.args.given.text.now in
    second_unfit (571 is bytes (needed w s 0)) (828 is bytes (needed w s 1)) (60 is bytes (needed w s 2)) c.from_residual-in_err-b.ensures (c.in_ok-a.ensures.bytes has_571) (c.in_err-b.ensures.bytes has_828)

pub returns-clause-bytes : goal.returns-clause-bytes
returns-clause-bytes c =
    let w = c.args.given.words.now in
    let s = c.args.given.text.now in
    three_put (571 is bytes (needed w s 0)) (828 is bytes (needed w s 1)) (60 is bytes (needed w s 2)) (c.in_ok-a.ensures.bytes has_571) (c.in_ok-b.ensures.bytes has_828) (c.put_needed-3.ensures.bytes has_60)
