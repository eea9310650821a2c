-- `put_instrument`: three fields.
use Rattle.message.specs.Message.{bytes, ◌is◌}
use Rattle.report.specs.Layout.{needed}
use Rattle.report.proofs.Putting.{three_put, first_unfit, second_unfit}
use Rattle.report.proofs.Sides.{has_574, has_48, has_22}
use Rattle.report.proofs.put_instrument.Goals as goal

pub returns-in_err-a-clause-bytes : goal.returns-in_err-a-clause-bytes
returns-in_err-a-clause-bytes c =
    let w = c.args.given.words.now in
    let s = c.args.given.text.now in
    first_unfit (574 is bytes (needed w s 6)) (48 is bytes (needed w s 7)) (22 is bytes (needed w s 8)) c.from_residual.ensures (c.in_err-a.ensures.bytes has_574)

pub returns-in_err-b-clause-bytes : goal.returns-in_err-b-clause-bytes
returns-in_err-b-clause-bytes c =
    let w = c.args.given.words.now in
    let s = c.args.given.text.now in
    second_unfit (574 is bytes (needed w s 6)) (48 is bytes (needed w s 7)) (22 is bytes (needed w s 8)) c.from_residual-in_err-b.ensures (c.in_ok-a.ensures.bytes has_574) (c.in_err-b.ensures.bytes has_48)

pub returns-clause-bytes : goal.returns-clause-bytes
returns-clause-bytes c =
    let w = c.args.given.words.now in
    let s = c.args.given.text.now in
    three_put (574 is bytes (needed w s 6)) (48 is bytes (needed w s 7)) (22 is bytes (needed w s 8)) (c.in_ok-a.ensures.bytes has_574) (c.in_ok-b.ensures.bytes has_48) (c.put_needed-3.ensures.bytes has_22)
